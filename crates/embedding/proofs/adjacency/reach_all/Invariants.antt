use Rattle.embedding.proofs.Reached.{Reaches}
use Rattle.embedding.proofs.adjacency.reach_all.Given as goal

abbrev pub invariant-loop-v : goal.invariant-loop-v
invariant-loop-v l =
    Reaches l.initial.vertices.reached l.initial.vertices.queue l.initial.vertices.found l.list l.v-index l.vertices.reached l.vertices.queue l.vertices.found
