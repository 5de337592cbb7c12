use Rattle.embedding.proofs.Flagging.{IsFlagging}
use Rattle.embedding.proofs.breaks.names_twice.Given as goal

abbrev pub invariant-loop-v : goal.invariant-loop-v
invariant-loop-v l = IsFlagging l.list l.vertex l.last l.v-index
