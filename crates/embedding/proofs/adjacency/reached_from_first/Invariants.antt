use Rattle.std.proofs.Common.{◌-◌, length}
use Rattle.embedding.proofs.Reached.{IsWalking}
use Rattle.embedding.proofs.adjacency.reached_from_first.Given as goal

abbrev pub invariant-loop-done : goal.invariant-loop-done
invariant-loop-done l = IsWalking l.lists l.vertices.reached l.vertices.queue l.vertices.found l.done

abbrev pub decreases-loop-done : goal.decreases-loop-done
decreases-loop-done l = length l.vertices.queue - l.done
