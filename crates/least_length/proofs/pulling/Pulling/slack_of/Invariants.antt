use Rattle.std.proofs.Common.{◌≤◌, vec_len}
use Rattle.least_length.proofs.pulling.Pulling.slack_of.Given as goal

abbrev pub invariant-loop-end : goal.invariant-loop-end
invariant-loop-end l = l.end ≤ vec_len l.self.sight_lists.ends.nexts

abbrev pub decreases-loop-end : goal.decreases-loop-end
decreases-loop-end l = l.end
