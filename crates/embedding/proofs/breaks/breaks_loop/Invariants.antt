use Rattle.std.proofs.Common.{ℕ, ◌+◌, ◌<◌, [], get_or}
use Rattle.std.specs.List.{Contains}
use Rattle.embedding.proofs.breaks.breaks_loop.Given as goal

abbrev pub invariant-loop-place : goal.invariant-loop-place
invariant-loop-place l = (k : ℕ) → k < l.place → Contains (get_or l.lists k []) (k + 1) → ⊥
