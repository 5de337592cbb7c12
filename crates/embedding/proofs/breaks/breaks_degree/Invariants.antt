use Rattle.std.proofs.Common.{ℕ, ◌<◌, [], length, get_or}
use Rattle.embedding.proofs.breaks.breaks_degree.Given as goal

abbrev pub invariant-loop-place : goal.invariant-loop-place
invariant-loop-place l = (k : ℕ) → k < l.place → 4 < length (get_or l.lists k []) → ⊥
