use Rattle.std.proofs.Common.{ℕ, ◌<◌, [], length, get_or}
use Rattle.std.specs.List.{Any}
use Rattle.embedding.proofs.breaks.breaks_range.Given as goal

abbrev pub invariant-loop-place : goal.invariant-loop-place
invariant-loop-place l =
    (k : ℕ) → k < l.place → Any (λ v. length l.lists < v) (get_or l.lists k []) → ⊥
