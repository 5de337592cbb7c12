use Rattle.std.proofs.Common.{ℕ, ◌+◌, ◌<◌}
use Rattle.std.specs.List.{Any, Contains}
use Rattle.embedding.specs.Lists.{list_of}
use Rattle.embedding.proofs.breaks.breaks_asymmetric_by_search.Given as goal

abbrev pub invariant-loop-place : goal.invariant-loop-place
invariant-loop-place l =
    (k : ℕ) → k < l.place → Any (λ v. Contains (list_of l.lists v) (k + 1) → ⊥) (list_of l.lists (k + 1)) → ⊥
