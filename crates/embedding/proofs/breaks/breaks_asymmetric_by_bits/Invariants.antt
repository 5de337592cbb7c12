use Rattle.std.proofs.Common.{ℕ, ◌+◌, ◌<◌, [], get_or}
use Rattle.std.specs.List.{Any}
use Rattle.embedding.specs.Pairs.{HasPair}
use Rattle.embedding.proofs.Symmetry.{HasLists}
use Rattle.embedding.proofs.breaks.breaks_asymmetric_by_bits.Given as goal

-- the pairs are those of the lists that the loop has passed
abbrev pub invariant-loop-place : goal.invariant-loop-place
invariant-loop-place l = HasLists l.lists l.place l.pairs.words

abbrev pub invariant-loop-place-2 : goal.invariant-loop-place-2
invariant-loop-place-2 l =
    (k : ℕ) → k < l.place → Any (λ v. HasPair l.pairs.words v (k + 1) → ⊥) (get_or l.lists k []) → ⊥
