use Rattle.std.proofs.Common.{◌≡◌, ℕ, ◌+◌, ◌<◌, List, [], length, get_or, sym, subst, below_more, arith}
use Rattle.std.proofs.lemmas.Bool.{iff_false}
use Rattle.std.specs.List.{All, Any}
use Rattle.embedding.specs.Pairs.{HasPair}
use Rattle.embedding.proofs.Ranges.{all_at_in_range}
use Rattle.embedding.proofs.EachList.{yes_is, no_is}
use Rattle.embedding.proofs.Symmetry.{HasLists, lacks_breaks, lacks_none}
use Rattle.embedding.proofs.breaks.breaks_asymmetric_by_bits.Goals as goal

pub add_pairs-requires-clause-small : goal.add_pairs-requires-clause-small
add_pairs-requires-clause-small c =
    subst (λ (l : List ℕ). All (λ v. v < 256) l) (sym c.at.ensures.value)
    (all_at_in_range c.args.lists.now c.requires.range 256 c.loop-place.place c.requires.few)

pub lacks_pair-requires-clause-small : goal.lacks_pair-requires-clause-small
lacks_pair-requires-clause-small c =
    subst (λ (l : List ℕ). All (λ v. v < 256) l) (sym c.at-in-loop-place-2.ensures.value)
    (all_at_in_range c.args.lists.now c.requires.range 256 c.loop-place-2.place c.requires.few)

pub returns-then-lacks_pair : goal.returns-then-lacks_pair
returns-then-lacks_pair c =
    let g = c.args.lists.now in
    let size : length g ≡ c.loop-place.place =
    omega (arith, c.count-place-end.ensures.count, c.loop-place-test.false, c.loop-place.auto.place-end) in
    let has : HasLists g (length g) c.loop-place.pairs.words =
    subst (λ (n : ℕ). HasLists g n c.loop-place.pairs.words) (sym size) c.loop-place.invariant in
    let lacks : Any (λ v. HasPair c.loop-place.pairs.words v (c.loop-place-2.place + 1) → ⊥) (get_or g c.loop-place-2.place []) =
    subst (λ (l : List ℕ). Any (λ v. HasPair c.loop-place.pairs.words v (c.loop-place-2.place + 1) → ⊥) l) c.at-in-loop-place-2.ensures.value (c.lacks_pair.ensures.0 c.if-lacks_pair.true) in
    yes_is (lacks_breaks g c.loop-place.pairs.words c.loop-place-2.place c.requires.range c.requires.few (omega (arith, c.count-place-end-2.ensures.count)) has lacks)

pub loop-place-2-preserved : goal.loop-place-2-preserved
loop-place-2-preserved c =
    let g = c.args.lists.now in
    below_more _ _ c.loop-place-2.invariant
    (λ any. iff_false c.lacks_pair.ensures c.if-lacks_pair.false (subst (λ (l : List ℕ). Any (λ v. HasPair c.loop-place.pairs.words v (c.loop-place-2.place + 1) → ⊥) l) (sym c.at-in-loop-place-2.ensures.value) any))

pub returns : goal.returns
returns c =
    let g = c.args.lists.now in
    let size : length g ≡ c.loop-place.place =
    omega (arith, c.count-place-end.ensures.count, c.loop-place-test.false, c.loop-place.auto.place-end) in
    let has : HasLists g (length g) c.loop-place.pairs.words =
    subst (λ (n : ℕ). HasLists g n c.loop-place.pairs.words) (sym size) c.loop-place.invariant in
    no_is (lacks_none g c.loop-place.pairs.words c.requires.range c.requires.few has (λ k below. c.loop-place-2.invariant k (omega (arith, c.count-place-end-2.ensures.count, c.loop-place-2-test.false))))
