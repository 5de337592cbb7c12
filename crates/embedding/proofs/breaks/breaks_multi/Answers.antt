use Rattle.std.proofs.Common.{ℕ, ◌<◌, List, sym, subst, below_more, arith}
use Rattle.std.specs.List.{All}
use Rattle.std.proofs.lemmas.Bool.{iff_false}
use Rattle.embedding.specs.declared.neighbour_lists.TheConstants.{VERTEX_NUMBERS}
use Rattle.embedding.specs.Rules.{NamesTwice}
use Rattle.embedding.proofs.Ranges.{all_at_in_range}
use Rattle.embedding.proofs.EachList.{blank_le, yes_is, no_is, found_at, none_below}
use Rattle.embedding.proofs.breaks.breaks_multi.Goals as goal

pub loop-place-init : goal.loop-place-init
loop-place-init c = (λ v _. blank_le VERTEX_NUMBERS v, λ k b. absurd (omega arith))

pub names_twice-requires-clause-small : goal.names_twice-requires-clause-small
names_twice-requires-clause-small c =
    subst (λ (l : List ℕ). All (λ v. v < VERTEX_NUMBERS) l) (sym c.at.ensures.value)
    (all_at_in_range c.args.lists.now c.requires VERTEX_NUMBERS c.loop-place.place (omega (arith, c.count-place-end.ensures.count, c.count-place-end.ensures.few)))

pub returns-then-names_twice : goal.returns-then-names_twice
returns-then-names_twice c =
    let g = c.args.lists.now in
    yes_is (found_at g (λ _ l. NamesTwice l) c.loop-place.place (subst (λ (l : List ℕ). NamesTwice l) c.at.ensures.value (c.names_twice.ensures.twice.0 c.if-names_twice.true)))

pub loop-place-preserved : goal.loop-place-preserved
loop-place-preserved c =
    (c.names_twice.ensures.flagged, below_more _ _ c.loop-place.invariant.1 (λ twice. iff_false c.names_twice.ensures.twice c.if-names_twice.false (subst (λ (l : List ℕ). NamesTwice l) (sym c.at.ensures.value) twice)))

pub returns : goal.returns
returns c =
    let g = c.args.lists.now in
    no_is (none_below g (λ _ l. NamesTwice l) c.loop-place.place (omega (arith, c.count-place-end.ensures.count)) (λ u twice. absurd (omega (arith, twice.3))) c.loop-place.invariant.1)
