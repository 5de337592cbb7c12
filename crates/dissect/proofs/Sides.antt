-- A chain of darts by itself, as a side of the rectangle or its bridge: splits, chords, cuts and a rectangle keep it, its
-- turns and the darts on it.
use Rattle.std.proofs.Common.{ℕ, ◌+◌, ◌<◌, List, ◌∷◌, arith, subst, sym, refl, inl, inr}
use Rattle.std.proofs.lemmas.Bool.{cases_eq}
use Rattle.dissect.specs.DartMaps.{DartMap, IsTied, IsSubdivided, IsCut, IsCutUp, same, further}
use Rattle.dissect.specs.Faces.{In}
use Rattle.dissect.specs.Paths.{HasPath, path_quarters}
use Rattle.dissect.proofs.Splitting.{split_tied}
use Rattle.dissect.proofs.Lengthening.{IsDoubled, IsKept, IsLonger, holds_behind, longer_turns, path_kept, path_doubled}
use Rattle.dissect.proofs.Splits.{split_kept, split_doubled, split_doubled_back, split_longer}
use Rattle.dissect.proofs.StayingConnected.{cut_up_tied}
use Rattle.dissect.proofs.Cuts.{IsBeside, beside_longer, chord_beside, AreQuarters, cut_up_quarters}

-- the chain that ends with the dart `end` sets out with the reverse of `reverse_dart`, has these turns, and holds the dart `held`
pub record HasChain (w : DartMap) (end reverse_dart held : ℕ) (turns : List ℕ) : Type 0 where
  pub path : HasPath w end reverse_dart turns
  pub holds : In held (path.first ∷ path.rest)

chain_kept : (w new : DartMap) (end reverse_dart held : ℕ) (turns : List ℕ) → (old : HasChain w end reverse_dart held turns) → IsKept w new old.path.first →
    IsLonger w new old.path.first old.path.rest turns → HasChain new end reverse_dart held turns
chain_kept w new end reverse_dart held turns old kept longer = record {
  path = path_kept w new end reverse_dart old.path.first old.path.rest turns old.path.path old.path.back kept longer;
  holds = holds_behind held old.path.first old.path.rest longer.list longer.holds old.holds;
}

chain_doubled : (w new : DartMap) (end reverse_dart held front : ℕ) (turns : List ℕ) → (old : HasChain w end reverse_dart held turns) →
    IsDoubled w new old.path.first front 0 → IsLonger w new old.path.first old.path.rest turns → HasChain new end reverse_dart held turns
chain_doubled w new end reverse_dart held front turns old doubled longer = record {
  path = path_doubled w new end reverse_dart old.path.first front 0 old.path.rest turns old.path.path old.path.back doubled longer;
  holds = inr (holds_behind held old.path.first old.path.rest longer.list longer.holds old.holds);
}

pub split_chain : (w : DartMap) (e way : ℕ) (new : DartMap) (end reverse_dart held : ℕ) (turns : List ℕ) → IsTied w → e < w.darts → way < 4 →
    IsSubdivided w e way 2 new → HasChain w end reverse_dart held turns → HasChain new end reverse_dart held turns
split_chain w e way new end reverse_dart held turns tied e_in quarter subdivide old =
    let f : ℕ = old.path.first in
    let rest : List ℕ = old.path.rest in
    let longer = longer_turns w new f rest (path_quarters w f rest) turns old.path.turns
    (split_longer w e way new tied e_in quarter subdivide f rest old.path.path.first_in old.path.path.rest_in old.path.path.follows) in
    elim (cases_eq f e) [
      | inl at ↦ chain_doubled w new end reverse_dart held w.darts turns old
          (subst (λ (k : ℕ). IsDoubled w new k w.darts 0) (sym at)
          (split_doubled w e way 2 0 new tied e_in quarter (omega arith) refl subdivide)) longer
      | inr not_e ↦ elim (cases_eq f (w.reverse_dart e)) [
        | inl at ↦ chain_doubled w new end reverse_dart held (w.darts + 1) turns old
            (subst (λ (k : ℕ). IsDoubled w new k (w.darts + 1) 0) (sym at)
            (split_doubled_back w e way 2 0 new tied e_in quarter (omega arith) refl subdivide)) longer
        | inr not_t ↦ chain_kept w new end reverse_dart held turns old
            (split_kept w e way 2 new tied subdivide f old.path.path.first_in not_e not_t) longer
      ]
    ]

pub beside_chain : (w new : DartMap) (end reverse_dart held : ℕ) (turns : List ℕ) → IsBeside w new → HasChain w end reverse_dart held turns →
    HasChain new end reverse_dart held turns
beside_chain w new end reverse_dart held turns beside old =
    chain_kept w new end reverse_dart held turns old (beside.kept old.path.first old.path.path.first_in)
    (longer_turns w new old.path.first old.path.rest (path_quarters w old.path.first old.path.rest) turns old.path.turns
    (beside_longer w new beside old.path.first old.path.rest old.path.path.first_in old.path.path.rest_in old.path.path.follows))

pub cut_chain : (w : DartMap) (d e way : ℕ) (new : DartMap) (end reverse_dart held : ℕ) (turns : List ℕ) → IsTied w → w.direction e < 4 →
    IsCut w d e way new → HasChain w end reverse_dart held turns → HasChain new end reverse_dart held turns
cut_chain w d e way new end reverse_dart held turns tied quarter cut old =
    beside_chain cut.middle new end reverse_dart held turns
    (chord_beside cut.middle d w.darts way new (split_tied w e (w.direction e) 2 cut.middle tied cut.e_in cut.subdivide) cut.chord)
    (split_chain w e (w.direction e) cut.middle end reverse_dart held turns tied cut.e_in quarter cut.subdivide old)

pub cut_up_chain : (w new : DartMap) (end reverse_dart held : ℕ) (turns : List ℕ) → IsTied w → AreQuarters w → IsCutUp w new →
    HasChain w end reverse_dart held turns → HasChain new end reverse_dart held turns
cut_up_chain w new end reverse_dart held turns tied four same old = old
cut_up_chain w new end reverse_dart held turns tied four (further mid last d e way cut_up cut _) old =
    cut_chain mid d e way last end reverse_dart held turns (cut_up_tied w mid tied cut_up) (cut_up_quarters w mid four cut_up e cut.e_in) cut
    (cut_up_chain w mid end reverse_dart held turns tied four cut_up old)
