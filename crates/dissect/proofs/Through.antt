-- The path of an edge goes through the darts that it was made of, in their order, whatever is cut.
use Rattle.std.proofs.Common.{◌≡◌, ℕ, ◌+◌, ◌<◌, ◌≤◌, ◌⊎◌, ◌∙◌, List, [], ◌∷◌, arith, subst, sym, refl, inl, inr}
use Rattle.std.proofs.lemmas.Bool.{cases_eq}
use Rattle.dissect.specs.DartMaps.{DartMap, no_dart, IsTied, IsSubdivided, IsCut, IsCutUp, same, further}
use Rattle.dissect.specs.Faces.{last_of, Below}
use Rattle.dissect.specs.Paths.{Follows, IsPath}
use Rattle.dissect.specs.Surrounds.{IsEnclosed}
use Rattle.dissect.proofs.Splitting.{split_tied}
use Rattle.dissect.proofs.Backwards.{path_unique}
use Rattle.dissect.proofs.Lengthening.{KeepsHeads, IsKept, IsDoubled}
use Rattle.dissect.proofs.Splits.{split_keeps, split_kept, split_doubled, split_doubled_back}
use Rattle.dissect.proofs.StayingConnected.{cut_up_tied, cut_tied}
use Rattle.dissect.proofs.Cuts.{IsBeside, chord_beside, AreQuarters, cut_quarters, cut_up_quarters}
use Rattle.dissect.proofs.SurroundedPaths.{surrounded_tied, surrounded_quarters, surrounded_beside}
use Rattle.dissect.specs.Boxed.{StandOn}

pub stands_itself : (xs : List ℕ) → StandOn xs xs
stands_itself [] = tt
stands_itself (x ∷ xs) = inl (refl, stands_itself xs)

pub stands_further : (xs ys zs : List ℕ) → StandOn xs ys → StandOn ys zs → StandOn xs zs
stands_further [] ys zs one two = tt
stands_further (x ∷ xs) [] zs one two = absurd one
stands_further (x ∷ xs) (y ∷ ys) [] one two = absurd two
stands_further (x ∷ xs) (y ∷ ys) (z ∷ zs) (inl (at, more)) (inl (met, rest)) = inl (at ∙ met, stands_further xs ys zs more rest)
stands_further (x ∷ xs) (y ∷ ys) (z ∷ zs) (inr later) (inl (met, rest)) = inr (stands_further (x ∷ xs) ys zs later rest)
stands_further (x ∷ xs) (y ∷ ys) (z ∷ zs) one (inr later) = inr (stands_further (x ∷ xs) (y ∷ ys) zs one later)

-- the dart b has before it what it had, or one new dart, before which stands what stood before b
abbrev pub StaysBehind : DartMap → DartMap → ℕ → Type 0
StaysBehind w new b = IsKept w new b ⊎ ((front : ℕ) × IsDoubled w new b front 0)

-- a map with more darts, where each old dart stays after what it was after
pub record IsStep (w new : DartMap) : Type 0 where
  pub keeps : KeepsHeads w new
  pub stays : (b : ℕ) → b < w.darts → StaysBehind w new b

-- what follows the dart a in the new map goes through the list
pub record IsSpread (w new : DartMap) (a : ℕ) (rest : List ℕ) : Type 0 where
  pub list : List ℕ
  pub inside : Below new.darts list
  pub follows : Follows new a list
  pub last : last_of a list ≡ last_of a rest
  pub holds : StandOn rest list

spread : (w new : DartMap) → IsStep w new → (a : ℕ) (rest : List ℕ) → a < w.darts → Below w.darts rest → Follows w a rest →
    IsSpread w new a rest
spread w new step a [] a_in below follows = record { list = []; inside = tt; follows = tt; last = refl; holds = tt }
spread w new step a (b ∷ bs) a_in below follows =
    let on = spread w new step b bs below.0 below.1 follows.2 in
    let head = sym (step.keeps.head a a_in) in
    elim (step.stays b below.0) [
      | inl kept ↦ record {
        list = b ∷ on.list;
        inside = (kept.inside, on.inside);
        follows = (kept.before ∙ follows.0, kept.head ∙ follows.1 ∙ head, on.follows);
        last = on.last;
        holds = inl (refl, on.holds);
      }
      | inr (front, doubled) ↦ record {
        list = front ∷ b ∷ on.list;
        inside = (doubled.front_in, (doubled.inside, on.inside));
        follows = (doubled.before ∙ follows.0, doubled.head ∙ follows.1 ∙ head, (doubled.behind, doubled.meets, on.follows));
        last = on.last;
        holds = inr (inl (refl, on.holds));
      }
    ]

-- the path that ends with the dart `end` goes through the darts of the list
pub record GoesThrough (w : DartMap) (end : ℕ) (held : List ℕ) : Type 0 where
  pub first : ℕ
  pub rest : List ℕ
  pub path : IsPath w end first rest
  pub holds : StandOn held (first ∷ rest)

step_through : (w new : DartMap) (end : ℕ) (held : List ℕ) → IsStep w new → GoesThrough w end held → GoesThrough new end held
step_through w new end held step old =
    let f : ℕ = old.first in
    let path = old.path in
    let on = spread w new step f old.rest path.first_in path.rest_in path.follows in
    elim (step.stays f path.first_in) [
      | inl kept ↦ record {
        first = f;
        rest = on.list;
        path = record {
          first_in = kept.inside;
          rest_in = on.inside;
          start = kept.before ∙ path.start;
          follows = on.follows;
          ends = on.last ∙ path.ends;
        };
        holds = stands_further held (f ∷ old.rest) (f ∷ on.list) old.holds (inl (refl, on.holds));
      }
      | inr (front, doubled) ↦ record {
        first = front;
        rest = f ∷ on.list;
        path = record {
          first_in = doubled.front_in;
          rest_in = (doubled.inside, on.inside);
          start = doubled.before ∙ path.start;
          follows = (doubled.behind, doubled.meets, on.follows);
          ends = on.last ∙ path.ends;
        };
        holds = stands_further held (f ∷ old.rest) (front ∷ f ∷ on.list) old.holds (inr (inl (refl, on.holds)));
      }
    ]

beside_step : (w new : DartMap) → IsBeside w new → IsStep w new
beside_step w new beside = record { keeps = beside.keeps; stays = λ b l. inl (beside.kept b l) }

split_step : (w : DartMap) (e way : ℕ) (new : DartMap) → IsTied w → e < w.darts → way < 4 → IsSubdivided w e way 2 new → IsStep w new
split_step w e way new tied e_in quarter subdivide = record {
  keeps = split_keeps w e way 2 new subdivide;
  stays = λ b l. elim (cases_eq b e) [
    | inl at ↦ subst (StaysBehind w new) (sym at)
        (inr (w.darts, split_doubled w e way 2 0 new tied e_in quarter (omega arith) refl subdivide))
    | inr not_e ↦ elim (cases_eq b (w.reverse_dart e)) [
      | inl at ↦ subst (StaysBehind w new) (sym at)
          (inr (w.darts + 1, split_doubled_back w e way 2 0 new tied e_in quarter (omega arith) refl subdivide))
      | inr not_t ↦ inl (split_kept w e way 2 new tied subdivide b l not_e not_t)
    ]
  ];
}

cut_through : (w : DartMap) (d e way : ℕ) (new : DartMap) (end : ℕ) (held : List ℕ) → IsTied w → w.direction e < 4 → IsCut w d e way new →
    GoesThrough w end held → GoesThrough new end held
cut_through w d e way new end held tied quarter cut old =
    let tied_middle = split_tied w e (w.direction e) 2 cut.middle tied cut.e_in cut.subdivide in
    step_through cut.middle new end held (beside_step cut.middle new (chord_beside cut.middle d w.darts way new tied_middle cut.chord))
    (step_through w cut.middle end held (split_step w e (w.direction e) cut.middle tied cut.e_in quarter cut.subdivide) old)

cut_up_through : (w new : DartMap) (end : ℕ) (held : List ℕ) → IsTied w → AreQuarters w → IsCutUp w new → GoesThrough w end held →
    GoesThrough new end held
cut_up_through w new end held tied four same old = old
cut_up_through w new end held tied four (further mid last d e way cut_up cut _) old =
    cut_through mid d e way last end held (cut_up_tied w mid tied cut_up) (cut_up_quarters w mid four cut_up e cut.e_in) cut
    (cut_up_through w mid end held tied four cut_up old)

enclosed_through : (w : DartMap) (outside : ℕ) (new : DartMap) (end : ℕ) (held : List ℕ) → IsTied w → AreQuarters w →
    IsEnclosed w outside new → GoesThrough w end held → GoesThrough new end held
enclosed_through w outside new end held tied four e old =
    let side : ℕ = w.darts + e.side in
    let tied_surrounded = surrounded_tied w e.surrounded tied e.surround in
    let four_surrounded = surrounded_quarters w e.surrounded four e.surround in
    let tied_bridged = cut_tied e.surrounded e.right side e.direction e.bridged tied_surrounded e.bridge in
    let four_bridged = cut_quarters e.surrounded e.right side e.direction e.bridged four_surrounded e.bridge in
    cut_up_through e.bridged new end held tied_bridged four_bridged e.cut_up
    (cut_through e.surrounded e.right side e.direction e.bridged end held tied_surrounded (four_surrounded side e.bridge.e_in) e.bridge
    (step_through w e.surrounded end held (beside_step w e.surrounded (surrounded_beside w e.surrounded tied e.surround)) old))

-- what was a path of the map stands on the path with the same end in what it grew to
pub through : (w : DartMap) (outside : ℕ) (new : DartMap) → IsTied w → AreQuarters w → IsEnclosed w outside new → new.darts ≤ no_dart →
    (end first first' : ℕ) (rest rest' : List ℕ) → IsPath w end first rest → IsPath new end first' rest' →
    StandOn (first ∷ rest) (first' ∷ rest')
through w outside new tied four e darts_fit end first first' rest rest' path path' =
    let old : GoesThrough w end (first ∷ rest) =
    record { first = first; rest = rest; path = path; holds = stands_itself (first ∷ rest) } in
    let now = enclosed_through w outside new end (first ∷ rest) tied four e old in
    let one = path_unique new end now.first first' now.rest rest' darts_fit now.path path' in
    subst (λ (ys : List ℕ). StandOn (first ∷ rest) (first' ∷ ys)) one.rests
    (subst (λ (y : ℕ). StandOn (first ∷ rest) (y ∷ now.rest)) one.first now.holds)
