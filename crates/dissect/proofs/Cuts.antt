-- Chords, cuts and a rectangle round the map keep the paths of all edges.
use Rattle.std.proofs.Common.{◌≡◌, ℕ, ◌<◌, ◌≤◌, ◌⊎◌, ◌∙◌, List, [], ◌∷◌, arith, ap, inl, inr}
use Rattle.std.proofs.lemmas.Bool.{cases_lt}
use Rattle.dissect.specs.DartMaps.{DartMap, no_dart, IsTied, IsChord, IsCut, IsCutUp, same, further}
use Rattle.dissect.specs.Faces.{Below}
use Rattle.dissect.specs.Paths.{Follows, HasPath, HasPaths, path_quarters}
use Rattle.dissect.proofs.Splitting.{by_age, split_tied}
use Rattle.dissect.proofs.Lengthening.{KeepsHeads, IsKept, IsLonger, longer_end, longer_kept, path_kept, longer_turns}
use Rattle.dissect.proofs.Splits.{split_paths}
use Rattle.dissect.proofs.StayingConnected.{cut_up_tied}

-- a map to which darts were added that stand before none and have none before them
pub record IsBeside (w new : DartMap) : Type 0 where
  pub keeps : KeepsHeads w new
  pub kept : (b : ℕ) → b < w.darts → IsKept w new b
  pub fresh : (a : ℕ) → a < new.darts → w.darts ≤ a → new.before a ≡ no_dart

pub beside_longer : (w new : DartMap) → IsBeside w new → (a : ℕ) (rest : List ℕ) → a < w.darts → Below w.darts rest → Follows w a rest →
    IsLonger w new a rest (path_quarters w a rest)
beside_longer w new beside a [] a_in below follows = longer_end w new a
beside_longer w new beside a (b ∷ bs) a_in below follows =
    longer_kept w new a b bs (path_quarters w b bs) beside.keeps a_in follows (beside.kept b below.0)
    (beside_longer w new beside b bs below.0 below.1 follows.2)

pub beside_paths : (w new : DartMap) (n : ℕ) (reverse_dart : ℕ → ℕ) (quarters : ℕ → List ℕ) → IsBeside w new →
    HasPaths w n reverse_dart quarters → HasPaths new n reverse_dart quarters
beside_paths w new n reverse_dart quarters beside has = record {
  few = omega (arith, has.few, beside.keeps.more);
  paths = λ d l. path d (reverse_dart d) (quarters d) (has.paths d l);
  ends = λ a l. elim (cases_lt a w.darts) [
    | inl old ↦ as_before a (beside.kept a old).before (has.ends a old)
    | inr late ↦ inl (beside.fresh a l late)
  ];
}
  where
    path : (d reverse_dart : ℕ) (turns : List ℕ) → HasPath w d reverse_dart turns → HasPath new d reverse_dart turns
    path d reverse_dart turns old =
        path_kept w new d reverse_dart old.first old.rest turns old.path old.back (beside.kept old.first old.path.first_in)
        (longer_turns w new old.first old.rest (path_quarters w old.first old.rest) turns old.turns
        (beside_longer w new beside old.first old.rest old.path.first_in old.path.rest_in old.path.follows))

    as_before : (a : ℕ) → new.before a ≡ w.before a → (w.before a ≡ no_dart) ⊎ ((n ≤ w.before a) × (w.before a < w.darts)) →
        (new.before a ≡ no_dart) ⊎ ((n ≤ new.before a) × (new.before a < new.darts))
    as_before a kept (inl none) = inl (kept ∙ none)
    as_before a kept (inr inside) = inr (omega (arith, kept, inside.0), omega (arith, kept, inside.1, beside.keeps.more))

pub chord_beside : (w : DartMap) (d f way : ℕ) (new : DartMap) → IsTied w → IsChord w d f way new → IsBeside w new
chord_beside w d f way new tied chord = record {
  keeps = record { more = omega (arith, chord.darts); head = chord.head_old; direction = chord.direction_old };
  kept = λ b l. record {
    inside = omega (arith, chord.darts);
    before = chord.before_old b l;
    reverse_dart = chord.reverse_dart_old b l;
    head = ap new.head (chord.reverse_dart_old b l) ∙ chord.head_old (w.reverse_dart b) (tied.reverse_dart_in b l);
    direction = ap new.direction (chord.reverse_dart_old b l) ∙ chord.direction_old (w.reverse_dart b) (tied.reverse_dart_in b l);
  };
  fresh = λ a l late. by_age w.darts (λ (a : ℕ). w.darts ≤ a → new.before a ≡ no_dart)
      (λ a l late. absurd (omega (arith, l, late))) (λ _. chord.before_there) (λ _. chord.before_back)
      a (omega (arith, chord.darts)) late;
}

-- a chord keeps all paths
pub chord_paths : (w : DartMap) (d f way : ℕ) (new : DartMap) (n : ℕ) (reverse_dart : ℕ → ℕ) (quarters : ℕ → List ℕ) → IsTied w →
    IsChord w d f way new → HasPaths w n reverse_dart quarters → HasPaths new n reverse_dart quarters
chord_paths w d f way new n reverse_dart quarters tied chord = beside_paths w new n reverse_dart quarters (chord_beside w d f way new tied chord)

-- and so does a cut
pub cut_paths : (w : DartMap) (d e way : ℕ) (new : DartMap) (n : ℕ) (reverse_dart : ℕ → ℕ) (quarters : ℕ → List ℕ) → IsTied w →
    w.direction e < 4 → IsCut w d e way new → HasPaths w n reverse_dart quarters → HasPaths new n reverse_dart quarters
cut_paths w d e way new n reverse_dart quarters tied quarter cut has =
    chord_paths cut.middle d w.darts way new n reverse_dart quarters
    (split_tied w e (w.direction e) 2 cut.middle tied cut.e_in cut.subdivide) cut.chord
    (split_paths w e (w.direction e) cut.middle n reverse_dart quarters tied cut.e_in quarter cut.subdivide has)

-- the four directions are numbered below 4
abbrev pub AreQuarters : DartMap → Type 0
AreQuarters w = (a : ℕ) → a < w.darts → w.direction a < 4

pub cut_quarters : (w : DartMap) (d e way : ℕ) (new : DartMap) → AreQuarters w → IsCut w d e way new → AreQuarters new
cut_quarters w d e way new quarters cut a l =
    let subdivide = cut.subdivide in
    let chord = cut.chord in
    let middle : AreQuarters cut.middle = λ a l.
    by_age w.darts (λ (a : ℕ). cut.middle.direction a < 4)
    (λ a l. omega (arith, subdivide.direction_old a l, quarters a l))
    (omega (arith, subdivide.direction_first, quarters e cut.e_in)) (omega (arith, subdivide.direction_second))
    a (omega (arith, subdivide.darts)) in
    by_age cut.middle.darts (λ (a : ℕ). new.direction a < 4)
    (λ a l. omega (arith, chord.direction_old a l, middle a l))
    (omega (arith, chord.direction_there, cut.fits.direction_quarter)) (omega (arith, chord.direction_back))
    a (omega (arith, chord.darts))

pub cut_up_quarters : (w new : DartMap) → AreQuarters w → IsCutUp w new → AreQuarters new
cut_up_quarters w new quarters same = quarters
cut_up_quarters w new quarters (further mid last d e way cut_up cut _) =
    cut_quarters mid d e way last (cut_up_quarters w mid quarters cut_up) cut

pub cut_up_paths : (w new : DartMap) (n : ℕ) (reverse_dart : ℕ → ℕ) (quarters : ℕ → List ℕ) → IsTied w → AreQuarters w → IsCutUp w new →
    HasPaths w n reverse_dart quarters → HasPaths new n reverse_dart quarters
cut_up_paths w new n reverse_dart quarters tied four same has = has
cut_up_paths w new n reverse_dart quarters tied four (further mid last d e way cut_up cut _) has =
    cut_paths mid d e way last n reverse_dart quarters (cut_up_tied w mid tied cut_up) (cut_up_quarters w mid four cut_up e cut.e_in) cut
    (cut_up_paths w mid n reverse_dart quarters tied four cut_up has)
