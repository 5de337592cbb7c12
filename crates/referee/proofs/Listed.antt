-- Strings of darts that are listed one after another.
use Rattle.std.proofs.Common.{◌≡◌, ◌≤◌, ◌<◌, ◌+◌, ◌-◌, ℕ, Bool, true, false, List, [], ◌∷◌, ◌++◌, length, get_or, refl, sym, ap, ◌∙◌, subst, ⊎_elim, inl, inr, below_more, arith}
use Rattle.std.proofs.lemmas.Bool.{both_ways, cases_lt, lt-ltb, le-ltb}
use Rattle.std.proofs.lemmas.List.{get_or_append_left, get_or_push}
use Rattle.geometry.specs.declared.direction.Direction.{Direction}
use Rattle.geometry.specs.Directions.{left_quarters}
use Rattle.faces.specs.Planes.{PlaneModel, HasEnds, darts, reverse_dart, next}
use Rattle.ortho_rep.specs.declared.turn_strings.Turn.{Turn}
use Rattle.ortho_rep.specs.declared.turn_strings.Turn.TheVariants.{Left, Right}
use Rattle.ortho_rep.specs.Turns.{mirrored, opposite}
use Rattle.ortho_rep.specs.Shapes.{ShapeModel, angle_at, turns_at}
use Rattle.ortho_rep.specs.Points.{PointsModel}
use Rattle.ortho_rep.specs.Edges.{is_lesser}
use Rattle.ortho_rep.specs.Representation.{HasDarts}
use Rattle.ortho_rep.proofs.Mirrors.{length-mirrored, get_or-mirrored, mirrored-from}
use Rattle.drawing_check.specs.Paths.{path_along}
use Rattle.drawing_check.specs.Draws.{IsTurning, TurnAsSaid, leaving}
use Rattle.drawing_check.specs.Routes.{direction_at}
use Rattle.drawing_check.proofs.Leaving.{reverse_dart_is_greater}
use Rattle.drawing_check.proofs.Routing.{each_lesser}
use Rattle.referee.specs.Taken.{IsTaken}

opposite-twice : (t : Turn) → opposite (opposite t) ≡ t
opposite-twice Left = refl
opposite-twice Right = refl

mirrored-twice : (ts : List Turn) → ts ≡ mirrored (mirrored ts)
mirrored-twice ts =
    let size : length (mirrored ts) ≡ length ts = length-mirrored ts in
    mirrored-from (mirrored ts) ts size
    (λ k b. sym (opposite-twice (get_or ts (length ts - 1 - k) Left)) ∙ ap opposite (sym (get_or-mirrored ts k (omega (arith, b, size)))))

-- the strings of the darts below n: those of lesser darts turn as their paths, the others are mirror images
pub record AreListed (p : PlaneModel) (points : PointsModel) (strings : List (List Turn)) (n : ℕ) : Type 0 where
  pub lesser : (d : ℕ) → d < n → is_lesser p d ≡ true → IsTurning (path_along p points d) (get_or strings d [])
  pub greater : (d : ℕ) → d < n → is_lesser p d ≡ false → get_or strings d [] ≡ mirrored (get_or strings (reverse_dart p d) [])

back_before : (p : PlaneModel) (d : ℕ) → is_lesser p d ≡ false → reverse_dart p d ≤ d
back_before p d greater =
    ⊎_elim
    (λ less. absurd (both_ways (is_lesser p d) greater (lt-ltb d (reverse_dart p d) less)))
    (λ ge. ge)
    (cases_lt d (reverse_dart p d))

pub listed_more : (p : PlaneModel) (points : PointsModel) (old new : List (List Turn)) (string : List Turn) (n : ℕ) → HasEnds p → n < darts p → new ≡ old ++ string ∷ [] → length old ≡ n → AreListed p points old n
    → (is_lesser p n ≡ true → IsTurning (path_along p points n) string) → (is_lesser p n ≡ false → string ≡ mirrored (get_or old (reverse_dart p n) [])) → AreListed p points new (n + 1)
listed_more p points old new string n ends inside is_new size before turning mirror =
    let kept : (k : ℕ) → k < n → get_or new k [] ≡ get_or old k [] = λ k lt. ap (λ (l : List (List Turn)). get_or l k []) is_new ∙ get_or_append_left old (string ∷ []) [] k (omega (arith, size, lt)) in
    let last : get_or new n [] ≡ string = ap (λ (l : List (List Turn)). get_or l n []) is_new ∙ get_or_push old string [] n size in
    record {
      lesser = below_more _ _
          (λ d lt lesser. subst (λ (ts : List Turn). IsTurning (path_along p points d) ts) (sym (kept d lt)) (before.lesser d lt lesser))
          (λ lesser. subst (λ (ts : List Turn). IsTurning (path_along p points n) ts) (sym last) (turning lesser));
      greater = below_more _ _
          (λ d lt greater.
          let earlier : reverse_dart p d < n = omega (arith, back_before p d greater, lt) in
          kept d lt ∙ before.greater d lt greater ∙ ap mirrored (sym (kept (reverse_dart p d) earlier)))
          (λ greater.
          let apart = ends.reverse_dart_apart n inside in
          let earlier : reverse_dart p n < n = below (reverse_dart p n) n (back_before p n greater) apart in
          last ∙ mirror greater ∙ ap mirrored (sym (kept (reverse_dart p n) earlier)));
    }
  where
    below : (a b : ℕ) → a ≤ b → (a ≡ b → ⊥) → a < b
    below a b le ne = omega (arith, le, ne)

pub listed_none : (p : PlaneModel) (points : PointsModel) (strings : List (List Turn)) → AreListed p points strings 0
listed_none p points strings = record { lesser = λ d lt. absurd (omega (arith, lt)); greater = λ d lt. absurd (omega (arith, lt)) }

pub listed_mirrors : (p : PlaneModel) (points : PointsModel) (strings : List (List Turn)) (n : ℕ) → HasEnds p → n ≡ darts p → AreListed p points strings n → (d : ℕ) → d < darts p → get_or strings (reverse_dart p d) [] ≡ mirrored (get_or strings d [])
listed_mirrors p points strings n ends all is d inside =
    let r : ℕ = reverse_dart p d in
    let r_in : r < darts p = ends.reverse_dart_in_range d inside in
    let back : reverse_dart p r ≡ d = ends.reverse_dart_back d inside in
    ⊎_elim
    (λ less.
    let greater : is_lesser p r ≡ false = reverse_dart_is_greater p d ends inside (lt-ltb d r less) in
    is.greater r (omega (arith, r_in, all)) greater ∙ ap (λ (e : ℕ). mirrored (get_or strings e [])) back)
    (λ ge.
    let greater : is_lesser p d ≡ false = le-ltb d r ge in
    mirrored-twice (get_or strings r []) ∙ ap mirrored (sym (is.greater d (omega (arith, inside, all)) greater)))
    (cases_lt d r)

-- the shape of such strings, and of the angles between the darts
pub taken_of : (p : PlaneModel) (points : PointsModel) (shape : ShapeModel) (directions : List Direction) → HasEnds p → HasDarts p shape
    → ((d : ℕ) → d < darts p → is_lesser p d ≡ true → IsTurning (path_along p points d) (turns_at shape d))
    → ((d : ℕ) → d < darts p → turns_at shape (reverse_dart p d) ≡ mirrored (turns_at shape d))
    → ((d : ℕ) → d < darts p → (1 ≤ angle_at shape d) × (angle_at shape d ≤ 4))
    → ((d : ℕ) → d < darts p → direction_at directions d ≡ leaving p points d)
    → ((d : ℕ) → d < darts p → direction_at directions (reverse_dart p d) ≡ left_quarters (angle_at shape d) (direction_at directions (next p d)))
    → IsTaken p points shape
taken_of p points shape directions ends lengths turning mirrors angles leave heads = record {
  lengths = lengths;
  angles = angles;
  strings = mirrors;
  turns = record {
    edges = (each_lesser (λ d. IsTurning (path_along p points d) (turns_at shape d)) p).1 turning;
    heads = λ d inside.
        sym (leave (reverse_dart p d) (ends.reverse_dart_in_range d inside)) ∙ heads d inside
        ∙ ap (left_quarters (angle_at shape d)) (leave (next p d) (ends.next_one.inside d inside));
  };
}
