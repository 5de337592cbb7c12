-- The least coordinates in the order of boxes.
use Rattle.std.proofs.Common.{◌≡◌, ℕ, ◌<◌, ◌∙◌, List, [], ◌∷◌, All, length, map, get_or, arith, sym, ap, subst, eqb, inl, inr, eq-eqb, ne_eqb}
use Rattle.std.proofs.lemmas.Bool.{cases_eq, cond-true, cond-false}
use Rattle.std.proofs.lemmas.List.{get_or_default}
use Rattle.std.proofs.lemmas.List.Elements.{All-nil, All-cons}
use Rattle.std.proofs.lemmas.List.FromFn.{get_or-map-range_with_len}
use Rattle.ortho_rep.specs.declared.grid_points.Point.{Point}
use Rattle.ortho_rep.specs.Points.{PointsModel, AreBelow, IsBelow}
use Rattle.dissect.specs.DartMaps.{DartMap}
use Rattle.dissect.specs.Faces.{Below}
use Rattle.dissect.specs.Paths.{turn_to, turning_vertices}
use Rattle.dissect.specs.Boxes.{BoxesModel, AreBoxes, dart_map}
use Rattle.dissect.specs.Monotone.{IsMonotone, AreLeastPoints, point_at}
use Rattle.drawing_laws.specs.Least.{AreLeast, HasLeast, HasNoGap}
use Rattle.drawing_laws.proofs.Axes.{Follow, HasEnds, least_following, no_gap, few_numbers}

ends_of : (b : BoxesModel) → AreBoxes b → HasEnds (dart_map b)
ends_of b boxes = record {
  tail_in = λ a inside. boxes.sound.meeting.head_in ((dart_map b).reverse_dart a) (boxes.sound.tied.reverse_dart_in a inside);
  head_in = boxes.sound.meeting.head_in;
}

-- coordinates in order along each axis, and both together
x_follows : (b : BoxesModel) (x y : ℕ → ℕ) → IsMonotone (dart_map b) x y → Follow (dart_map b) 0 1 b.darts x
x_follows b x y o = record { grow = λ a inside goes. (o.east a inside goes).0; stay = λ a inside across. (o.north a inside across).1 }

y_follows : (b : BoxesModel) (x y : ℕ → ℕ) → IsMonotone (dart_map b) x y → Follow (dart_map b) 1 0 b.darts y
y_follows b x y o = record { grow = λ a inside goes. (o.north a inside goes).0; stay = λ a inside across. (o.east a inside across).1 }

in_order : (b : BoxesModel) (x y : ℕ → ℕ) → Follow (dart_map b) 0 1 b.darts x → Follow (dart_map b) 1 0 b.darts y → IsMonotone (dart_map b) x y
in_order b x y fx fy = record {
  east = λ a inside goes. (fx.grow a inside goes, fy.stay a inside goes);
  north = λ a inside goes. (fy.grow a inside goes, fx.stay a inside goes);
}

pub least_exist : (b : BoxesModel) (x y : ℕ → ℕ) → AreBoxes b → IsMonotone (dart_map b) x y → HasLeast b
least_exist b x y boxes o =
    let lx = least_following (dart_map b) 0 1 x (ends_of b boxes) (λ e. omega (arith, e)) (x_follows b x y o) in
    let ly = least_following (dart_map b) 1 0 y (ends_of b boxes) (λ e. omega (arith, e)) (y_follows b x y o) in (
      lx.0,
      ly.0,
      record {
        monotone = in_order b lx.0 ly.0 lx.1 ly.1;
        x_least = λ x1 y1 o1. lx.2 x1 (x_follows b x1 y1 o1);
        y_least = λ x1 y1 o1. ly.2 y1 (y_follows b x1 y1 o1);
      },
    )

pub x_has_no_gap : (b : BoxesModel) (x y : ℕ → ℕ) → AreBoxes b → AreLeast b x y → HasNoGap b.vertices x
x_has_no_gap b x y boxes least =
    no_gap (dart_map b) 0 1 x (ends_of b boxes) (x_follows b x y least.monotone)
    (λ x1 has. least.x_least x1 y (in_order b x1 y has (y_follows b x y least.monotone)))

pub y_has_no_gap : (b : BoxesModel) (x y : ℕ → ℕ) → AreBoxes b → AreLeast b x y → HasNoGap b.vertices y
y_has_no_gap b x y boxes least =
    no_gap (dart_map b) 1 0 y (ends_of b boxes) (y_follows b x y least.monotone)
    (λ y1 has. least.y_least x y1 (in_order b x y1 (x_follows b x y least.monotone) has))

pub least_are_few : (b : BoxesModel) (x y : ℕ → ℕ) → AreBoxes b → AreLeast b x y
    → (v : ℕ) → v < b.vertices → (x v < b.vertices) × (y v < b.vertices)
least_are_few b x y boxes least v inside =
    (few_numbers b.vertices x (x_has_no_gap b x y boxes least) v inside, few_numbers b.vertices y (y_has_no_gap b x y boxes least) v inside)

-- ---- points

pub laid_least : (b : BoxesModel) (points : PointsModel) → (laid : AreLeastPoints b points) → AreLeast b laid.x laid.y
laid_least b points laid = record { monotone = laid.monotone; x_least = laid.x_least; y_least = laid.y_least }

-- what holds of the points of all vertices of boxes holds of the points at which a path turns
all_places : (w : DartMap) (P : Point → Type 0) (x y : ℕ → ℕ) → ((a : ℕ) → a < w.darts → P (point_at x y (w.head a)))
    → (a : ℕ) (rest : List ℕ) → a < w.darts → Below w.darts rest → All P (map (point_at x y) (turning_vertices w a rest))
all_places w P x y each a [] a_in below = All-nil P
all_places w P x y each a (b ∷ bs) a_in below =
    let later = all_places w P x y each b bs below.0 below.1 in
    let here : List Point = point_at x y (w.head a) ∷ map (point_at x y) (turning_vertices w b bs) in
    elim (cases_eq (turn_to w a b) 0) [
      | inl none ↦
          let on = cond-true {A = List ℕ} (eqb (turn_to w a b) 0) (turning_vertices w b bs) (w.head a ∷ turning_vertices w b bs) (eq-eqb (turn_to w a b) 0 none) in
          subst (All P) (sym (ap (map (point_at x y)) on)) later
      | inr some ↦
          let on = cond-false {A = List ℕ} (eqb (turn_to w a b) 0) (turning_vertices w b bs) (w.head a ∷ turning_vertices w b bs) (ne_eqb (turn_to w a b) 0 some) in
          subst (All P) (sym (ap (map (point_at x y)) on)) (All-cons P (point_at x y (w.head a)) (map (point_at x y) (turning_vertices w b bs)) (each a a_in) later)
    ]

-- and of all least points and their corners
pub all_ends : (b : BoxesModel) (points : PointsModel) (P : Point → Type 0) → AreBoxes b → (laid : AreLeastPoints b points)
    → ((v : ℕ) → v < b.vertices → P (point_at laid.x laid.y v)) → All P points.vertices
all_ends b points P boxes laid each k d inside =
    let f : ℕ → Point = point_at laid.x laid.y in
    let below : k < b.old = omega (arith, inside, laid.taken.vertex_count) in
    let is : get_or points.vertices k d ≡ f k =
    ap (λ (ps : List Point). get_or ps k d) laid.taken.vertices ∙ get_or-map-range_with_len f 0 b.old k k d below (omega arith) in
    subst P (sym is) (each k (omega (arith, below, boxes.old_in)))

pub all_bends : (b : BoxesModel) (points : PointsModel) (P : Point → Type 0) → AreBoxes b → (laid : AreLeastPoints b points)
    → ((v : ℕ) → v < b.vertices → P (point_at laid.x laid.y v)) → All (All P) points.corners
all_bends b points P boxes laid each e d inside =
    let e_in : e < length b.edges = omega (arith, inside, laid.taken.count) in
    let edge = boxes.edges e e_in in
    subst (All P) (sym (get_or_default points.corners e d [] inside ∙ laid.taken.corners e e_in edge))
    (all_places (dart_map b) P laid.x laid.y (λ a a_in. each ((dart_map b).head a) (boxes.sound.meeting.head_in a a_in)) edge.first edge.rest edge.path.first_in edge.path.rest_in)

pub laid_below : (b : BoxesModel) (points : PointsModel) → AreBoxes b → AreLeastPoints b points → AreBelow b.vertices points
laid_below b points boxes laid =
    let each : (v : ℕ) → v < b.vertices → IsBelow b.vertices (point_at laid.x laid.y v) =
    least_are_few b laid.x laid.y boxes (laid_least b points laid) in
    record { ends = all_ends b points (IsBelow b.vertices) boxes laid each; bends = all_bends b points (IsBelow b.vertices) boxes laid each }
