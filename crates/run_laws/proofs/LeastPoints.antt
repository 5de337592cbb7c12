-- Boxes have one list of least points.
use Rattle.std.proofs.Common.{◌≡◌, ℕ, ◌<◌, ◌∙◌, List, [], ◌∷◌, length, map, arith, sym, ap, refl, inl, inr, eqb}
use Rattle.std.specs.List.{range_with_len}
use Rattle.std.proofs.lemmas.Bool.{cases_eq, eq-eqb, ne_eqb, cond-true, cond-false}
use Rattle.std.proofs.lemmas.List.{same_lists, get_or_default}
use Rattle.std.proofs.lemmas.List.FromFn.{length-map-range_with_len, get_or-map-range_with_len}
use Rattle.dissect.specs.DartMaps.{DartMap}
use Rattle.dissect.specs.Faces.{Below}
use Rattle.dissect.specs.Paths.{turn_to, turning_vertices}
use Rattle.ortho_rep.specs.declared.grid_points.Point.{Point}
use Rattle.ortho_rep.specs.Points.{PointsModel}
use Rattle.dissect.specs.Boxes.{BoxesModel, AreBoxes, dart_map}
use Rattle.dissect.specs.Monotone.{AreLeastPoints, point_at}

-- where two pairs of numbers agree at the vertices of a map, the points of a path's turns do
turns_agree : (w : DartMap) (x y x1 y1 : ℕ → ℕ) → ((a : ℕ) → a < w.darts → point_at x y (w.head a) ≡ point_at x1 y1 (w.head a))
    → (a : ℕ) (rest : List ℕ) → a < w.darts → Below w.darts rest
    → map (point_at x y) (turning_vertices w a rest) ≡ map (point_at x1 y1) (turning_vertices w a rest)
turns_agree w x y x1 y1 agree a [] a_in below = refl
turns_agree w x y x1 y1 agree a (b ∷ bs) a_in below =
    let later = turns_agree w x y x1 y1 agree b bs below.0 below.1 in
    elim (cases_eq (turn_to w a b) 0) [
      | inl none ↦
          let on = cond-true {A = List ℕ} (eqb (turn_to w a b) 0) (turning_vertices w b bs) (w.head a ∷ turning_vertices w b bs) (eq-eqb (turn_to w a b) 0 none) in
          ap (map (point_at x y)) on ∙ later ∙ sym (ap (map (point_at x1 y1)) on)
      | inr some ↦
          let on = cond-false {A = List ℕ} (eqb (turn_to w a b) 0) (turning_vertices w b bs) (w.head a ∷ turning_vertices w b bs) (ne_eqb (turn_to w a b) 0 some) in
          ap (map (point_at x y)) on ∙ ap (λ (q : Point). q ∷ map (point_at x y) (turning_vertices w b bs)) (agree a a_in)
          ∙ ap (λ (qs : List Point). point_at x1 y1 (w.head a) ∷ qs) later ∙ sym (ap (map (point_at x1 y1)) on)
    ]

-- the points of the first n vertices agree where the numbers do
vertices_agree : (x y x1 y1 : ℕ → ℕ) (n : ℕ) → ((v : ℕ) → v < n → point_at x y v ≡ point_at x1 y1 v)
    → map (point_at x y) (range_with_len 0 n) ≡ map (point_at x1 y1) (range_with_len 0 n)
vertices_agree x y x1 y1 n agree =
    let f : ℕ → Point = point_at x y in
    let g : ℕ → Point = point_at x1 y1 in
    same_lists (map f (range_with_len 0 n)) (map g (range_with_len 0 n))
    (length-map-range_with_len f 0 n ∙ sym (length-map-range_with_len g 0 n))
    (λ k d inside.
    let below : k < n = omega (arith, inside, length-map-range_with_len f 0 n) in
    get_or-map-range_with_len f 0 n k k d below (omega arith) ∙ agree k below ∙ sym (get_or-map-range_with_len g 0 n k k d below (omega arith)))

-- the coordinates of two lists of least points are the same
numbers_agree : (b : BoxesModel) (points others : PointsModel) (one : AreLeastPoints b points) (two : AreLeastPoints b others)
    → (v : ℕ) → v < b.vertices → point_at one.x one.y v ≡ point_at two.x two.y v
numbers_agree b points others one two v inside =
    let first : one.x v ≡ two.x v = omega (arith, one.x_least two.x two.y two.monotone v inside, two.x_least one.x one.y one.monotone v inside) in
    let second : one.y v ≡ two.y v = omega (arith, one.y_least two.x two.y two.monotone v inside, two.y_least one.x one.y one.monotone v inside) in
    ap (λ (k : ℕ). point_at (λ _. k) one.y v) first ∙ ap (λ (k : ℕ). point_at two.x (λ _. k) v) second

-- and so are the corners of each edge
corners_agree : (b : BoxesModel) (points others : PointsModel) → AreBoxes b → AreLeastPoints b points → AreLeastPoints b others → points.corners ≡ others.corners
corners_agree b points others boxes one two =
    same_lists points.corners others.corners (one.taken.count ∙ sym two.taken.count)
    (λ e d inside.
    let inside' : e < length others.corners = omega (arith, inside, one.taken.count, two.taken.count) in
    let e_in : e < length b.edges = omega (arith, inside, one.taken.count) in
    let edge = boxes.edges e e_in in
    get_or_default points.corners e d [] inside
    ∙ one.taken.corners e e_in edge
    ∙ turns_agree (dart_map b) one.x one.y two.x two.y
    (λ a a_in. numbers_agree b points others one two ((dart_map b).head a) (boxes.sound.meeting.head_in a a_in))
    edge.first edge.rest edge.path.first_in edge.path.rest_in
    ∙ sym (two.taken.corners e e_in edge)
    ∙ get_or_default others.corners e [] d inside')

pub least_points_once : (b : BoxesModel) (points others : PointsModel) → AreBoxes b → AreLeastPoints b points → AreLeastPoints b others → points ≡ others
least_points_once b points others boxes one two =
    let agree : (v : ℕ) → v < b.old → point_at one.x one.y v ≡ point_at two.x two.y v =
    λ v inside. numbers_agree b points others one two v (omega (arith, inside, boxes.old_in)) in
    let vertices : points.vertices ≡ others.vertices =
    one.taken.vertices ∙ vertices_agree one.x one.y two.x two.y b.old agree ∙ sym two.taken.vertices in
    ap (λ (vs : List Point). record { vertices = vs; corners = points.corners }) vertices
    ∙ ap (λ (cs : List (List Point)). record { vertices = others.vertices; corners = cs }) (corners_agree b points others boxes one two)
