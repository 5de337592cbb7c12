-- Where the path of a dart of the plane runs along a unit side, a part of the dart in the boxes does, and the other way round.
use Rattle.std.proofs.Common.{◌≡◌, ℕ, ◌+◌, ◌-◌, ◌<◌, ◌≤◌, ◌⊎◌, ◌∙◌, List, ◌∷◌, length, reverse, true, false, ltb, arith, subst, sym, ap, refl, inl, inr}
use Rattle.std.proofs.lemmas.Bool.{cases_lt, lt-ltb, le-ltb, ltb-true, cond-true, cond-false}
use Rattle.std.proofs.lemmas.List.{get_or-reverse, length-reverse}
use Rattle.faces.specs.Planes.{PlaneModel, IsPlane, darts, reverse_dart}
use Rattle.faces.proofs.Ends.{plane_ends}
use Rattle.ortho_rep.specs.declared.grid_points.Point.{Point}
use Rattle.ortho_rep.specs.Points.{PointsModel, origin}
use Rattle.ortho_rep.specs.Shapes.{ShapeModel}
use Rattle.ortho_rep.specs.Edges.{is_lesser}
use Rattle.dissect.specs.Faces.{In}
use Rattle.dissect.specs.Paths.{IsPart}
use Rattle.dissect.specs.Boxes.{BoxesModel, dart_map}
use Rattle.dissect.specs.Boxed.{IsBoxed}
use Rattle.dissect.specs.Monotone.{IsMonotone, AreTaken, point_at}
use Rattle.drawing_check.specs.Paths.{path_along, dart_path, point_of}
use Rattle.drawing_laws.proofs.Segments.{Runs, runs_back, runs_turned, DartRuns, PathRuns, line_runs, first_runs, later_runs}
use Rattle.drawing_laws.proofs.Drawn.{path_of, line_is, first_goes}
use Rattle.drawing_laws.proofs.Parts.{part_in, part_back, on_path}

-- a path walked back has the same parts the other way
pub backwards : (path : List Point) (n : ℕ) → n < length path → point_of (reverse path) n ≡ point_of path (length path - 1 - n)
backwards path n inside = get_or-reverse path n origin inside

back_runs : (path : List Point) (k i j : ℕ) → k < 2 → PathRuns (reverse path) k i j → PathRuns path (k + 2) i j
back_runs path k i j few (n, inside, runs) =
    let size : length (reverse path) ≡ length path = length-reverse path in
    let within : n + 1 < length path = omega (arith, inside, size) in
    let m : ℕ = length path - 1 - (n + 1) in
    let one : point_of (reverse path) n ≡ point_of path (m + 1) =
    backwards path n (omega (arith, within)) ∙ ap (λ (c : ℕ). point_of path c) (let e : length path - 1 - n ≡ m + 1 = omega (arith, within) in e) in
    let two : point_of (reverse path) (n + 1) ≡ point_of path m = backwards path (n + 1) within in (
      m,
      omega (arith, within),
      runs_turned k (point_of path (m + 1)) (point_of path m) i j few
          (subst (λ (q : Point). Runs k q (point_of path m) i j) one (subst (λ (q : Point). Runs k (point_of (reverse path) n) q i j) two runs)),
    )

pub runs_reversed : (path : List Point) (k i j : ℕ) → k < 2 → PathRuns path (k + 2) i j → PathRuns (reverse path) k i j
runs_reversed path k i j few (n, inside, runs) =
    let size : length (reverse path) ≡ length path = length-reverse path in
    let m : ℕ = length path - 1 - (n + 1) in
    let one : point_of (reverse path) m ≡ point_of path (n + 1) =
    backwards path m (omega (arith, inside)) ∙ ap (λ (c : ℕ). point_of path c) (let e : length path - 1 - m ≡ n + 1 = omega (arith, inside) in e) in
    let two : point_of (reverse path) (m + 1) ≡ point_of path n =
    backwards path (m + 1) (omega (arith, inside)) ∙ ap (λ (c : ℕ). point_of path c) (let e : length path - 1 - (m + 1) ≡ n = omega (arith, inside) in e) in (
      m,
      omega (arith, inside, size),
      subst (λ (q : Point). Runs k q (point_of (reverse path) (m + 1)) i j) (sym one)
          (subst (λ (q : Point). Runs k (point_of path (n + 1)) q i j) (sym two) (runs_back k (point_of path n) (point_of path (n + 1)) i j few runs)),
    )

-- ---- the paths of darts

-- the path of a lesser dart, and that of another
pub lesser_is : (p : PlaneModel) (points : PointsModel) (d : ℕ) → is_lesser p d ≡ true → dart_path p points d ≡ path_along p points d
lesser_is p points d lesser =
    cond-true {A = List Point} (is_lesser p d) (path_along p points d) (reverse (path_along p points (reverse_dart p d))) lesser

pub greater_is : (p : PlaneModel) (points : PointsModel) (d : ℕ) → is_lesser p d ≡ false → dart_path p points d ≡ reverse (path_along p points (reverse_dart p d))
greater_is p points d greater =
    cond-false {A = List Point} (is_lesser p d) (path_along p points d) (reverse (path_along p points (reverse_dart p d))) greater

-- a dart is the lesser one of its edge, or its reverse is
pub by_edge : (p : PlaneModel) → IsPlane p → (d : ℕ) → d < darts p →
    (is_lesser p d ≡ true) ⊎ ((is_lesser p d ≡ false) × (is_lesser p (reverse_dart p d) ≡ true))
by_edge p plane d d_in =
    let ends = plane_ends p plane in
    let r : ℕ = reverse_dart p d in
    elim (cases_lt d r) [
      | inl less ↦ inl (lt-ltb d r less)
      | inr more ↦ inr (le-ltb d r more, smaller d r (reverse_dart p r) more (ends.reverse_dart_apart d d_in) (ends.reverse_dart_back d d_in))
    ]
  where
    smaller : (d r e : ℕ) → r ≤ d → (r ≡ d → ⊥) → e ≡ d → ltb r e ≡ true
    smaller d r e more other same = lt-ltb r e (omega (arith, more, other, same))

-- the reverse of a lesser dart is none
pub reverse_is_greater : (p : PlaneModel) → IsPlane p → (d : ℕ) → d < darts p → is_lesser p d ≡ true → is_lesser p (reverse_dart p d) ≡ false
reverse_is_greater p plane d d_in lesser = turned d (reverse_dart p d) (reverse_dart p (reverse_dart p d)) lesser ((plane_ends p plane).reverse_dart_back d d_in)
  where
    turned : (a b c : ℕ) → ltb a b ≡ true → c ≡ a → ltb b c ≡ false
    turned a b c less same = le-ltb b c (omega (arith, ltb-true a b less, same))

module _ (p : PlaneModel) (shape : ShapeModel) (b : BoxesModel) (plane : IsPlane p) (boxed : IsBoxed p shape b) (x y : ℕ → ℕ)
    (monotone : IsMonotone (dart_map b) x y) (points : PointsModel) (taken : AreTaken b x y points) where
  -- a part of a dart runs along the side
  abbrev pub PartRuns : ℕ → ℕ → ℕ → ℕ → Type 0
  PartRuns d k i j = (a : ℕ) × IsPart (dart_map b) d a × DartRuns (dart_map b) x y k a i j

  -- ---- along a lesser dart

  lesser_part : (d : ℕ) → d < darts p → is_lesser p d ≡ true → (k i j : ℕ) → k < 4 → PathRuns (path_along p points d) k i j → PartRuns d k i j
  lesser_part d d_in lesser k i j few runs =
      let has = path_of p shape b plane boxed x y monotone points taken d d_in in
      let u : ℕ = (dart_map b).head ((dart_map b).reverse_dart has.first) in
      let (n, inside, at) = subst (λ (path : List Point). PathRuns path k i j) (line_is p shape b plane boxed x y monotone points taken d d_in lesser) runs in
      elim (line_runs (dart_map b) boxed.boxes.sound x y monotone k u has.first has.rest i j n few has.path.first_in has.path.rest_in has.path.follows
      (first_goes p shape b plane boxed x y monotone points taken d d_in) inside at) [
        | inl first ↦ (has.first, record { first = has.first; rest = has.rest; path = has.path; on = inl refl }, first)
        | inr (z, later, dart) ↦ (z, record { first = has.first; rest = has.rest; path = has.path; on = inr later }, dart)
      ]

  lesser_path : (d : ℕ) → d < darts p → is_lesser p d ≡ true → (k i j : ℕ) → k < 4 → PartRuns d k i j → PathRuns (path_along p points d) k i j
  lesser_path d d_in lesser k i j few (a, part, runs) =
      let has = path_of p shape b plane boxed x y monotone points taken d d_in in
      let u : ℕ = (dart_map b).head ((dart_map b).reverse_dart has.first) in
      let goes = first_goes p shape b plane boxed x y monotone points taken d d_in in
      let on : In a (has.first ∷ has.rest) = on_path p shape b plane boxed d a has.first has.rest has.path part in
      subst (λ (path : List Point). PathRuns path k i j) (sym (line_is p shape b plane boxed x y monotone points taken d d_in lesser))
      (elim on [
        | inl at ↦
            first_runs (dart_map b) boxed.boxes.sound x y monotone k u has.first has.rest i j few has.path.first_in has.path.rest_in has.path.follows goes
            (subst (λ (c : ℕ). DartRuns (dart_map b) x y k c i j) at runs)
        | inr later ↦
            later_runs (dart_map b) boxed.boxes.sound x y monotone k u has.first has.rest a i j few has.path.first_in has.path.rest_in has.path.follows goes later runs
      ])

  -- ---- along any dart

  -- the reverse of a part runs back
  part_reversed : (d k i j : ℕ) → d < darts p → k < 2 → PartRuns (reverse_dart p d) (k + 2) i j → PartRuns d k i j
  part_reversed d k i j d_in few (a, part, runs) =
      let ends = plane_ends p plane in
      let w = dart_map b in
      let back : IsPart w (reverse_dart p (reverse_dart p d)) (w.reverse_dart a) =
      part_back p shape b plane boxed (reverse_dart p d) a (ends.reverse_dart_in_range d d_in) part in
      let a_in : a < b.darts = part_in p shape b plane boxed (reverse_dart p d) a part in
      let from : w.head (w.reverse_dart (w.reverse_dart a)) ≡ w.head a = ap w.head (boxed.boxes.sound.tied.reverse_dart_back a a_in) in (
        w.reverse_dart a,
        subst (λ (e : ℕ). IsPart w e (w.reverse_dart a)) (ends.reverse_dart_back d d_in) back,
        subst (λ (v : ℕ). Runs k (point_at x y v) (point_at x y (w.head (w.reverse_dart a))) i j) (sym from)
            (runs_back k (point_at x y (w.head (w.reverse_dart a))) (point_at x y (w.head a)) i j few runs),
      )

  part_turned : (d k i j : ℕ) → d < darts p → k < 2 → PartRuns d k i j → PartRuns (reverse_dart p d) (k + 2) i j
  part_turned d k i j d_in few (a, part, runs) =
      let w = dart_map b in
      let a_in : a < b.darts = part_in p shape b plane boxed d a part in
      let from : w.head (w.reverse_dart (w.reverse_dart a)) ≡ w.head a = ap w.head (boxed.boxes.sound.tied.reverse_dart_back a a_in) in (
        w.reverse_dart a,
        part_back p shape b plane boxed d a d_in part,
        subst (λ (v : ℕ). Runs (k + 2) (point_at x y v) (point_at x y (w.head (w.reverse_dart a))) i j) (sym from)
            (runs_turned k (point_at x y (w.head (w.reverse_dart a))) (point_at x y (w.head a)) i j few runs),
      )

  pub path_part : (d : ℕ) → d < darts p → (k i j : ℕ) → k < 2 → PathRuns (dart_path p points d) k i j → PartRuns d k i j
  path_part d d_in k i j few runs =
      elim (by_edge p plane d d_in) [
        | inl lesser ↦ lesser_part d d_in lesser k i j (omega (arith, few)) (subst (λ (path : List Point). PathRuns path k i j) (lesser_is p points d lesser) runs)
        | inr (greater, lesser) ↦
            part_reversed d k i j d_in few
            (lesser_part (reverse_dart p d) ((plane_ends p plane).reverse_dart_in_range d d_in) lesser (k + 2) i j (omega (arith, few))
            (back_runs (path_along p points (reverse_dart p d)) k i j few (subst (λ (path : List Point). PathRuns path k i j) (greater_is p points d greater) runs)))
      ]

  pub part_path : (d : ℕ) → d < darts p → (k i j : ℕ) → k < 2 → PartRuns d k i j → PathRuns (dart_path p points d) k i j
  part_path d d_in k i j few runs =
      elim (by_edge p plane d d_in) [
        | inl lesser ↦ subst (λ (path : List Point). PathRuns path k i j) (sym (lesser_is p points d lesser)) (lesser_path d d_in lesser k i j (omega (arith, few)) runs)
        | inr (greater, lesser) ↦
            subst (λ (path : List Point). PathRuns path k i j) (sym (greater_is p points d greater))
            (runs_reversed (path_along p points (reverse_dart p d)) k i j few
            (lesser_path (reverse_dart p d) ((plane_ends p plane).reverse_dart_in_range d d_in) lesser (k + 2) i j (omega (arith, few)) (part_turned d k i j d_in few runs)))
      ]
