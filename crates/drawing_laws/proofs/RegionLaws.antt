-- A drawing has one map of its regions at most. In it each face has a cell, no cell lies in anything but a face, and all cells beyond the
-- greatest coordinates lie in the outer one.
use Rattle.std.proofs.Common.{◌≡◌, ℕ, zero, suc, ◌+◌, ◌-◌, ◌<◌, ◌⊎◌, ◌∙◌, List, [], ◌∷◌, ◌++◌, All, length, reverse, get_or, arith, subst, sym, ap, refl, inl, inr, true}
use Rattle.std.proofs.lemmas.Bool.{cases_eq, cases_lt}
use Rattle.std.proofs.lemmas.List.{length-reverse}
use Rattle.std.proofs.lemmas.List.Elements.{All-cons, All-push}
use Rattle.faces.specs.Planes.{PlaneModel, IsPlane, darts, tail, head, reverse_dart, face_at}
use Rattle.faces.proofs.Ends.{plane_ends}
use Rattle.ortho_rep.specs.declared.grid_points.Point.{Point}
use Rattle.ortho_rep.specs.Points.{PointsModel, origin, vertex_point, corners_at, IsBelow, AreBelow}
use Rattle.ortho_rep.specs.Edges.{is_lesser, edge_number}
use Rattle.drawing_check.specs.Paths.{path_along, paths, dart_path, point_of}
use Rattle.drawing_check.specs.Draws.{AreOnAxes}
use Rattle.drawing_check.specs.Regions.{GoesNorth, PassesNorth, PassesEast, IsRegionMap}
use Rattle.drawing_check.proofs.Routing.{axes_each}
use Rattle.drawing_laws.proofs.Segments.{Runs, PathRuns}
use Rattle.drawing_laws.proofs.DartPaths.{backwards, runs_reversed, lesser_is, greater_is, by_edge, reverse_is_greater}

-- ---- a search among the first n

some_or_none : (n : ℕ) (P : ℕ → Type 0) → ((k : ℕ) → k < n → P k ⊎ (P k → ⊥)) → ((k : ℕ) × (k < n) × P k) ⊎ ((k : ℕ) → k < n → P k → ⊥)
some_or_none zero P decide = inr (λ k l _. absurd (omega (arith, l)))
some_or_none (suc n) P decide =
    elim (some_or_none n P (λ k l. decide k (omega (arith, l)))) [
      | inl (k, l, here) ↦ inl (k, omega (arith, l), here)
      | inr none ↦ elim (decide n (omega arith)) [
        | inl here ↦ inl (n, omega arith, here)
        | inr off ↦ inr (λ k l here. elim (cases_eq k n) [
          | inl at ↦ off (subst P at here)
          | inr other ↦ none k (omega (arith, l, other)) here
        ])
      ]
    ]

goes_north_or_not : (path : List Point) (k i j : ℕ) → GoesNorth path k i j ⊎ (GoesNorth path k i j → ⊥)
goes_north_or_not path k i j =
    elim (cases_lt (k + 1) (length path)) [
      | inr off ↦ inr (λ g. omega (arith, g.0, off))
      | inl inside ↦ elim (cases_eq (point_of path k).x i) [
        | inr off ↦ inr (λ g. off g.1)
        | inl from ↦ elim (cases_eq (point_of path (k + 1)).x i) [
          | inr off ↦ inr (λ g. off g.2)
          | inl to ↦ elim (cases_lt (point_of path k).y j) [
            | inr off ↦ inr (λ g. omega (arith, g.3, off))
            | inl low ↦ elim (cases_lt (point_of path (k + 1)).y j) [
              | inl off ↦ inr (λ g. omega (arith, g.4, off))
              | inr high ↦ inl (inside, from, to, low, high)
            ]
          ]
        ]
      ]
    ]

-- some dart passes the side, or none
passes_or_not : (p : PlaneModel) (points : PointsModel) (i j : ℕ) → ((d : ℕ) × PassesNorth p points d i j) ⊎ ((d : ℕ) → PassesNorth p points d i j → ⊥)
passes_or_not p points i j =
    elim (some_or_none (darts p) (λ d. PassesNorth p points d i j) (λ d d_in. dart d d_in)) [
      | inl (d, d_in, passes) ↦ inl (d, passes)
      | inr none ↦ inr (λ d passes. none d passes.1 passes)
    ]
  where
    dart : (d : ℕ) → d < darts p → PassesNorth p points d i j ⊎ (PassesNorth p points d i j → ⊥)
    dart d d_in =
        let path : List Point = dart_path p points d in
        elim (some_or_none (length path) (λ k. GoesNorth path k i j) (λ k _. goes_north_or_not path k i j)) [
          | inl (k, l, goes) ↦ inl (k, d_in, goes)
          | inr none ↦ inr (λ passes. none passes.0 (omega (arith, passes.2.0)) passes.2)
        ]

-- ---- one map

pub one_map : (p : PlaneModel) (points : PointsModel) (r s : ℕ → ℕ → ℕ) → IsRegionMap p points r → IsRegionMap p points s → (i j : ℕ) → r i j ≡ s i j
one_map p points r s one two zero j = one.west j ∙ sym (two.west j)
one_map p points r s one two (suc i) j =
    let at : i + 1 ≡ suc i = omega arith in
    subst (λ (k : ℕ). r k j ≡ s k j) at
    (elim (passes_or_not p points i j) [
      | inl (d, passes) ↦ (one.north d i j passes).1 ∙ sym (two.north d i j passes).1
      | inr none ↦ sym (one.beside i j none) ∙ one_map p points r s one two i j ∙ two.beside i j none
    ])

-- each cell lies in a face
pub map_named : (p : PlaneModel) (points : PointsModel) (r : ℕ → ℕ → ℕ) → IsPlane p → IsRegionMap p points r → (i j : ℕ) → r i j < p.faces
map_named p points r plane map zero j = omega (arith, map.west j, plane.outer)
map_named p points r plane map (suc i) j =
    let at : i + 1 ≡ suc i = omega arith in
    let ends = plane_ends p plane in
    subst (λ (k : ℕ). r k j < p.faces) at
    (elim (passes_or_not p points i j) [
      | inl (d, passes) ↦
          omega (arith, (map.north d i j passes).1, ends.face_named (reverse_dart p d) (ends.reverse_dart_in_range d passes.1))
      | inr none ↦ omega (arith, map.beside i j none, map_named p points r plane map i j)
    ])

-- ---- each face has a cell

-- some cell lies in the face
abbrev HasCell : (ℕ → ℕ → ℕ) → ℕ → Type 0
HasCell r k = (i : ℕ) × (j : ℕ) × (r i j ≡ k)

module _ (p : PlaneModel) (points : PointsModel) (r : ℕ → ℕ → ℕ) (plane : IsPlane p) (map : IsRegionMap p points r) where
  -- beside a dart that passes a side lie both of its faces
  beside_north : (d i j : ℕ) → d < darts p → PathRuns (dart_path p points d) 1 i j → HasCell r (face_at p d) × HasCell r (face_at p (reverse_dart p d))
  beside_north d i j d_in (n, inside, (from, to, low, high)) =
      let both = map.north d i j (n, d_in, (inside, from, to, low, high)) in
      ((i, j, both.0), (i + 1, j, both.1))

  beside_east : (d i j : ℕ) → d < darts p → PathRuns (dart_path p points d) 0 i j → HasCell r (face_at p d) × HasCell r (face_at p (reverse_dart p d))
  beside_east d i j d_in (n, inside, (from, to, low, high)) =
      let both = map.east d i j (n, d_in, (inside, from, to, low, high)) in
      ((i, j + 1, both.0), (i, j, both.1))

  -- of a lesser dart, whichever way the first part of its path goes
  lesser_cells : (d : ℕ) → d < darts p → is_lesser p d ≡ true → AreOnAxes (paths p points) → HasCell r (face_at p d) × HasCell r (face_at p (reverse_dart p d))
  lesser_cells d d_in lesser axes =
      let ends = plane_ends p plane in
      let e : ℕ = reverse_dart p d in
      let e_in = ends.reverse_dart_in_range d d_in in
      let back : reverse_dart p e ≡ d = ends.reverse_dart_back d d_in in
      let path : List Point = path_along p points d in
      let inside : 0 + 1 < length path = long (vertex_point points (tail p d)) (corners_at points (edge_number p d)) (vertex_point points (head p d)) in
      let a : Point = point_of path 0 in
      let b : Point = point_of path 1 in
      let same : dart_path p points d ≡ path = lesser_is p points d lesser in
      let turned : dart_path p points e ≡ reverse path =
      greater_is p points e (reverse_is_greater p plane d d_in lesser) ∙ ap (λ (c : ℕ). reverse (path_along p points c)) back in
      let here : (k i j : ℕ) → Runs k a b i j → PathRuns (dart_path p points d) k i j = λ k i j runs.
      subst (λ (q : List Point). PathRuns q k i j) (sym same) (0, inside, runs) in
      let there : (k i j : ℕ) → k < 2 → Runs (k + 2) a b i j → PathRuns (dart_path p points e) k i j = λ k i j few runs.
      subst (λ (q : List Point). PathRuns q k i j) (sym turned) (runs_reversed path k i j few (0, inside, runs)) in
      let other : HasCell r (face_at p e) × HasCell r (face_at p (reverse_dart p e)) → HasCell r (face_at p d) × HasCell r (face_at p e) = λ cells.
      (subst (λ (c : ℕ). HasCell r (face_at p c)) back cells.1, cells.0) in
      elim ((axes_each p points).0 axes d d_in lesser 0 inside) [
        | inl (line, off) ↦ elim (cases_lt a.y b.y) [
          | inl up ↦ beside_north d a.x b.y d_in (here 1 a.x b.y (refl, sym line, up, omega arith))
          | inr down ↦ other (beside_north e a.x a.y e_in (there 1 a.x a.y (omega arith) (refl, sym line, omega (arith, down, off), omega arith)))
        ]
        | inr (off, line) ↦ elim (cases_lt a.x b.x) [
          | inl up ↦ beside_east d b.x a.y d_in (here 0 b.x a.y (refl, sym line, up, omega arith))
          | inr down ↦ other (beside_east e a.x a.y e_in (there 0 a.x a.y (omega arith) (refl, sym line, omega (arith, down, off), omega arith)))
        ]
      ]
    where
      long : (q : Point) (qs : List Point) (e : Point) → 1 < length (q ∷ (qs ++ e ∷ []))
      long q [] e = omega arith
      long q (c ∷ cs) e = omega arith

  pub face_has_cell : AreOnAxes (paths p points) → (k : ℕ) → k < p.faces → HasCell r k
  face_has_cell axes k k_in =
      let ends = plane_ends p plane in
      let (d, d_in, at) = plane.faces.used k k_in in
      subst (λ (f : ℕ). HasCell r f) at
      (elim (by_edge p plane d d_in) [
        | inl lesser ↦ (lesser_cells d d_in lesser axes).0
        | inr (greater, lesser) ↦
            subst (λ (c : ℕ). HasCell r (face_at p c)) (ends.reverse_dart_back d d_in)
            (lesser_cells (reverse_dart p d) (ends.reverse_dart_in_range d d_in) lesser axes).1
      ])

-- ---- beyond the greatest coordinates

low_get : {X : Type 0} (P : X → Type 0) (xs : List X) (i : ℕ) (d : X) → All P xs → P d → P (get_or xs i d)
low_get P [] i d all low = low
low_get P (x ∷ xs) zero d all low = all 0 d (omega arith)
low_get P (x ∷ xs) (suc i) d all low = low_get P xs i d (λ k e l. all (suc k) e (omega (arith, l))) low

module _ (p : PlaneModel) (points : PointsModel) (n : ℕ) (below : AreBelow (n + 1) points) where
  low_origin : IsBelow (n + 1) origin
  low_origin = (omega arith, omega arith)

  path_low : (d : ℕ) → All (IsBelow (n + 1)) (path_along p points d)
  path_low d =
      let low : (v : ℕ) → IsBelow (n + 1) (vertex_point points v) = λ v. low_get (IsBelow (n + 1)) points.vertices (v - 1) origin below.ends low_origin in
      let corners : All (IsBelow (n + 1)) (corners_at points (edge_number p d)) =
      low_get (All (IsBelow (n + 1))) points.corners (edge_number p d) [] below.bends (λ k e l. absurd (omega (arith, l))) in
      All-cons (IsBelow (n + 1)) (vertex_point points (tail p d)) (corners_at points (edge_number p d) ++ vertex_point points (head p d) ∷ []) (low (tail p d))
      (All-push (IsBelow (n + 1)) (corners_at points (edge_number p d)) (vertex_point points (head p d)) corners (low (head p d)))

  dart_low : (plane : IsPlane p) (d k : ℕ) → d < darts p → k < length (dart_path p points d) → IsBelow (n + 1) (point_of (dart_path p points d) k)
  dart_low plane d k d_in inside =
      elim (by_edge p plane d d_in) [
        | inl lesser ↦
            subst (λ (q : List Point). IsBelow (n + 1) (point_of q k)) (sym (lesser_is p points d lesser))
            (path_low d k origin (subst (λ (q : List Point). k < length q) (lesser_is p points d lesser) inside))
        | inr (greater, lesser) ↦
            let path : List Point = path_along p points (reverse_dart p d) in
            let within : k < length (reverse path) = subst (λ (q : List Point). k < length q) (greater_is p points d greater) inside in
            let short : k < length path = omega (arith, within, length-reverse path) in
            subst (λ (q : List Point). IsBelow (n + 1) (point_of q k)) (sym (greater_is p points d greater))
            (subst (λ (q : Point). IsBelow (n + 1) q) (sym (backwards path k short)) (path_low (reverse_dart p d) (length path - 1 - k) origin (omega (arith, short))))
      ]

  module _ (r : ℕ → ℕ → ℕ) (plane : IsPlane p) (map : IsRegionMap p points r) where
    beyond_north : (i j : ℕ) → n < j → r i j ≡ p.outer
    beyond_north zero j far = map.west j
    beyond_north (suc i) j far =
        let at : i + 1 ≡ suc i = omega arith in
        let none : (d : ℕ) → PassesNorth p points d i j → ⊥ = λ d passes.
        let low = dart_low plane d (passes.0 + 1) passes.1 passes.2.0 in
        omega (arith, low.1, passes.2.4, far) in
        subst (λ (k : ℕ). r k j ≡ p.outer) at (sym (map.beside i j none) ∙ beyond_north i j far)

    beyond_east : (i j : ℕ) → n < i → r i j ≡ p.outer
    beyond_east i zero far = map.south i
    beyond_east i (suc j) far =
        let at : j + 1 ≡ suc j = omega arith in
        let none : (d : ℕ) → PassesEast p points d i j → ⊥ = λ d passes.
        let low = dart_low plane d (passes.0 + 1) passes.1 passes.2.0 in
        omega (arith, low.0, passes.2.4, far) in
        subst (λ (k : ℕ). r i k ≡ p.outer) at (sym (map.above i j none) ∙ beyond_east i j far)

    pub beyond : (i j : ℕ) → (n < i) ⊎ (n < j) → r i j ≡ p.outer
    beyond i j (inl far) = beyond_east i j far
    beyond i j (inr far) = beyond_north i j far
