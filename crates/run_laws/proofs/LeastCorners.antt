-- The least corner of a drawing lies on the outer face.
use Rattle.std.proofs.Common.{◌≡◌, ℕ, zero, suc, ◌+◌, ◌-◌, ◌<◌, ◌≤◌, ◌∙◌, List, [], ◌∷◌, ◌++◌, length, reverse, arith, subst, sym, ap, refl, inl, inr}
use Rattle.std.proofs.lemmas.Bool.{cases_lt}
use Rattle.std.proofs.lemmas.List.{length-reverse, reverse-reverse}
use Rattle.faces.specs.Planes.{PlaneModel, IsPlane, darts, tail, head, reverse_dart, face_at}
use Rattle.faces.proofs.Ends.{plane_ends}
use Rattle.ortho_rep.specs.declared.grid_points.Point.{Point}
use Rattle.ortho_rep.specs.Points.{PointsModel, vertex_point, corners_at}
use Rattle.ortho_rep.specs.Edges.{edge_number}
use Rattle.drawing_check.specs.Paths.{path_along, paths, dart_path, point_of}
use Rattle.drawing_check.specs.Draws.{IsAxis, IsOnAxes, AreOnAxes}
use Rattle.drawing_check.specs.Regions.{PassesNorth, PassesEast, IsRegionMap}
use Rattle.drawing_check.proofs.Routing.{axes_each}
use Rattle.drawing_laws.proofs.DartPaths.{backwards, lesser_is, greater_is, by_edge, reverse_is_greater}
use Rattle.run_laws.specs.Cells.{Meets, Precedes, IsLeastCorner}

-- ---- paths of darts

other_way : (a b : Point) → IsAxis a b → IsAxis b a
other_way a b (inl (line, off)) = inl (sym line, λ same. off (sym same))
other_way a b (inr (off, line)) = inr (λ same. off (sym same), sym line)

axes_back : (path : List Point) → IsOnAxes path → IsOnAxes (reverse path)
axes_back path on k inside =
    let within : k + 1 < length path = omega (arith, inside, length-reverse path) in
    let m : ℕ = length path - 1 - (k + 1) in
    let one : point_of (reverse path) k ≡ point_of path (m + 1) =
    backwards path k (omega (arith, within)) ∙ ap (λ (c : ℕ). point_of path c) (let e : length path - 1 - k ≡ m + 1 = omega (arith, within) in e) in
    let two : point_of (reverse path) (k + 1) ≡ point_of path m = backwards path (k + 1) within in
    subst (λ (q : Point). IsAxis q (point_of (reverse path) (k + 1))) (sym one)
    (subst (λ (q : Point). IsAxis (point_of path (m + 1)) q) (sym two)
    (other_way (point_of path m) (point_of path (m + 1)) (on m (omega (arith, within)))))

pub path_long : (q : Point) (qs : List Point) (e : Point) → 1 < length (q ∷ (qs ++ e ∷ []))
path_long q [] e = omega arith
path_long q (c ∷ cs) e = omega arith

module _ (p : PlaneModel) (points : PointsModel) (plane : IsPlane p) where
  -- the path of the reverse is the path walked back
  pub path_back : (d : ℕ) → d < darts p → dart_path p points (reverse_dart p d) ≡ reverse (dart_path p points d)
  path_back d d_in =
      let back : reverse_dart p (reverse_dart p d) ≡ d = (plane_ends p plane).reverse_dart_back d d_in in
      elim (by_edge p plane d d_in) [
        | inl lesser ↦
            greater_is p points (reverse_dart p d) (reverse_is_greater p plane d d_in lesser)
            ∙ ap (λ (c : ℕ). reverse (path_along p points c)) back ∙ sym (ap reverse (lesser_is p points d lesser))
        | inr (greater, lesser) ↦
            lesser_is p points (reverse_dart p d) lesser
            ∙ sym (ap reverse (greater_is p points d greater) ∙ reverse-reverse (path_along p points (reverse_dart p d)))
      ]

  pub dart_on_axes : AreOnAxes (paths p points) → (d : ℕ) → d < darts p → IsOnAxes (dart_path p points d)
  dart_on_axes axes d d_in =
      let each = (axes_each p points).0 axes in
      elim (by_edge p plane d d_in) [
        | inl lesser ↦ subst IsOnAxes (sym (lesser_is p points d lesser)) (each d d_in lesser)
        | inr (greater, lesser) ↦
            subst IsOnAxes (sym (greater_is p points d greater))
            (axes_back (path_along p points (reverse_dart p d)) (each (reverse_dart p d) ((plane_ends p plane).reverse_dart_in_range d d_in) lesser))
      ]

  pub dart_long : (d : ℕ) → d < darts p → 1 < length (dart_path p points d)
  dart_long d d_in =
      elim (by_edge p plane d d_in) [
        | inl lesser ↦ subst (λ (path : List Point). 1 < length path) (sym (lesser_is p points d lesser)) (along d)
        | inr (greater, lesser) ↦
            subst (λ (path : List Point). 1 < length path) (sym (greater_is p points d greater))
            (omega (arith, along (reverse_dart p d), length-reverse (path_along p points (reverse_dart p d))))
      ]
    where
      along : (e : ℕ) → 1 < length (path_along p points e)
      along e = path_long (vertex_point points (tail p e)) (corners_at points (edge_number p e)) (vertex_point points (head p e))

  -- what a dart meets at a place, its reverse meets as far from the other end
  turned_place : (d k : ℕ) (q : Point) → d < darts p → k < length (dart_path p points d) → point_of (dart_path p points d) k ≡ q
      → (length (dart_path p points d) - 1 - k < length (dart_path p points (reverse_dart p d)))
      × (point_of (dart_path p points (reverse_dart p d)) (length (dart_path p points d) - 1 - k) ≡ q)
  turned_place d k q d_in inside at =
      let path : List Point = dart_path p points d in
      let m : ℕ = length path - 1 - k in
      let size : length (dart_path p points (reverse_dart p d)) ≡ length path = ap length (path_back d d_in) ∙ length-reverse path in (
        omega (arith, inside, size),
        ap (λ (qs : List Point). point_of qs m) (path_back d d_in)
            ∙ backwards path m (omega (arith, inside))
            ∙ ap (λ (c : ℕ). point_of path c) (let e : length path - 1 - m ≡ k = omega (arith, inside) in e)
            ∙ at,
      )

  meets_back : (d : ℕ) (q : Point) → d < darts p → Meets p points d q → Meets p points (reverse_dart p d) q
  meets_back d q d_in (k, inside, at) =
      let there = turned_place d k q d_in inside at in
      (length (dart_path p points d) - 1 - k, there.0, there.1)

  -- some dart leaves each point that is met
  leaves : (d : ℕ) (q : Point) → d < darts p → Meets p points d q
      → (e : ℕ) × (e < darts p) × ((k : ℕ) × (k + 1 < length (dart_path p points e)) × (point_of (dart_path p points e) k ≡ q))
  leaves d q d_in (k, inside, at) =
      elim (cases_lt (k + 1) (length (dart_path p points d))) [
        | inl more ↦ (d, d_in, (k, more, at))
        | inr last ↦
            let there = turned_place d k q d_in inside at in
            let long = dart_long d d_in in
            let e_in = (plane_ends p plane).reverse_dart_in_range d d_in in
            let size = dart_long (reverse_dart p d) e_in in
            (reverse_dart p d, e_in, (length (dart_path p points d) - 1 - k, omega (arith, inside, last, size), there.1))
      ]

  -- ---- the least corner

  module _ (axes : AreOnAxes (paths p points)) (r : ℕ → ℕ → ℕ) (map : IsRegionMap p points r) (q : Point) (least : IsLeastCorner p points q) where
    precedes : (d k : ℕ) → d < darts p → k < length (dart_path p points d) → Precedes q (point_of (dart_path p points d) k)
    precedes d k d_in inside = least.least d (point_of (dart_path p points d) k) d_in (k, inside, refl)

    -- no edge lies west of it
    none_west : (d i j : ℕ) → i < q.x → PassesNorth p points d i j → ⊥
    none_west d i j west (k, d_in, goes) =
        elim (precedes d k d_in (omega (arith, goes.0))) [
          | inl later ↦ omega (arith, later, goes.1, west)
          | inr same ↦ omega (arith, same.0, goes.1, west)
        ]

    -- nor south of it on its line
    none_south : (d j : ℕ) → j ≤ q.y → PassesNorth p points d q.x j → ⊥
    none_south d j south (k, d_in, goes) =
        elim (precedes d k d_in (omega (arith, goes.0))) [
          | inl later ↦ omega (arith, later, goes.1)
          | inr same ↦ omega (arith, same.1, goes.3, south)
        ]

    -- so all cells up to its line are outside
    outside : (i j : ℕ) → i ≤ q.x → r i j ≡ p.outer
    outside zero j west = map.west j
    outside (suc i) j west =
        let at : i + 1 ≡ suc i = omega arith in
        subst (λ (k : ℕ). r k j ≡ p.outer) at
        (sym (map.beside i j (λ d passes. none_west d i j (omega (arith, west)) passes)) ∙ outside i j (omega (arith, west)))

    pub least_is_outer : (d : ℕ) × (d < darts p) × (face_at p d ≡ p.outer) × Meets p points d q
    least_is_outer =
        let (d, d_in, met) = least.some in
        let (e, e_in, (k, inside, at)) = leaves d q d_in met in
        let o : Point = point_of (dart_path p points e) (k + 1) in
        let here : Meets p points e q = (k, omega (arith, inside), at) in
        let column : (point_of (dart_path p points e) k).x ≡ q.x = ap (λ (c : Point). c.x) at in
        let row : (point_of (dart_path p points e) k).y ≡ q.y = ap (λ (c : Point). c.y) at in
        let later : Precedes q o = precedes e (k + 1) e_in inside in
        elim (dart_on_axes axes e e_in k inside) [
          | inl (line, off) ↦
              let north : q.y < o.y = elim later [ inl far ↦ absurd (omega (arith, far, line, column)) | inr same ↦ omega (arith, same.1, off, row) ] in
              let passes : PassesNorth p points e q.x (q.y + 1) =
              (k, e_in, (inside, column, omega (arith, line, column), omega (arith, row), omega (arith, north))) in
              (e, e_in, sym (map.north e q.x (q.y + 1) passes).0 ∙ outside q.x (q.y + 1) (omega arith), here)
          | inr (off, line) ↦
              let east : q.x < o.x = elim later [ inl far ↦ far | inr same ↦ absurd (omega (arith, same.0, off, column)) ] in
              let passes : PassesEast p points e (q.x + 1) q.y =
              (k, e_in, (inside, row, omega (arith, line, row), omega (arith, column), omega (arith, east))) in
              let south : r q.x q.y ≡ r (q.x + 1) q.y = map.beside q.x q.y (λ c there. none_south c q.y (omega arith) there) in (
                reverse_dart p e,
                (plane_ends p plane).reverse_dart_in_range e e_in,
                sym (map.east e (q.x + 1) q.y passes).1 ∙ sym south ∙ outside q.x q.y (omega arith),
                meets_back e q e_in here,
              )
        ]
