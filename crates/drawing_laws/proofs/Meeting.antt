-- In the boxes of a shape, edges meet nowhere but at their ends.
use Rattle.std.proofs.Common.{◌≡◌, ℕ, ◌<◌, ◌⊎◌, ◌∙◌, arith, subst, sym, ap, inl, inr, cond, eqb}
use Rattle.std.proofs.lemmas.Bool.{cases_eq, ne_eqb, cond-false}
use Rattle.common.proofs.Sums.{sum_below-some}
use Rattle.faces.specs.Planes.{PlaneModel, IsPlane, darts, vertices, reverse_dart}
use Rattle.faces.proofs.Ends.{plane_ends}
use Rattle.ortho_rep.specs.Shapes.{ShapeModel}
use Rattle.dissect.specs.DartMaps.{DartMap, IsSound}
use Rattle.dissect.specs.Boxes.{BoxesModel, dart_map}
use Rattle.dissect.specs.Boxed.{IsBoxed}
use Rattle.dissect.specs.Monotone.{IsMonotone, tail}
use Rattle.drawing_laws.proofs.Rounds.{AreFaces, are_faces}
use Rattle.drawing_laws.proofs.Apart.{Holds, vertices_apart, vertex_outside, darts_apart}
use Rattle.drawing_laws.proofs.Passing.{PassesAt, IsBefore, passes_holds}
use Rattle.drawing_laws.specs.Parts.{IsPart, IsOneEdge}
use Rattle.drawing_laws.proofs.Parts.{part_in, part_back, one_part, part_of_one, vertex_once, end_alone, meet_at_ends}

-- some dart arrives at each vertex
arrival : (w : DartMap) → IsSound w → (v : ℕ) → v < w.vertices → (a : ℕ) × (a < w.darts) × (w.head a ≡ v)
arrival w sound v v_in =
    let (a, a_in, some) = sum_below-some w.darts (λ a. cond (eqb (w.head a) v) (w.angle a) 0) (omega (arith, sound.meeting.whole v v_in)) in (
      a,
      a_in,
      elim (cases_eq (w.head a) v) [
        | inl at ↦ at
        | inr other ↦ absurd (omega (arith, some, cond-false (eqb (w.head a) v) (w.angle a) 0 (ne_eqb (w.head a) v other)))
      ],
    )

module _ (p : PlaneModel) (shape : ShapeModel) (b : BoxesModel) (plane : IsPlane p) (boxed : IsBoxed p shape b) (x y : ℕ → ℕ)
    (monotone : IsMonotone (dart_map b) x y) where
  faces : AreFaces (dart_map b)
  faces = are_faces (dart_map b) boxed.boxes.sound boxed.boxes.faces

  -- a point that lies inside a dart is where no dart arrives
  inside_alone : (z c px py : ℕ) → z < b.darts → c < b.darts → Holds ((dart_map b).direction z) x y px py (tail (dart_map b) z) ((dart_map b).head z)
      → px ≡ x ((dart_map b).head c) → py ≡ y ((dart_map b).head c) → ⊥
  inside_alone z c px py z_in c_in holds column row =
      vertex_outside (dart_map b) boxed.boxes.sound x y monotone faces z c z_in c_in
      (subst (λ (k : ℕ). Holds ((dart_map b).direction z) x y k (y ((dart_map b).head c)) (tail (dart_map b) z) ((dart_map b).head z)) column
      (subst (λ (k : ℕ). Holds ((dart_map b).direction z) x y px k (tail (dart_map b) z) ((dart_map b).head z)) row holds))

  -- two darts that pass one point: they are one, or each other's reverse, or arrive there at one vertex
  meet : (z c px py : ℕ) → z < b.darts → c < b.darts → PassesAt (dart_map b) x y px py z → PassesAt (dart_map b) x y px py c
      → ((z ≡ c) ⊎ (z ≡ (dart_map b).reverse_dart c))
      ⊎ (((dart_map b).head z ≡ (dart_map b).head c) × (px ≡ x ((dart_map b).head z)) × (py ≡ y ((dart_map b).head z)))
  meet z c px py z_in c_in one two =
      elim (passes_holds ((dart_map b).direction z) x y px py (tail (dart_map b) z) ((dart_map b).head z) one) [
        | inl holds ↦ elim (passes_holds ((dart_map b).direction c) x y px py (tail (dart_map b) c) ((dart_map b).head c) two) [
          | inl holds' ↦ inl (darts_apart (dart_map b) boxed.boxes.sound x y monotone faces px py z c z_in c_in holds holds')
          | inr (column, row) ↦ absurd (inside_alone z c px py z_in c_in holds column row)
        ]
        | inr (column, row) ↦ elim (passes_holds ((dart_map b).direction c) x y px py (tail (dart_map b) c) ((dart_map b).head c) two) [
          | inl holds' ↦ absurd (inside_alone c z px py c_in z_in holds' column row)
          | inr (column', row') ↦ inr (
            vertices_apart (dart_map b) boxed.boxes.sound x y monotone faces z c z_in c_in (sym column ∙ column') (sym row ∙ row'),
            column,
            row,
          )
        ]
      ]

  -- two parts of one path
  pub one_path : (d z c px py : ℕ) → d < darts p → IsPart (dart_map b) d z → IsPart (dart_map b) d c
      → PassesAt (dart_map b) x y px py z → PassesAt (dart_map b) x y px py c → z ≡ c
  one_path d z c px py d_in one two passes passes' =
      elim (meet z c px py (part_in p shape b plane boxed d z one) (part_in p shape b plane boxed d c two) passes passes') [
        | inl either ↦ elim either [
          | inl same ↦ same
          | inr back ↦
              let ends = plane_ends p plane in
              let other : IsPart (dart_map b) (reverse_dart p d) z =
              subst (λ (k : ℕ). IsPart (dart_map b) (reverse_dart p d) k) (sym back) (part_back p shape b plane boxed d c d_in two) in
              absurd (ends.reverse_dart_apart d d_in
              (one_part p shape b plane boxed (reverse_dart p d) d z (ends.reverse_dart_in_range d d_in) d_in other one))
        ]
        | inr (there, column, row) ↦ vertex_once p shape b plane boxed d z c d_in one two there
      ]

  -- parts of two paths, before the end of the first
  pub two_paths : (d e z c px py : ℕ) → d < darts p → e < darts p → IsPart (dart_map b) d z → IsPart (dart_map b) e c
      → PassesAt (dart_map b) x y px py z → IsBefore (dart_map b) x y px py z d → PassesAt (dart_map b) x y px py c → IsOneEdge p d e
  two_paths d e z c px py d_in e_in one two passes before passes' =
      let c_in = part_in p shape b plane boxed e c two in
      elim (meet z c px py (part_in p shape b plane boxed d z one) c_in passes passes') [
        | inl either ↦ elim either [
          | inl same ↦ part_of_one p shape b plane boxed d e z d_in e_in one (inl (subst (λ (k : ℕ). IsPart (dart_map b) e k) (sym same) two))
          | inr back ↦
              let there : c ≡ (dart_map b).reverse_dart z =
              sym (boxed.boxes.sound.tied.reverse_dart_back c c_in) ∙ ap (dart_map b).reverse_dart (sym back) in
              part_of_one p shape b plane boxed d e z d_in e_in one (inr (subst (λ (k : ℕ). IsPart (dart_map b) e k) there two))
        ]
        | inr (there, column, row) ↦ elim (meet_at_ends p shape b plane boxed d e z c d_in e_in one two there) [
          | inl edge ↦ edge
          | inr ends ↦ absurd (before column row ends.0)
        ]
      ]

  -- a vertex of the plane is on no path before its end
  pub off_path : (d z v : ℕ) → d < darts p → v < vertices p → IsPart (dart_map b) d z → PassesAt (dart_map b) x y (x v) (y v) z
      → IsBefore (dart_map b) x y (x v) (y v) z d → ⊥
  off_path d z v d_in v_in part passes before =
      let old = boxed.boxes.old_in in
      let z_in = part_in p shape b plane boxed d z part in
      let (a, a_in, at) = arrival (dart_map b) boxed.boxes.sound v (omega (arith, old, boxed.old, v_in)) in
      elim (passes_holds ((dart_map b).direction z) x y (x v) (y v) (tail (dart_map b) z) ((dart_map b).head z) passes) [
        | inl holds ↦ inside_alone z a (x v) (y v) z_in a_in holds (ap x (sym at)) (ap y (sym at))
        | inr (column, row) ↦
            let there : (dart_map b).head z ≡ v =
            vertices_apart (dart_map b) boxed.boxes.sound x y monotone faces z a z_in a_in (sym column ∙ ap x (sym at)) (sym row ∙ ap y (sym at)) ∙ at in
            before column row (end_alone p shape b plane boxed d z d_in part (omega (arith, there, v_in)))
      ]

  -- and no two vertices of the plane have one point
  pub vertex_one : (u v : ℕ) → u < vertices p → v < vertices p → x u ≡ x v → y u ≡ y v → u ≡ v
  vertex_one u v u_in v_in column row =
      let old = boxed.boxes.old_in in
      let (a, a_in, at) = arrival (dart_map b) boxed.boxes.sound u (omega (arith, old, boxed.old, u_in)) in
      let (c, c_in, at') = arrival (dart_map b) boxed.boxes.sound v (omega (arith, old, boxed.old, v_in)) in
      sym at
      ∙ vertices_apart (dart_map b) boxed.boxes.sound x y monotone faces a c a_in c_in (ap x at ∙ column ∙ ap x (sym at')) (ap y at ∙ row ∙ ap y (sym at'))
      ∙ at'
