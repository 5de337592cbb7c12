-- What the nodes of a plane's network supply together.
use Rattle.std.proofs.Common.{◌≡◌, ℕ, ◌+◌, ◌-◌, ◌≤◌, ◌==◌, ◌&&◌, ◌∙◌, not, Bool, true, false, if◌then◌else◌, cond, eqb, arith, subst, sym, ap, refl, inl, inr}
use Rattle.std.specs.Prelude.{ℤ, pos, negsuc, ◌-ℤ◌}
use borrow.Author.Differences.{up}
use Rattle.std.proofs.lemmas.Int.{ints}
use Rattle.std.proofs.lemmas.Bool.{cases_eq, eq-eqb, ne_eqb, cond-true, cond-false}
use Rattle.common.specs.Sums.{sum_below}
use Rattle.common.proofs.Sums.{sum_below-same, sum_below-split}
use Rattle.faces.specs.Planes.{PlaneModel, IsPlane, vertices, degree}
use Rattle.min_cost_flow.specs.Networks.{NetworkModel, supply_at}
use Rattle.flow_network.specs.FaceNet.{FaceNetModel, IsFaceNetOf, vertex_degree}
use Rattle.flow_network.proofs.GivenParts.{vertex_plain, face_plain}
use Rattle.min_cost_flow.specs.Round.{supply_sum}
use Rattle.run_laws.specs.Supplies.{is_inner_triangle, supplied_quarters, inner_triangles}
use Rattle.run_laws.proofs.ShortFaces.{three_darts}

up_less : (z : ℤ) (m k : ℕ) → z ≡ pos m -ℤ pos k → up z ≡ m - k
up_less (pos n) m k is = omega (arith, ints)
up_less (negsuc n) m k is = omega (arith, ints)

up_none : (z : ℤ) (k : ℕ) → z ≡ negsuc 3 -ℤ pos k → up z ≡ 0
up_none (pos n) k is = absurd (omega (arith, ints))
up_none (negsuc n) k is = refl

-- what a face supplies
face_units : (outer : Bool) (z : ℤ) (k : ℕ) → z ≡ (if outer then negsuc 3 else pos 4) -ℤ pos k → (outer ≡ false → 3 ≤ k)
    → up z ≡ cond {A = ℕ} ((k == 3) && not outer) 1 0
face_units true z k is many = up_none z k is ∙ sym (cond-false {A = ℕ} ((k == 3) && false) 1 0 (and_false (k == 3)))
  where
    and_false : (b : Bool) → (b && false) ≡ false
    and_false true = refl
    and_false false = refl
face_units false z k is many =
    let units : up z ≡ 4 - k = up_less z 4 k is in
    elim (cases_eq k 3) [
      | inl three ↦ omega (arith, units, three) ∙ sym (cond-true {A = ℕ} ((k == 3) && true) 1 0 (ap (λ (b : Bool). b && true) (eq-eqb k 3 three)))
      | inr other ↦ omega (arith, units, other, many refl) ∙ sym (cond-false {A = ℕ} ((k == 3) && true) 1 0 (ap (λ (b : Bool). b && true) (ne_eqb k 3 other)))
    ]

pub units : (p : PlaneModel) (n : FaceNetModel) → IsPlane p → IsFaceNetOf p n → supply_sum n.network ≡ supplied_quarters p + inner_triangles p
units p n plane is =
    let net : NetworkModel = n.network in
    let f : ℕ → ℕ = λ v. up (supply_at net v) in
    let at_vertices : sum_below (vertices p) f ≡ supplied_quarters p =
    sum_below-same (vertices p) f (λ k. 4 - vertex_degree p (k + 1))
    (λ k k_in.
    let back : k + 1 - 1 ≡ k = omega arith in
    up_less (supply_at net k) 4 (vertex_degree p (k + 1))
    (subst (λ (j : ℕ). supply_at net j ≡ pos 4 -ℤ pos (vertex_degree p (k + 1))) back (is.network.at_vertex (k + 1) (omega arith) (omega arith) ∙ vertex_plain p (k + 1)))) in
    let at_faces : sum_below p.faces (λ k. f (vertices p + k)) ≡ inner_triangles p =
    sum_below-same p.faces (λ k. f (vertices p + k)) (λ k. if is_inner_triangle p k then 1 else 0)
    (λ k k_in. face_units (eqb k p.outer) (supply_at net (vertices p + k)) (degree p k) (is.network.at_face k k_in ∙ face_plain p k)
    (λ inner. three_darts p plane k k_in (λ same. outside k inner same))) in
    ap (λ (m : ℕ). sum_below m f) is.network.nodes ∙ sum_below-split (vertices p) p.faces f
    ∙ ap (λ (m : ℕ). m + sum_below p.faces (λ k. f (vertices p + k))) at_vertices
    ∙ ap (λ (m : ℕ). supplied_quarters p + m) at_faces
  where
    outside : (k : ℕ) → eqb k p.outer ≡ false → k ≡ p.outer → ⊥
    outside k inner same = true_false (sym (eq-eqb k p.outer same) ∙ inner)
      where
        true_false : true ≡ false → ⊥
        true_false e = cc e
