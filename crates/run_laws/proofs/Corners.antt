-- The faces inside a frame are even: four right angles at each vertex strictly inside, two at each of the rim, less one at four.
use Rattle.std.proofs.Common.{◌≡◌, ◌≤◌, ◌<◌, ℕ, zero, suc, ◌+◌, ◌*◌, cond, eqb, Bool, true, false, not, ◌&&◌, refl, sym, ◌∙◌, ap, subst, inl, inr, arith}
use Rattle.std.specs.Prelude.{Option, Some, ◌==◌, if◌then◌else◌, ◌⊎◌}
use Rattle.std.proofs.lemmas.Bool.{cases_Bool, both_ways, not-true, not-false, not_from_false, false_from_ne_true, eq-eqb, eqb-true, ne_eqb, cond-true, cond-false}
use Rattle.common.specs.Sums.{sum_below}
use Rattle.common.proofs.Sums.{sum_below-same, sum_below-add, sum_below-none, sum_below-one, sum_below-times, exchanged}
use Rattle.faces.specs.Planes.{PlaneModel, IsPlane, darts, vertices, tail, head, next, reverse_dart, face_at}
use Rattle.faces.proofs.Ends.{plane_ends}
use Rattle.flow_network.specs.Given.{GivenModel, angle_given}
use Rattle.flow_network.proofs.GivenParts.{all_at}
use Rattle.run_laws.specs.Points.{right_angles}
use Rattle.run_laws.specs.Frames.{FaceSet, IsOnRim, IsFrame, IsCorner, IsSide, given_inside}
use Rattle.run_laws.proofs.Trees.{count_below}
use Rattle.run_laws.proofs.Halves.{touches, touches_from, untouched, touched, on_rim, rim_touched, is_outside}
use Rattle.run_laws.proofs.Discs.{beyond, is_rim, rims_at, one_at, none_at, disc}
use Rattle.run_laws.proofs.Weights.{IsEven}
use Rattle.run_laws.proofs.Angles.{HaveRoom, angle_of, angle_or, left_for, at_vertex, angles_model, four_around}

-- the angle at the head of a dart lies at the tail of the next one
inside_at : (p : PlaneModel) → IsPlane p → (filled : FaceSet) (v d : ℕ) → touches p filled v ≡ false → d < darts p → head p d ≡ v → filled (face_at p d) ≡ false
inside_at p plane filled v d none below at =
    let ends = plane_ends p plane in
    subst (λ (f : ℕ). filled f ≡ false) (plane.faces.closed d below)
    (untouched p filled v (next p d) none (ends.after_in_range (reverse_dart p d) (ends.reverse_dart_in_range d below)) (ends.next_tail d below ∙ at))

-- the angles inside at a vertex, with those of the model
abbrev angles_inside : PlaneModel → GivenModel → FaceSet → ℕ → ℕ
angles_inside p given inside v = at_vertex p v (λ d. angle_of p given d * cond (inside (face_at p d)) 1 0)

-- strictly inside they are all
all_inside : (p : PlaneModel) (given : GivenModel) → IsPlane p → (inside : FaceSet) (v : ℕ) → touches p (beyond inside) v ≡ false → angles_inside p given inside v ≡ at_vertex p v (λ d. angle_of p given d * 1)
all_inside p given plane inside v none =
    sum_below-same (darts p) (λ d. cond (eqb (head p d) v) (angle_of p given d * cond (inside (face_at p d)) 1 0) 0) (λ d. cond (eqb (head p d) v) (angle_of p given d * 1) 0)
    (λ d l. one (eqb (head p d) v) (inside (face_at p d)) (angle_of p given d) (λ at. not-false (inside (face_at p d)) (inside_at p plane (beyond inside) v d none l (eqb-true (head p d) v at))))
  where
    one : (a b : Bool) (n : ℕ) → (a ≡ true → b ≡ true) → cond a (n * cond b 1 0) 0 ≡ cond a (n * 1) 0
    one true b n is = ap (λ (t : Bool). n * cond t 1 0) (is refl)
    one false b n is = refl

-- strictly outside there are none
none_inside : (p : PlaneModel) (given : GivenModel) → IsPlane p → (inside : FaceSet) (v : ℕ) → touches p inside v ≡ false → angles_inside p given inside v ≡ 0
none_inside p given plane inside v none =
    sum_below-none (darts p) (λ d. cond (eqb (head p d) v) (angle_of p given d * cond (inside (face_at p d)) 1 0) 0)
    (λ d l. one (eqb (head p d) v) (inside (face_at p d)) (angle_of p given d) (λ at. inside_at p plane inside v d none l (eqb-true (head p d) v at)))
  where
    nothing : (n : ℕ) → n * 0 ≡ 0
    nothing n = omega arith

    one : (a b : Bool) (n : ℕ) → (a ≡ true → b ≡ false) → cond a (n * cond b 1 0) 0 ≡ 0
    one true b n is = ap (λ (t : Bool). n * cond t 1 0) (is refl) ∙ nothing n
    one false b n is = refl

-- on the rim they are given
given_at_rim : (p : PlaneModel) (given : GivenModel) (inside : FaceSet) → IsFrame p given inside → (v : ℕ) → IsOnRim p inside v → angles_inside p given inside v ≡ given_inside p given inside v
given_at_rim p given inside frame v on =
    sum_below-same (darts p) (λ d. cond (eqb (head p d) v) (angle_of p given d * cond (inside (face_at p d)) 1 0) 0)
    (λ d. if (head p d == v) && inside (face_at p d) then right_angles (angle_given given d) else 0)
    (λ d l. one (eqb (head p d) v) (inside (face_at p d)) (angle_given given d) (left_for p given d)
    (λ at here. frame.known d l here (subst (λ (u : ℕ). IsOnRim p inside u) (sym (eqb-true (head p d) v at)) on)))
  where
    once : (k : ℕ) → k * 1 ≡ k
    once k = omega arith

    nothing : (n : ℕ) → n * 0 ≡ 0
    nothing n = omega arith

    one : (a b : Bool) (g : Option ℕ) (r : ℕ) → (a ≡ true → b ≡ true → (k : ℕ) × (g ≡ Some k)) → cond a (angle_or g r * cond b 1 0) 0 ≡ cond (a && b) (right_angles g) 0
    one true true g r is = let known = is refl refl in
        subst (λ (o : Option ℕ). angle_or o r * 1 ≡ right_angles o) (sym known.1) (once known.0)
    one true false g r is = nothing (angle_or g r)
    one false b g r is = refl

-- at each vertex; place 0 is no vertex
parts_at : (p : PlaneModel) (given : GivenModel) → IsPlane p → HaveRoom p given → (inside : FaceSet) → IsFrame p given inside → (v : ℕ) → v < vertices p + 1
    → angles_inside p given inside v + 4 * cond (eqb 0 v) 1 0 ≡ 4 * cond (not (touches p (beyond inside) v)) 1 0 + given_inside p given inside v * rims_at p inside v
parts_at p given plane have inside frame zero below =
    close (angles_inside p given inside 0) (cond (eqb 0 0) 1 0) (cond (not (touches p (beyond inside) 0)) 1 0) (given_inside p given inside 0) (rims_at p inside 0)
    (none_inside p given plane inside 0 (free inside)) (cond-true {A = ℕ} (eqb 0 0) 1 0 (eq-eqb 0 0 refl))
    (cond-true {A = ℕ} (not (touches p (beyond inside) 0)) 1 0 (not_from_false (touches p (beyond inside) 0) (free (beyond inside))))
    (none_at p inside 0 (λ d rim at. let ends = plane_ends p plane in not_zero (head p d) (ends.head_from d rim.dart) at))
  where
    times_none : (g : ℕ) → g * 0 ≡ 0
    times_none g = omega arith

    close : (s z t g r : ℕ) → s ≡ 0 → z ≡ 1 → t ≡ 1 → r ≡ 0 → s + 4 * z ≡ 4 * t + g * r
    close s z t g r e1 e2 e3 e4 = let nothing : g * r ≡ 0 = ap (λ (n : ℕ). g * n) e4 ∙ times_none g in omega arith

    not_zero : (x : ℕ) → 1 ≤ x → x ≡ 0 → ⊥
    not_zero x some none = omega arith

    at_zero : (filled : FaceSet) → ((d : ℕ) × (d < darts p) × (tail p d ≡ 0) × (filled (face_at p d) ≡ true)) → ⊥
    at_zero filled found = let ends = plane_ends p plane in not_zero (tail p found.0) (ends.tail_from found.0 found.1) found.2

    free : (filled : FaceSet) → touches p filled 0 ≡ false
    free filled = false_from_ne_true (touches p filled 0) (λ on. at_zero filled (touched p filled 0 on))
parts_at p given plane have inside frame (suc k) below =
    let ends = plane_ends p plane in
    let zero_not : cond {A = ℕ} (eqb 0 (suc k)) 1 0 ≡ 0 = cond-false {A = ℕ} (eqb 0 (suc k)) 1 0 (ne_eqb 0 (suc k) (λ e. omega arith)) in
    elim (cases_Bool (touches p (beyond inside) (suc k))) [
      | inr within ↦
          close (angles_inside p given inside (suc k)) (cond (eqb 0 (suc k)) 1 0) (cond (not (touches p (beyond inside) (suc k))) 1 0) (given_inside p given inside (suc k) * rims_at p inside (suc k)) 4 1 0
          (all_inside p given plane inside (suc k) within ∙ subst (λ (v : ℕ). at_vertex p v (λ d. angle_of p given d * 1) ≡ 4) (next_is k) (four_around p given have k (omega arith)))
          zero_not (cond-true {A = ℕ} (not (touches p (beyond inside) (suc k))) 1 0 (not_from_false (touches p (beyond inside) (suc k)) within))
          (ap (λ (n : ℕ). given_inside p given inside (suc k) * n) (none_at p inside (suc k) (λ d rim at. both_ways (touches p (beyond inside) (suc k)) within
          (subst (λ (u : ℕ). touches p (beyond inside) u ≡ true) (ends.reverse_dart_tail d rim.dart ∙ at)
          (touches_from p (beyond inside) (reverse_dart p d) (ends.reverse_dart_in_range d rim.dart) (not_from_false (inside (face_at p (reverse_dart p d))) rim.across)))))
          ∙ times_none (given_inside p given inside (suc k)))
          refl
      | inl without ↦ elim (cases_Bool (touches p inside (suc k))) [
        | inl within ↦
            let e = touched p (beyond inside) (suc k) without in
            let on : IsOnRim p inside (suc k) = on_rim p plane inside (suc k) e.0 within e.1 e.2 (not-true (inside (face_at p e.0)) e.3) in
            close (angles_inside p given inside (suc k)) (cond (eqb 0 (suc k)) 1 0) (cond (not (touches p (beyond inside) (suc k))) 1 0) (given_inside p given inside (suc k) * rims_at p inside (suc k))
            (given_inside p given inside (suc k)) 0 (given_inside p given inside (suc k))
            (given_at_rim p given inside frame (suc k) on) zero_not (shut (touches p (beyond inside) (suc k)) without)
            (ap (λ (n : ℕ). given_inside p given inside (suc k) * n) (one_at p inside frame.cycle (suc k) on) ∙ times_one (given_inside p given inside (suc k)))
            (none_else (given_inside p given inside (suc k)))
        | inr off ↦
            close (angles_inside p given inside (suc k)) (cond (eqb 0 (suc k)) 1 0) (cond (not (touches p (beyond inside) (suc k))) 1 0) (given_inside p given inside (suc k) * rims_at p inside (suc k)) 0 0 0
            (none_inside p given plane inside (suc k) off) zero_not (shut (touches p (beyond inside) (suc k)) without)
            (ap (λ (n : ℕ). given_inside p given inside (suc k) * n) (none_at p inside (suc k) (λ d rim at. both_ways (touches p inside (suc k)) off
            (rim_touched p plane inside (suc k) (record { arrives = d; rim = rim; here = at }))))
            ∙ times_none (given_inside p given inside (suc k)))
            refl
      ]
    ]
  where
    close : (s z t r x y w : ℕ) → s ≡ x → z ≡ 0 → t ≡ y → r ≡ w → x ≡ 4 * y + w → s + 4 * z ≡ 4 * t + r
    close s z t r x y w e1 e2 e3 e4 e5 = omega arith

    next_is : (k : ℕ) → k + 1 ≡ suc k
    next_is k = omega arith

    times_none : (g : ℕ) → g * 0 ≡ 0
    times_none g = omega arith

    times_one : (g : ℕ) → g * 1 ≡ g
    times_one g = omega arith

    none_else : (g : ℕ) → g ≡ 4 * 0 + g
    none_else g = omega arith

    shut : (t : Bool) → t ≡ true → cond {A = ℕ} (not t) 1 0 ≡ 0
    shut true on = refl
    shut false on = absurd (both_ways false refl on)

-- the rim has two right angles inside at each of its darts' heads, less one at four
rim_angles : (p : PlaneModel) (given : GivenModel) (inside : FaceSet) → IsFrame p given inside
    → sum_below (darts p) (λ d. given_inside p given inside (head p d) * cond (is_rim p inside d) 1 0) + 4 ≡ 2 * count_below (darts p) (is_rim p inside)
rim_angles p given inside frame =
    let corner : ℕ → ℕ = λ d. if inside (face_at p d) && (if inside (face_at p (reverse_dart p d)) then false else true) && (given_inside p given inside (head p d) == 1) then 1 else 0 in
    let angles : ℕ → ℕ = λ d. given_inside p given inside (head p d) * cond (is_rim p inside d) 1 0 in
    let each : sum_below (darts p) (λ d. angles d + corner d) ≡ sum_below (darts p) (λ d. 2 * cond (is_rim p inside d) 1 0) =
    sum_below-same (darts p) (λ d. angles d + corner d) (λ d. 2 * cond (is_rim p inside d) 1 0)
    (λ d l. one (inside (face_at p d)) (inside (face_at p (reverse_dart p d))) (given_inside p given inside (head p d))
    (λ here across. corner_or_side (head p d) (frame.turns (head p d) (record { arrives = d; rim = record { dart = l; here = here; across = across }; here = refl })))) in
    close (sum_below (darts p) angles) (sum_below (darts p) corner) (sum_below (darts p) (λ d. angles d + corner d)) (sum_below (darts p) (λ d. 2 * cond (is_rim p inside d) 1 0)) (count_below (darts p) (is_rim p inside))
    each (sum_below-add (darts p) angles corner) (sum_below-times (darts p) 2 (λ d. cond (is_rim p inside d) 1 0)) frame.corners
  where
    corner_or_side : (v : ℕ) → IsCorner p given inside v ⊎ IsSide p given inside v → (given_inside p given inside v ≡ 1) ⊎ (given_inside p given inside v ≡ 2)
    corner_or_side v (inl corner) = inl corner
    corner_or_side v (inr side) = inr side.straight

    close : (a c ac t n : ℕ) → ac ≡ t → ac ≡ a + c → t ≡ 2 * n → c ≡ 4 → a + 4 ≡ 2 * n
    close a c ac t n e1 e2 e3 e4 = omega arith

    at_corner : (g : ℕ) → g ≡ 1 → (b : Bool) → b ≡ true → g * 1 + cond b 1 0 ≡ 2 * 1
    at_corner g is true on = omega arith
    at_corner g is false on = absurd (both_ways false refl on)

    at_side : (g : ℕ) → g ≡ 2 → (b : Bool) → b ≡ false → g * 1 + cond b 1 0 ≡ 2 * 1
    at_side g is false off = omega arith
    at_side g is true off = absurd (both_ways true off refl)

    one : (x y : Bool) (g : ℕ) → (x ≡ true → y ≡ false → (g ≡ 1) ⊎ (g ≡ 2)) → g * cond (x && not y) 1 0 + (if x && (if y then false else true) && (g == 1) then 1 else 0) ≡ 2 * cond (x && not y) 1 0
    one true true g is = omega arith
    one true false g is = elim (is refl refl) [
      | inl corner ↦ at_corner g corner (eqb g 1) (eq-eqb g 1 corner)
      | inr side ↦ at_side g side (eqb g 1) (ne_eqb g 1 (λ e. omega (arith, side, e)))
    ]
    one false y g is = omega arith

-- a dart whose face is inside runs strictly inside or along the rim
inside_parts : (p : PlaneModel) (inside : FaceSet) → sum_below (darts p) (λ d. cond (inside (face_at p d)) 1 0) ≡ count_below (darts p) (is_outside p (beyond inside)) + count_below (darts p) (is_rim p inside)
inside_parts p inside =
    sum_below-same (darts p) (λ d. cond (inside (face_at p d)) 1 0) (λ d. cond (is_outside p (beyond inside) d) 1 0 + cond (is_rim p inside d) 1 0)
    (λ d l. one (inside (face_at p d)) (inside (face_at p (reverse_dart p d))))
    ∙ sum_below-add (darts p) (λ d. cond (is_outside p (beyond inside) d) 1 0) (λ d. cond (is_rim p inside d) 1 0)
  where
    one : (x y : Bool) → cond {A = ℕ} x 1 0 ≡ cond (not (not x) && not (not y)) 1 0 + cond (x && not y) 1 0
    one true true = refl
    one true false = refl
    one false true = refl
    one false false = refl

pub even_inside : (p : PlaneModel) (given : GivenModel) → IsPlane p → HaveRoom p given → (inside : FaceSet) → IsFrame p given inside → IsEven (angles_model p given) (λ f. cond (inside f) 1 0)
even_inside p given plane have inside frame =
    let ends = plane_ends p plane in
    let n : ℕ = vertices p + 1 in
    let each : sum_below n (λ v. angles_inside p given inside v + 4 * cond (eqb 0 v) 1 0) ≡ sum_below n (λ v. 4 * cond (not (touches p (beyond inside) v)) 1 0 + given_inside p given inside v * rims_at p inside v) =
    sum_below-same n (λ v. angles_inside p given inside v + 4 * cond (eqb 0 v) 1 0) (λ v. 4 * cond (not (touches p (beyond inside) v)) 1 0 + given_inside p given inside v * rims_at p inside v)
    (parts_at p given plane have inside frame) in
    let angles : ℕ → ℕ = λ d. angle_of p given d * cond (inside (face_at p d)) 1 0 in
    let rims : ℕ → ℕ = λ v. given_inside p given inside v * rims_at p inside v in
    let within : (d : ℕ) → d < darts p → head p d < vertices p + 1 = λ d l. below (head p d) (vertices p) (ends.head_to d l) in
    close (sum_below p.faces (λ f. cond (inside f) 1 0)) (sum_below p.faces (λ f. cond (not (beyond inside f)) 1 0)) (sum_below (darts p) angles) (cond (inside p.outer) 1 0) (sum_below (darts p) (λ d. cond (inside (face_at p d)) 1 0))
    (sum_below n (λ v. angles_inside p given inside v)) (sum_below n (λ v. 4 * cond (eqb 0 v) 1 0)) (sum_below n (λ v. cond (eqb 0 v) 1 0)) (sum_below n (λ v. angles_inside p given inside v + 4 * cond (eqb 0 v) 1 0))
    (sum_below n (λ v. 4 * cond (not (touches p (beyond inside) v)) 1 0)) (count_below n (λ v. not (touches p (beyond inside) v))) (sum_below n rims)
    (sum_below n (λ v. 4 * cond (not (touches p (beyond inside) v)) 1 0 + rims v)) (sum_below (darts p) (λ d. given_inside p given inside (head p d) * cond (is_rim p inside d) 1 0))
    (count_below (darts p) (is_rim p inside)) (count_below (darts p) (is_outside p (beyond inside)))
    (sum_below-same p.faces (λ f. cond (inside f) 1 0) (λ f. cond (not (beyond inside f)) 1 0) (λ f l. twice (inside f)))
    (all_at (darts p) n (head p) angles within)
    (cond-false {A = ℕ} (inside p.outer) 1 0 frame.outer) (inside_parts p inside) each
    (sum_below-add n (λ v. angles_inside p given inside v) (λ v. 4 * cond (eqb 0 v) 1 0)) (sum_below-times n 4 (λ v. cond (eqb 0 v) 1 0)) (sum_below-one n 0 (λ _. 1) (some (vertices p)))
    (sum_below-add n (λ v. 4 * cond (not (touches p (beyond inside) v)) 1 0) rims) (sum_below-times n 4 (λ v. cond (not (touches p (beyond inside) v)) 1 0))
    (exchanged (darts p) n (head p) (λ d. cond (is_rim p inside d) 1 0) (given_inside p given inside) within)
    (rim_angles p given inside frame) (disc p plane inside frame.cycle)
  where
    below : (x n : ℕ) → x ≤ n → x < n + 1
    below x n less = omega arith

    some : (m : ℕ) → 0 < m + 1
    some m = omega arith

    twice : (x : Bool) → cond {A = ℕ} x 1 0 ≡ cond (not (not x)) 1 0
    twice true = refl
    twice false = refl

    close : (f f2 a o d s z4 z sz t4 t r tr g n di : ℕ) → f ≡ f2 → s ≡ a → o ≡ 0 → d ≡ di + n → sz ≡ tr → sz ≡ s + z4 → z4 ≡ 4 * z → z ≡ 1 → tr ≡ t4 + r → t4 ≡ 4 * t → r ≡ g → g + 4 ≡ 2 * n → (t + t) + (f2 + f2) ≡ di + 4
        → 4 * f + a ≡ 8 * o + 2 * d
    close f f2 a o d s z4 z sz t4 t r tr g n di e1 e2 e3 e4 e5 e6 e7 e8 e9 e10 e11 e12 e13 = omega arith
