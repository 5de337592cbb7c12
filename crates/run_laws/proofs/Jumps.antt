-- A set of faces that has both sides or none of each edge but those of rims. At each rim it has the faces inside, those outside,
-- both or none. Where it has just one of them, what lies on the other side of the rim makes up for it: together these sets
-- have each face equally often.
use Rattle.std.proofs.Common.{◌≡◌, ◌<◌, ℕ, ◌+◌, cond, eqb, Bool, true, false, not, ◌&&◌, refl, sym, ◌∙◌, ap, subst, inl, inr, arith}
use Rattle.std.proofs.lemmas.Bool.{cases_eq, cases_Bool, both_ways, and_parts, and_from, not-true, not-false, not_from_false, false_from_ne_true, eq-eqb, eqb-true}
use Rattle.common.specs.Sums.{sum_below}
use Rattle.common.proofs.Sums.{sum_below-same, sum_below-changed}
use Rattle.faces.specs.Planes.{PlaneModel, IsPlane, darts, tail, next, after, reverse_dart, face_at}
use Rattle.faces.proofs.Ends.{plane_ends}
use Rattle.faces.proofs.Connected.{faces_connected}
use Rattle.flow_network.proofs.VertexDegrees.{search_below}
use Rattle.run_laws.specs.Frames.{FaceSet, IsRim, IsCycle, IsOnRim}
use Rattle.run_laws.proofs.Rounds.{same, same_is, face_after, outside_alike, turned_cycle, rim_turned, turned_rim}
use Rattle.run_laws.proofs.Halves.{any_below, any_from, any_some, touches_from, on_rim}
use Rattle.run_laws.proofs.Discs.{beyond, is_rim, rim_is, is_rim_from}

-- rims that are cycles and have no vertex in common
pub record AreRims (p : PlaneModel) (frames : ℕ) (inside : ℕ → FaceSet) : Type 0 where
  pub cycle : (i : ℕ) → i < frames → IsCycle p (inside i)
  pub apart : (i j v : ℕ) → i < frames → j < frames → (i ≡ j → ⊥) → IsOnRim p (inside i) v → IsOnRim p (inside j) v → ⊥

-- no rim parts the sides of the dart
abbrev pub IsUnparted : PlaneModel → ℕ → (ℕ → FaceSet) → ℕ → Type 0
IsUnparted p frames inside d = (i : ℕ) → i < frames → inside i (face_at p d) ≡ inside i (face_at p (reverse_dart p d))

-- both sides or none of each such dart
abbrev pub HasBoth : PlaneModel → ℕ → (ℕ → FaceSet) → FaceSet → Type 0
HasBoth p frames inside s = (d : ℕ) → d < darts p → IsUnparted p frames inside d → s (face_at p d) ≡ s (face_at p (reverse_dart p d))

-- a dart that leaves a rim is parted by no other one
pub one_rim : (p : PlaneModel) → IsPlane p → (frames : ℕ) (inside : ℕ → FaceSet) → AreRims p frames inside → (i j x : ℕ) → i < frames → j < frames → (i ≡ j → ⊥) → x < darts p → IsOnRim p (inside i) (tail p x)
    → inside j (face_at p x) ≡ inside j (face_at p (reverse_dart p x))
one_rim p plane frames inside rims i j x i_in j_in other x_in on =
    let ends = plane_ends p plane in
    elim (cases_Bool (inside j (face_at p x))) [
      | inl left ↦ elim (cases_Bool (inside j (face_at p (reverse_dart p x)))) [
        | inl right ↦ left ∙ sym right
        | inr right ↦
            let after_out : inside j (face_at p (after p x)) ≡ false = subst (λ (f : ℕ). inside j f ≡ false) (sym (face_after p plane x x_in)) right in
            absurd (rims.apart i j (tail p x) i_in j_in other on
            (on_rim p plane (inside j) (tail p x) (after p x) (touches_from p (inside j) x x_in left) (ends.after_in_range x x_in) (ends.after_tail x x_in) after_out))
      ]
      | inr left ↦ elim (cases_Bool (inside j (face_at p (reverse_dart p x)))) [
        | inl right ↦
            let back : IsRim p (inside j) (reverse_dart p x) = record {
              dart = ends.reverse_dart_in_range x x_in;
              here = right;
              across = subst (λ (y : ℕ). inside j (face_at p y) ≡ false) (sym (ends.reverse_dart_back x x_in)) left;
            } in
            absurd (rims.apart i j (tail p x) i_in j_in other on (record { arrives = reverse_dart p x; rim = back; here = ends.reverse_dart_head x x_in }))
        | inr right ↦ left ∙ sym right
      ]
    ]

-- so no rim at all, where both sides lie on one side of that rim
pub unparted : (p : PlaneModel) → IsPlane p → (frames : ℕ) (inside : ℕ → FaceSet) → AreRims p frames inside → (i x : ℕ) → i < frames → x < darts p → IsOnRim p (inside i) (tail p x)
    → inside i (face_at p x) ≡ inside i (face_at p (reverse_dart p x)) → IsUnparted p frames inside x
unparted p plane frames inside rims i x i_in x_in on here j j_in =
    elim (cases_eq i j) [
      | inl is ↦ subst (λ (k : ℕ). inside k (face_at p x) ≡ inside k (face_at p (reverse_dart p x))) is here
      | inr other ↦ one_rim p plane frames inside rims i j x i_in j_in other x_in on
    ]

-- the faces across the darts of a rim are all in the set, or none
pub across_alike : (p : PlaneModel) → IsPlane p → (frames : ℕ) (inside : ℕ → FaceSet) → AreRims p frames inside → (s : FaceSet) → HasBoth p frames inside s → (i d e : ℕ) → i < frames → IsRim p (inside i) d → IsRim p (inside i) e
    → s (face_at p (reverse_dart p d)) ≡ s (face_at p (reverse_dart p e))
across_alike p plane frames inside rims s both i d e i_in d_rim e_rim =
    let ends = plane_ends p plane in
    outside_alike p plane (inside i) (rims.cycle i i_in) s
    (λ x l on out across. both x l (unparted p plane frames inside rims i x i_in l on (out ∙ sym across)))
    (reverse_dart p d) (reverse_dart p e) (ends.reverse_dart_in_range d d_rim.dart) (ends.reverse_dart_in_range e e_rim.dart)
    (record { arrives = d; rim = d_rim; here = sym (ends.reverse_dart_tail d d_rim.dart) })
    (record { arrives = e; rim = e_rim; here = sym (ends.reverse_dart_tail e e_rim.dart) })
    d_rim.across e_rim.across

-- a vertex of the turned rim is one of the rim
pub on_either : (p : PlaneModel) → IsPlane p → (inside : FaceSet) (v : ℕ) → IsOnRim p (beyond inside) v → IsOnRim p inside v
on_either p plane inside v on =
    let ends = plane_ends p plane in
    let turned : IsRim p (beyond inside) on.arrives = on.rim in
    let back : IsRim p inside (reverse_dart p on.arrives) = turned_rim p plane inside on.arrives on.rim in
    let e_in : next p on.arrives < darts p = ends.after_in_range (reverse_dart p on.arrives) back.dart in
    on_rim p plane inside v (next p on.arrives)
    (subst (λ (u : ℕ). touches_at u) (ends.reverse_dart_tail on.arrives turned.dart ∙ on.here) (touches_from p inside (reverse_dart p on.arrives) back.dart back.here))
    e_in (ends.next_tail on.arrives turned.dart ∙ on.here)
    (subst (λ (f : ℕ). inside f ≡ false) (sym (plane.faces.closed on.arrives turned.dart)) (not-true (inside (face_at p on.arrives)) turned.here))
  where
    touches_at : ℕ → Type 0
    touches_at u = any_below (darts p) (λ d. eqb (tail p d) u && inside (face_at p d)) ≡ true

-- and so are the faces of its darts
pub here_alike : (p : PlaneModel) → IsPlane p → (frames : ℕ) (inside : ℕ → FaceSet) → AreRims p frames inside → (s : FaceSet) → HasBoth p frames inside s → (i d e : ℕ) → i < frames → IsRim p (inside i) d → IsRim p (inside i) e
    → s (face_at p d) ≡ s (face_at p e)
here_alike p plane frames inside rims s both i d e i_in d_rim e_rim =
    let ends = plane_ends p plane in
    outside_alike p plane (beyond (inside i)) (turned_cycle p plane (inside i) (rims.cycle i i_in)) s
    (λ x l on out across. both x l (unparted p plane frames inside rims i x i_in l (on_either p plane (inside i) (tail p x) on)
    (not-false (inside i (face_at p x)) out ∙ sym (not-false (inside i (face_at p (reverse_dart p x))) across))))
    d e d_rim.dart e_rim.dart
    (record { arrives = reverse_dart p d; rim = rim_turned p plane (inside i) d d_rim; here = ends.reverse_dart_head d d_rim.dart })
    (record { arrives = reverse_dart p e; rim = rim_turned p plane (inside i) e e_rim; here = ends.reverse_dart_head e e_rim.dart })
    (out d d_rim) (out e e_rim)
  where
    out : (x : ℕ) → IsRim p (inside i) x → beyond (inside i) (face_at p x) ≡ false
    out x rim = subst (λ (b : Bool). not b ≡ false) (sym rim.here) refl

-- ---- what makes up for a rim

-- the set has faces inside the rim and not those across, or those across and not those inside
abbrev pub falls : PlaneModel → FaceSet → FaceSet → Bool
falls p inside s = any_below (darts p) (λ d. is_rim p inside d && (s (face_at p d) && not (s (face_at p (reverse_dart p d)))))

abbrev pub rises : PlaneModel → FaceSet → FaceSet → Bool
rises p inside s = any_below (darts p) (λ d. is_rim p inside d && (not (s (face_at p d)) && s (face_at p (reverse_dart p d))))

-- the faces that make up for it
abbrev pub made_up : PlaneModel → FaceSet → FaceSet → FaceSet
made_up p inside s f = cond (inside f) (rises p inside s) (falls p inside s)

abbrev pub how_often : PlaneModel → ℕ → (ℕ → FaceSet) → FaceSet → ℕ → ℕ
how_often p frames inside s f = cond (s f) 1 0 + sum_below frames (λ i. cond (made_up p (inside i) s f) 1 0)

falls_is : (p : PlaneModel) (inside s : FaceSet) (a b : Bool) (d : ℕ) → IsRim p inside d → s (face_at p d) ≡ a → s (face_at p (reverse_dart p d)) ≡ b
    → ((x : ℕ) → IsRim p inside x → (s (face_at p x) ≡ s (face_at p d)) × (s (face_at p (reverse_dart p x)) ≡ s (face_at p (reverse_dart p d))))
    → falls p inside s ≡ (a && not b)
falls_is p inside s a b d rim here across alike =
    elim (cases_Bool (a && not b)) [
      | inl on ↦
          let two = and_parts a (not b) on in
          any_from (darts p) d (λ x. is_rim p inside x && (s (face_at p x) && not (s (face_at p (reverse_dart p x))))) rim.dart
          (and_from (is_rim p inside d) (s (face_at p d) && not (s (face_at p (reverse_dart p d)))) (is_rim_from p inside d rim)
          (and_from (s (face_at p d)) (not (s (face_at p (reverse_dart p d)))) (here ∙ two.0) (not_from_false (s (face_at p (reverse_dart p d))) (across ∙ not-true b two.1))))
          ∙ sym on
      | inr off ↦
          false_from_ne_true (falls p inside s) (λ some.
          let found = any_some (darts p) (λ x. is_rim p inside x && (s (face_at p x) && not (s (face_at p (reverse_dart p x))))) some in
          let one = and_parts (is_rim p inside found.0) (s (face_at p found.0) && not (s (face_at p (reverse_dart p found.0)))) found.2 in
          let two = and_parts (s (face_at p found.0)) (not (s (face_at p (reverse_dart p found.0)))) one.1 in
          let like = alike found.0 (rim_is p inside found.0 found.1 one.0) in
          both_ways (a && not b) off (and_from a (not b) (sym here ∙ sym like.0 ∙ two.0) (not_from_false b (sym across ∙ sym like.1 ∙ not-true (s (face_at p (reverse_dart p found.0))) two.1))))
          ∙ sym off
    ]

rises_is : (p : PlaneModel) (inside s : FaceSet) (a b : Bool) (d : ℕ) → IsRim p inside d → s (face_at p d) ≡ a → s (face_at p (reverse_dart p d)) ≡ b
    → ((x : ℕ) → IsRim p inside x → (s (face_at p x) ≡ s (face_at p d)) × (s (face_at p (reverse_dart p x)) ≡ s (face_at p (reverse_dart p d))))
    → rises p inside s ≡ (not a && b)
rises_is p inside s a b d rim here across alike =
    elim (cases_Bool (not a && b)) [
      | inl on ↦
          let two = and_parts (not a) b on in
          any_from (darts p) d (λ x. is_rim p inside x && (not (s (face_at p x)) && s (face_at p (reverse_dart p x)))) rim.dart
          (and_from (is_rim p inside d) (not (s (face_at p d)) && s (face_at p (reverse_dart p d))) (is_rim_from p inside d rim)
          (and_from (not (s (face_at p d))) (s (face_at p (reverse_dart p d))) (not_from_false (s (face_at p d)) (here ∙ not-true a two.0)) (across ∙ two.1)))
          ∙ sym on
      | inr off ↦
          false_from_ne_true (rises p inside s) (λ some.
          let found = any_some (darts p) (λ x. is_rim p inside x && (not (s (face_at p x)) && s (face_at p (reverse_dart p x)))) some in
          let one = and_parts (is_rim p inside found.0) (not (s (face_at p found.0)) && s (face_at p (reverse_dart p found.0))) found.2 in
          let two = and_parts (not (s (face_at p found.0))) (s (face_at p (reverse_dart p found.0))) one.1 in
          let like = alike found.0 (rim_is p inside found.0 found.1 one.0) in
          both_ways (not a && b) off (and_from (not a) b (not_from_false a (sym here ∙ sym like.0 ∙ not-true (s (face_at p found.0)) two.0)) (sym across ∙ sym like.1 ∙ two.1)))
          ∙ sym off
    ]

-- across a rim
over_rim : (p : PlaneModel) → IsPlane p → (frames : ℕ) (inside : ℕ → FaceSet) → AreRims p frames inside → (s : FaceSet) → HasBoth p frames inside s → (i d : ℕ) → i < frames → IsRim p (inside i) d
    → how_often p frames inside s (face_at p d) ≡ how_often p frames inside s (face_at p (reverse_dart p d))
over_rim p plane frames inside rims s both i d i_in rim =
    let ends = plane_ends p plane in
    let f : ℕ → ℕ = λ j. cond (made_up p (inside j) s (face_at p d)) 1 0 in
    let g : ℕ → ℕ = λ j. cond (made_up p (inside j) s (face_at p (reverse_dart p d))) 1 0 in
    let alike : (x : ℕ) → IsRim p (inside i) x → (s (face_at p x) ≡ s (face_at p d)) × (s (face_at p (reverse_dart p x)) ≡ s (face_at p (reverse_dart p d))) =
    λ x x_rim. (here_alike p plane frames inside rims s both i x d i_in x_rim rim, across_alike p plane frames inside rims s both i x d i_in x_rim rim) in
    let changed : sum_below frames f + g i ≡ sum_below frames g + f i =
    sum_below-changed frames i f g i_in (λ j l other. ap (λ (t : Bool). cond (cond t (rises p (inside j) s) (falls p (inside j) s)) 1 0) (elsewhere j l (λ e. other (sym e)))) in
    let f_is : f i ≡ cond (rises p (inside i) s) 1 0 = ap (λ (t : Bool). cond (cond t (rises p (inside i) s) (falls p (inside i) s)) 1 0) rim.here in
    let g_is : g i ≡ cond (falls p (inside i) s) 1 0 = ap (λ (t : Bool). cond (cond t (rises p (inside i) s) (falls p (inside i) s)) 1 0) rim.across in
    close (cond (s (face_at p d)) 1 0) (cond (s (face_at p (reverse_dart p d))) 1 0) (sum_below frames f) (sum_below frames g) (f i) (g i) (cond (rises p (inside i) s) 1 0) (cond (falls p (inside i) s) 1 0)
    changed f_is g_is
    (even (s (face_at p d)) (s (face_at p (reverse_dart p d))) (rises p (inside i) s) (falls p (inside i) s)
    (rises_is p (inside i) s (s (face_at p d)) (s (face_at p (reverse_dart p d))) d rim refl refl alike)
    (falls_is p (inside i) s (s (face_at p d)) (s (face_at p (reverse_dart p d))) d rim refl refl alike))
  where
    elsewhere : (j : ℕ) → j < frames → (i ≡ j → ⊥) → inside j (face_at p d) ≡ inside j (face_at p (reverse_dart p d))
    elsewhere j j_in other =
        let ends = plane_ends p plane in
        let on : IsOnRim p (inside i) (tail p (reverse_dart p d)) = record { arrives = d; rim = rim; here = sym (ends.reverse_dart_tail d rim.dart) } in
        let turned = one_rim p plane frames inside rims i j (reverse_dart p d) i_in j_in other (ends.reverse_dart_in_range d rim.dart) on in
        sym (subst (λ (x : ℕ). inside j (face_at p (reverse_dart p d)) ≡ inside j (face_at p x)) (ends.reverse_dart_back d rim.dart) turned)

    even : (a b r f : Bool) → r ≡ (not a && b) → f ≡ (a && not b) → cond a 1 0 + cond r 1 0 ≡ cond b 1 0 + cond f 1 0
    even true true r f r_is f_is = subst (λ (x : Bool). cond true 1 0 + cond x 1 0 ≡ cond true 1 0 + cond f 1 0) (sym r_is) (subst (λ (y : Bool). cond true 1 0 + cond false 1 0 ≡ cond true 1 0 + cond y 1 0) (sym f_is) refl)
    even true false r f r_is f_is = subst (λ (x : Bool). cond true 1 0 + cond x 1 0 ≡ cond false 1 0 + cond f 1 0) (sym r_is) (subst (λ (y : Bool). cond true 1 0 + cond false 1 0 ≡ cond false 1 0 + cond y 1 0) (sym f_is) refl)
    even false true r f r_is f_is = subst (λ (x : Bool). cond false 1 0 + cond x 1 0 ≡ cond true 1 0 + cond f 1 0) (sym r_is) (subst (λ (y : Bool). cond false 1 0 + cond true 1 0 ≡ cond true 1 0 + cond y 1 0) (sym f_is) refl)
    even false false r f r_is f_is = subst (λ (x : Bool). cond false 1 0 + cond x 1 0 ≡ cond false 1 0 + cond f 1 0) (sym r_is) (subst (λ (y : Bool). cond false 1 0 + cond false 1 0 ≡ cond false 1 0 + cond y 1 0) (sym f_is) refl)

    close : (a b f g fi gi r l : ℕ) → f + gi ≡ g + fi → fi ≡ r → gi ≡ l → a + r ≡ b + l → a + f ≡ b + g
    close a b f g fi gi r l e1 e2 e3 e4 = omega arith

-- across any edge
over_edge : (p : PlaneModel) → IsPlane p → (frames : ℕ) (inside : ℕ → FaceSet) → AreRims p frames inside → (s : FaceSet) → HasBoth p frames inside s → (d : ℕ) → d < darts p
    → how_often p frames inside s (face_at p d) ≡ how_often p frames inside s (face_at p (reverse_dart p d))
over_edge p plane frames inside rims s both d d_in =
    let ends = plane_ends p plane in
    elim (search_below frames (λ i. not (same (inside i (face_at p d)) (inside i (face_at p (reverse_dart p d)))))) [
      | inl found ↦
          let i : ℕ = found.0 in
          let apart : same (inside found.0 (face_at p d)) (inside found.0 (face_at p (reverse_dart p d))) ≡ false = not-true (same (inside found.0 (face_at p d)) (inside found.0 (face_at p (reverse_dart p d)))) found.2 in
          elim (cases_Bool (inside found.0 (face_at p d))) [
            | inl left ↦ over_rim p plane frames inside rims s both found.0 d found.1
                (record { dart = d_in; here = left; across = one_side (inside found.0 (face_at p d)) (inside found.0 (face_at p (reverse_dart p d))) apart left })
            | inr left ↦
                let back : IsRim p (inside found.0) (reverse_dart p d) = record {
                  dart = ends.reverse_dart_in_range d d_in;
                  here = other_side (inside found.0 (face_at p d)) (inside found.0 (face_at p (reverse_dart p d))) apart left;
                  across = subst (λ (x : ℕ). inside found.0 (face_at p x) ≡ false) (sym (ends.reverse_dart_back d d_in)) left;
                } in
                sym (subst (λ (x : ℕ). how_often p frames inside s (face_at p (reverse_dart p d)) ≡ how_often p frames inside s (face_at p x)) (ends.reverse_dart_back d d_in)
                (over_rim p plane frames inside rims s both found.0 (reverse_dart p d) found.1 back))
          ]
      | inr none ↦
          let alike : IsUnparted p frames inside d = λ i l. same_is (inside i (face_at p d)) (inside i (face_at p (reverse_dart p d))) (not-false (same (inside i (face_at p d)) (inside i (face_at p (reverse_dart p d)))) (none i l)) in
          both_same (cond (s (face_at p d)) 1 0) (cond (s (face_at p (reverse_dart p d))) 1 0)
          (sum_below frames (λ i. cond (made_up p (inside i) s (face_at p d)) 1 0)) (sum_below frames (λ i. cond (made_up p (inside i) s (face_at p (reverse_dart p d))) 1 0))
          (ap (λ (t : Bool). cond t 1 0) (both d d_in alike))
          (sum_below-same frames (λ i. cond (made_up p (inside i) s (face_at p d)) 1 0) (λ i. cond (made_up p (inside i) s (face_at p (reverse_dart p d))) 1 0)
          (λ i l. ap (λ (t : Bool). cond (cond t (rises p (inside i) s) (falls p (inside i) s)) 1 0) (alike i l)))
    ]
  where
    one_side : (a b : Bool) → same a b ≡ false → a ≡ true → b ≡ false
    one_side true b apart on = apart
    one_side false b apart on = absurd (both_ways false refl on)

    other_side : (a b : Bool) → same a b ≡ false → a ≡ false → b ≡ true
    other_side false b apart off = not-false b apart
    other_side true b apart off = absurd (both_ways true off refl)

    both_same : (a b x y : ℕ) → a ≡ b → x ≡ y → a + x ≡ b + y
    both_same a b x y one two = omega arith

-- so all faces are had equally often
pub equally_often : (p : PlaneModel) → IsPlane p → (frames : ℕ) (inside : ℕ → FaceSet) → AreRims p frames inside → (s : FaceSet) → HasBoth p frames inside s → (f : ℕ) → f < p.faces
    → how_often p frames inside s f ≡ how_often p frames inside s p.outer
equally_often p plane frames inside rims s both f f_in =
    let t : ℕ → Bool = λ x. eqb (how_often p frames inside s x) (how_often p frames inside s p.outer) in
    eqb-true (how_often p frames inside s f) (how_often p frames inside s p.outer)
    (faces_connected p plane t
    (λ d l held. eq-eqb (how_often p frames inside s (face_at p (reverse_dart p d))) (how_often p frames inside s p.outer)
    (sym (over_edge p plane frames inside rims s both d l) ∙ eqb-true (how_often p frames inside s (face_at p d)) (how_often p frames inside s p.outer) held))
    p.outer f plane.outer f_in (eq-eqb (how_often p frames inside s p.outer) (how_often p frames inside s p.outer) refl))
