-- Points and frames: their rims, the room that their vertices have, and what a cut has of faces.
use Rattle.std.proofs.Common.{◌≡◌, ◌≤◌, ◌<◌, ℕ, ◌+◌, cond, eqb, Bool, true, false, not, ◌&&◌, List, refl, sym, ◌∙◌, ap, subst, inl, inr, arith}
use Rattle.std.specs.Prelude.{Option, Some, None, ◌==◌, if◌then◌else◌, ◌⊎◌, ℤ}
use Rattle.std.proofs.lemmas.Bool.{cases_eq, cases_Bool, both_ways, and_parts, and_from, not-true, not_from_false, false_from_ne_true, eq-eqb, eqb-true}
use Rattle.common.proofs.Sums.{sum_below-same, sum_below-none, sum_below-member}
use Rattle.faces.specs.Planes.{PlaneModel, IsPlane, darts, vertices, tail, head, next, after, reverse_dart, face_at}
use Rattle.faces.proofs.Ends.{plane_ends}
use Rattle.flow_network.specs.Marks.{is_marked}
use Rattle.flow_network.specs.Given.{GivenModel, IsAngle, angle_given, turns_given, beyond_first}
use Rattle.flow_network.specs.FaceNet.{vertex_degree, beyond_at_vertex}
use Rattle.flow_network.proofs.Flowing.{chosen, chosen_arrives}
use Rattle.flow_network.proofs.VertexDegrees.{search_below, arrivals_most}
use Rattle.conditions.specs.Cut.{ShowsNone}
use Rattle.run_laws.specs.Points.{IsPoint, IsGivenAngle, right_angles, given_around}
use Rattle.run_laws.specs.Frames.{FaceSet, IsRim, IsOnRim, IsCorner, IsSide, AreParts, given_inside, angles_outside}
use Rattle.run_laws.proofs.Trees.{alike}
use Rattle.run_laws.proofs.Rounds.{around, face_after, leaves, outside_alike, same, same_is, same_from}
use Rattle.run_laws.proofs.Halves.{touches, touches_from, touched, on_rim}
use Rattle.run_laws.proofs.Discs.{beyond}
use Rattle.run_laws.proofs.Jumps.{AreRims, IsUnparted, HasBoth, unparted}
use Rattle.run_laws.proofs.Angles.{HaveRoom, lacks, is_free, free_angles, arrivals_parts}

pub are_rims : (p : PlaneModel) (given : GivenModel) (frames : ℕ) (inside : ℕ → FaceSet) → AreParts p given frames inside → AreRims p frames inside
are_rims p given frames inside parts = record {
  cycle = λ i l. (parts.frame i l).cycle;
  apart = λ i j v i_in j_in other one two. (parts.apart i j i_in j_in other).rims v one two;
}

-- turns are given along rims alone
free_turns : (p : PlaneModel) (given : GivenModel) (frames : ℕ) (inside : ℕ → FaceSet) → IsPlane p → AreParts p given frames inside → (d : ℕ) → d < darts p → IsUnparted p frames inside d → turns_given p given d ≡ None
free_turns p given frames inside plane parts d below un = known (turns_given p given d) refl
  where
    no_rim : (i : ℕ) → i < frames → IsRim p (inside i) d ⊎ IsRim p (inside i) (reverse_dart p d) → ⊥
    no_rim i l (inl rim) = both_ways (inside i (face_at p (reverse_dart p d))) rim.across (sym (un i l) ∙ rim.here)
    no_rim i l (inr rim) =
        let ends = plane_ends p plane in
        both_ways (inside i (face_at p d)) (subst (λ (x : ℕ). inside i (face_at p x) ≡ false) (ends.reverse_dart_back d below) rim.across) (un i l ∙ rim.here)

    known : (t : Option ℤ) → turns_given p given d ≡ t → turns_given p given d ≡ None
    known None is = is
    known (Some t) is = let (i, l, rim) = parts.turns d below t is in absurd (no_rim i l rim)

unparted_back : (p : PlaneModel) (frames : ℕ) (inside : ℕ → FaceSet) → IsPlane p → (d : ℕ) → d < darts p → IsUnparted p frames inside d → IsUnparted p frames inside (reverse_dart p d)
unparted_back p frames inside plane d below un i l =
    let ends = plane_ends p plane in
    subst (λ (x : ℕ). inside i (face_at p (reverse_dart p d)) ≡ inside i (face_at p x)) (sym (ends.reverse_dart_back d below)) (sym (un i l))

-- a cut has both faces or none of each edge that is no rim's
pub have_both : (p : PlaneModel) (given : GivenModel) (frames : ℕ) (inside : ℕ → FaceSet) → IsPlane p → AreParts p given frames inside → (vs fs : List Bool) → ShowsNone p given vs fs → HasBoth p frames inside (is_marked fs)
have_both p given frames inside plane parts vs fs shows d below un =
    let ends = plane_ends p plane in
    alike (is_marked fs (face_at p d)) (is_marked fs (face_at p (reverse_dart p d)))
    (shows.crossings d below (free_turns p given frames inside plane parts d below un))
    (λ there. subst (λ (x : ℕ). is_marked fs (face_at p x) ≡ true) (ends.reverse_dart_back d below)
    (shows.crossings (reverse_dart p d) (ends.reverse_dart_in_range d below)
    (free_turns p given frames inside plane parts (reverse_dart p d) (ends.reverse_dart_in_range d below) (unparted_back p frames inside plane d below un)) there))

-- a vertex on no rim has all its angles on one side of each
pub on_one_side : (p : PlaneModel) → IsPlane p → (frames : ℕ) (inside : ℕ → FaceSet) (v : ℕ)
    → ((i : ℕ) × (i < frames) × IsOnRim p (inside i) v) ⊎ ((i : ℕ) → i < frames → (touches p (inside i) v && touches p (beyond (inside i)) v) ≡ false)
on_one_side p plane frames inside v =
    elim (search_below frames (λ i. touches p (inside i) v && touches p (beyond (inside i)) v)) [
      | inl found ↦
          let two = and_parts (touches p (inside found.0) v) (touches p (beyond (inside found.0)) v) found.2 in
          let e = touched p (beyond (inside found.0)) v two.1 in
          inl (found.0, found.1, on_rim p plane (inside found.0) v e.0 two.0 e.1 e.2 (not-true (inside found.0 (face_at p e.0)) e.3))
      | inr none ↦ inr none
    ]

free_unparted : (p : PlaneModel) → IsPlane p → (frames : ℕ) (inside : ℕ → FaceSet) (v : ℕ) → ((i : ℕ) → i < frames → (touches p (inside i) v && touches p (beyond (inside i)) v) ≡ false)
    → (x : ℕ) → x < darts p → tail p x ≡ v → IsUnparted p frames inside x
free_unparted p plane frames inside v none x below at i l =
    let ends = plane_ends p plane in
    let left : (s : FaceSet) → s (face_at p x) ≡ true → touches p s v ≡ true = λ s on. subst (λ (u : ℕ). touches p s u ≡ true) at (touches_from p s x below on) in
    let right : (s : FaceSet) → s (face_at p (reverse_dart p x)) ≡ true → touches p s v ≡ true =
    λ s on. subst (λ (u : ℕ). touches p s u ≡ true) (ends.after_tail x below ∙ at)
    (touches_from p s (after p x) (ends.after_in_range x below) (subst (λ (f : ℕ). s f ≡ true) (sym (face_after p plane x below)) on)) in
    let never : touches p (inside i) v ≡ true → touches p (beyond (inside i)) v ≡ true → ⊥ =
    λ one two. both_ways (touches p (inside i) v && touches p (beyond (inside i)) v) (none i l) (and_from (touches p (inside i) v) (touches p (beyond (inside i)) v) one two) in
    elim (cases_Bool (inside i (face_at p x))) [
      | inl on ↦ elim (cases_Bool (inside i (face_at p (reverse_dart p x)))) [
        | inl across ↦ on ∙ sym across
        | inr across ↦ absurd (never (left (inside i) on) (right (beyond (inside i)) (not_from_false (inside i (face_at p (reverse_dart p x))) across)))
      ]
      | inr off ↦ elim (cases_Bool (inside i (face_at p (reverse_dart p x)))) [
        | inl across ↦ absurd (never (right (inside i) across) (left (beyond (inside i)) (not_from_false (inside i (face_at p x)) off)))
        | inr across ↦ off ∙ sym across
      ]
    ]

pub free_parts : (p : PlaneModel) (given : GivenModel) (v d : ℕ) → is_free p given v d ≡ true → (head p d ≡ v) × (lacks (angle_given given d) ≡ true)
free_parts p given v d on = let two = and_parts (eqb (head p d) v) (lacks (angle_given given d)) on in (eqb-true (head p d) v two.0, two.1)

not_given : (g : Option ℕ) (k : ℕ) → lacks g ≡ true → g ≡ Some k → ⊥
not_given g k none is = both_ways (lacks (Some k)) refl (subst (λ (o : Option ℕ). lacks o ≡ true) is none)

-- the free angles of a vertex lie all in faces of the set, or none does
pub free_alike : (p : PlaneModel) (given : GivenModel) (frames : ℕ) (inside : ℕ → FaceSet) → IsPlane p → AreParts p given frames inside → (s : FaceSet) → HasBoth p frames inside s
    → (v d e : ℕ) → d < darts p → e < darts p → is_free p given v d ≡ true → is_free p given v e ≡ true → s (face_at p d) ≡ s (face_at p e)
free_alike p given frames inside plane parts s both v d e d_in e_in d_free e_free =
    let ends = plane_ends p plane in
    let d_parts = free_parts p given v d d_free in
    let e_parts = free_parts p given v e e_free in
    let d_next : next p d < darts p = ends.after_in_range (reverse_dart p d) (ends.reverse_dart_in_range d d_in) in
    let e_next : next p e < darts p = ends.after_in_range (reverse_dart p e) (ends.reverse_dart_in_range e e_in) in
    let d_at : tail p (next p d) ≡ v = ends.next_tail d d_in ∙ d_parts.0 in
    let e_at : tail p (next p e) ≡ v = ends.next_tail e e_in ∙ e_parts.0 in
    let d_face : face_at p (next p d) ≡ face_at p d = plane.faces.closed d d_in in
    let e_face : face_at p (next p e) ≡ face_at p e = plane.faces.closed e e_in in
    let later : s (face_at p (next p d)) ≡ s (face_at p (next p e)) =
    elim (on_one_side p plane frames inside v) [
      | inl rim ↦
          let outside : (x : ℕ) → x < darts p → is_free p given v x ≡ true → inside rim.0 (face_at p (next p x)) ≡ false =
          λ x l free. false_from_ne_true (inside rim.0 (face_at p (next p x))) (λ on.
          let x_parts = free_parts p given v x free in
          let known : IsGivenAngle given x = (parts.frame rim.0 rim.1).known x l (subst (λ (f : ℕ). inside rim.0 f ≡ true) (plane.faces.closed x l) on)
          (subst (λ (u : ℕ). IsOnRim p (inside rim.0) u) (sym x_parts.0) rim.2) in
          not_given (angle_given given x) known.0 x_parts.1 known.1) in
          outside_alike p plane (inside rim.0) (parts.frame rim.0 rim.1).cycle s
          (λ x l on out across. both x l (unparted p plane frames inside (are_rims p given frames inside parts) rim.0 x rim.1 l on (out ∙ sym across)))
          (next p d) (next p e) d_next e_next
          (subst (λ (u : ℕ). IsOnRim p (inside rim.0) u) (sym d_at) rim.2) (subst (λ (u : ℕ). IsOnRim p (inside rim.0) u) (sym e_at) rim.2)
          (outside d d_in d_free) (outside e e_in e_free)
      | inr none ↦
          let t : ℕ → Bool = λ x. same (s (face_at p x)) (s (face_at p (next p e))) in
          let shut : (x : ℕ) → x < darts p → tail p x ≡ v → t x ≡ true → t (after p x) ≡ true =
          λ x l at on. same_from (s (face_at p (after p x))) (s (face_at p (next p e)))
          (ap s (face_after p plane x l) ∙ sym (both x l (free_unparted p plane frames inside v none x l at)) ∙ same_is (s (face_at p x)) (s (face_at p (next p e))) on) in
          same_is (s (face_at p (next p d))) (s (face_at p (next p e)))
          (around p t v shut (next p e) (next p d) e_next d_next e_at d_at (same_from (s (face_at p (next p e))) (s (face_at p (next p e))) refl))
    ] in
    sym (ap s d_face) ∙ later ∙ ap s e_face

-- ---- room at each vertex

abbrev given_out : PlaneModel → GivenModel → FaceSet → ℕ → ℕ → Bool
given_out p given inside v d = eqb (head p d) v && (not (lacks (angle_given given d)) && not (inside (face_at p d)))

has_value : (g : Option ℕ) → lacks g ≡ false → (k : ℕ) × (g ≡ Some k)
has_value None off = absurd (both_ways true off refl)
has_value (Some k) off = (k, refl)

-- a vertex is a point; or it lies on a rim, with its angles outside free; or all its angles are free
data Kind (p : PlaneModel) (given : GivenModel) (frames : ℕ) (inside : ℕ → FaceSet) (v : ℕ) : Type 0 where
  is_point : IsPoint p given v → Kind p given frames inside v
  at_rim : (i : ℕ) → i < frames → IsOnRim p (inside i) v → ((d : ℕ) → d < darts p → head p d ≡ v → inside i (face_at p d) ≡ false → lacks (angle_given given d) ≡ true) → Kind p given frames inside v
  all_free : ((d : ℕ) → d < darts p → head p d ≡ v → lacks (angle_given given d) ≡ true) → Kind p given frames inside v

kind_of : (p : PlaneModel) (given : GivenModel) (frames : ℕ) (inside : ℕ → FaceSet) → IsPlane p → AreParts p given frames inside → (v : ℕ) → Kind p given frames inside v
kind_of p given frames inside plane parts v =
    elim (on_one_side p plane frames inside v) [
      | inl on ↦ elim (search_below (darts p) (given_out p given (inside on.0) v)) [
        | inl found ↦
            let one = and_parts (eqb (head p found.0) v) (not (lacks (angle_given given found.0)) && not (inside on.0 (face_at p found.0))) found.2 in
            let two = and_parts (not (lacks (angle_given given found.0))) (not (inside on.0 (face_at p found.0))) one.1 in
            let at : head p found.0 ≡ v = eqb-true (head p found.0) v one.0 in
            is_point (outside_point on.0 on.1 on.2 found.0 at (not-true (inside on.0 (face_at p found.0)) two.1)
            (parts.angles found.0 found.1 (has_value (angle_given given found.0) (not-true (lacks (angle_given given found.0)) two.0))))
        | inr none ↦ at_rim on.0 on.1 on.2 (λ d l at out. left_free (eqb (head p d) v) (lacks (angle_given given d)) (inside on.0 (face_at p d)) (none d l) (eq-eqb (head p d) v at) out)
      ]
      | inr apart ↦ elim (search_below (darts p) (λ d. eqb (head p d) v && not (lacks (angle_given given d)))) [
        | inl found ↦
            let one = and_parts (eqb (head p found.0) v) (not (lacks (angle_given given found.0))) found.2 in
            let at : head p found.0 ≡ v = eqb-true (head p found.0) v one.0 in
            is_point (no_rim_point apart found.0 at (parts.angles found.0 found.1 (has_value (angle_given given found.0) (not-true (lacks (angle_given given found.0)) one.1))))
        | inr none ↦ all_free (λ d l at. just_free (eqb (head p d) v) (lacks (angle_given given d)) (none d l) (eq-eqb (head p d) v at))
      ]
    ]
  where
    left_free : (a b c : Bool) → (a && (not b && not c)) ≡ false → a ≡ true → c ≡ false → b ≡ true
    left_free a true c none at out = refl
    left_free true false false none at out = sym none
    left_free true false true none at out = sym out
    left_free false false c none at out = at

    just_free : (a b : Bool) → (a && not b) ≡ false → a ≡ true → b ≡ true
    just_free a true none at = refl
    just_free true false none at = sym none
    just_free false false none at = at

    outside_point : (i : ℕ) → i < frames → IsOnRim p (inside i) v → (d : ℕ) → head p d ≡ v → inside i (face_at p d) ≡ false
        → IsPoint p given (head p d) ⊎ ((j : ℕ) × (j < frames) × (inside j (face_at p d) ≡ true) × IsOnRim p (inside j) (head p d)) → IsPoint p given v
    outside_point i i_in on d at out (inl is) = subst (λ (u : ℕ). IsPoint p given u) at is
    outside_point i i_in on d at out (inr found) = elim (cases_eq i found.0) [
      | inl is ↦ absurd (both_ways (inside i (face_at p d)) out (subst (λ (k : ℕ). inside k (face_at p d) ≡ true) (sym is) found.2))
      | inr other ↦ absurd ((parts.apart i found.0 i_in found.1 other).rims v on (subst (λ (u : ℕ). IsOnRim p (inside found.0) u) at found.3))
    ]

    inner : (i : ℕ) → IsOnRim p (inside i) v → touches p (inside i) v ≡ true
    inner i on =
        let r = leaves p plane (inside i) on.arrives on.rim in
        let r_rim : IsRim p (inside i) r.0 = r.1 in
        subst (λ (u : ℕ). touches p (inside i) u ≡ true) (r.2 ∙ on.here) (touches_from p (inside i) r.0 r_rim.dart r_rim.here)

    outer : (i : ℕ) → IsOnRim p (inside i) v → touches p (beyond (inside i)) v ≡ true
    outer i on =
        let ends = plane_ends p plane in
        let a = on.rim in
        subst (λ (u : ℕ). touches p (beyond (inside i)) u ≡ true) (ends.reverse_dart_tail on.arrives a.dart ∙ on.here)
        (touches_from p (beyond (inside i)) (reverse_dart p on.arrives) (ends.reverse_dart_in_range on.arrives a.dart) (not_from_false (inside i (face_at p (reverse_dart p on.arrives))) a.across))

    no_rim_point : ((i : ℕ) → i < frames → (touches p (inside i) v && touches p (beyond (inside i)) v) ≡ false) → (d : ℕ) → head p d ≡ v
        → IsPoint p given (head p d) ⊎ ((j : ℕ) × (j < frames) × (inside j (face_at p d) ≡ true) × IsOnRim p (inside j) (head p d)) → IsPoint p given v
    no_rim_point apart d at (inl is) = subst (λ (u : ℕ). IsPoint p given u) at is
    no_rim_point apart d at (inr found) =
        let on : IsOnRim p (inside found.0) v = subst (λ (u : ℕ). IsOnRim p (inside found.0) u) at found.3 in
        absurd (both_ways (touches p (inside found.0) v && touches p (beyond (inside found.0)) v) (apart found.0 found.1)
        (and_from (touches p (inside found.0) v) (touches p (beyond (inside found.0)) v) (inner found.0 on) (outer found.0 on)))

no_right_angles : (g : Option ℕ) → lacks g ≡ true → right_angles g ≡ 0
no_right_angles None none = refl
no_right_angles (Some k) none = absurd (both_ways false refl none)

-- a point has no free angle
point_free : (p : PlaneModel) (given : GivenModel) (v : ℕ) → IsPoint p given v → free_angles p given v ≡ 0
point_free p given v is = sum_below-none (darts p) (λ d. cond (is_free p given v d) 1 0) (λ d l. one (is_free p given v d) (λ on. absurd (not_free d l on)))
  where
    not_free : (d : ℕ) → d < darts p → is_free p given v d ≡ true → ⊥
    not_free d l on =
        let two = free_parts p given v d on in
        let known = is.all d l two.0 in
        not_given (angle_given given d) known.0 two.1 known.1

    one : (a : Bool) → (a ≡ true → a ≡ false) → cond {A = ℕ} a 1 0 ≡ 0
    one true off = absurd (both_ways true (off refl) refl)
    one false off = refl

-- with no angle given
none_given : (p : PlaneModel) (given : GivenModel) (v : ℕ) → ((d : ℕ) → d < darts p → head p d ≡ v → lacks (angle_given given d) ≡ true) → beyond_at_vertex p given v ≡ 0
none_given p given v free = sum_below-none (darts p) (λ d. cond (eqb (head p d) v) (beyond_first (angle_given given d)) 0)
    (λ d l. one (eqb (head p d) v) (angle_given given d) (λ at. free d l (eqb-true (head p d) v at)))
  where
    one : (a : Bool) (g : Option ℕ) → (a ≡ true → lacks g ≡ true) → cond a (beyond_first g) 0 ≡ 0
    one false g is = refl
    one true None is = refl
    one true (Some k) is = absurd (both_ways false refl (is refl))

-- at a rim with free angles outside, those given are those inside
given_is_inside : (p : PlaneModel) (given : GivenModel) (inside : FaceSet) (v : ℕ) → ((d : ℕ) → d < darts p → head p d ≡ v → inside (face_at p d) ≡ false → lacks (angle_given given d) ≡ true)
    → given_around p given v ≡ given_inside p given inside v
given_is_inside p given inside v free =
    sum_below-same (darts p) (λ d. if head p d == v then right_angles (angle_given given d) else 0) (λ d. if (head p d == v) && inside (face_at p d) then right_angles (angle_given given d) else 0)
    (λ d l. one (eqb (head p d) v) (inside (face_at p d)) (angle_given given d) (λ at out. free d l (eqb-true (head p d) v at) out))
  where
    one : (a b : Bool) (g : Option ℕ) → (a ≡ true → b ≡ false → lacks g ≡ true) → cond a (right_angles g) 0 ≡ cond (a && b) (right_angles g) 0
    one true true g is = refl
    one true false g is = no_right_angles g (is refl refl)
    one false b g is = refl

-- and the free ones are those outside
free_is_outside : (p : PlaneModel) (given : GivenModel) (inside : FaceSet) (v : ℕ) → ((d : ℕ) → d < darts p → head p d ≡ v → inside (face_at p d) ≡ true → IsGivenAngle given d)
    → ((d : ℕ) → d < darts p → head p d ≡ v → inside (face_at p d) ≡ false → lacks (angle_given given d) ≡ true) → free_angles p given v ≡ angles_outside p inside v
free_is_outside p given inside v known free =
    sum_below-same (darts p) (λ d. cond (is_free p given v d) 1 0) (λ d. if (head p d == v) && (if inside (face_at p d) then false else true) then 1 else 0)
    (λ d l. one (eqb (head p d) v) (inside (face_at p d)) (angle_given given d) (λ at on. known d l (eqb-true (head p d) v at) on) (λ at out. free d l (eqb-true (head p d) v at) out))
  where
    one : (a b : Bool) (g : Option ℕ) → (a ≡ true → b ≡ true → (k : ℕ) × (g ≡ Some k)) → (a ≡ true → b ≡ false → lacks g ≡ true) → cond {A = ℕ} (a && lacks g) 1 0 ≡ cond (a && (if b then false else true)) 1 0
    one true true g is free = let known = is refl refl in subst (λ (o : Option ℕ). cond {A = ℕ} (lacks o) 1 0 ≡ 0) (sym known.1) refl
    one true false g is free = ap (λ (t : Bool). cond {A = ℕ} t 1 0) (free refl refl)
    one false b g is free = refl

-- with one right angle given there is none beyond
one_given : (p : PlaneModel) (given : GivenModel) (v : ℕ) → ((d : ℕ) → d < darts p → IsAngle (angle_given given d)) → given_around p given v ≡ 1 → beyond_at_vertex p given v ≡ 0
one_given p given v range one =
    sum_below-none (darts p) (λ d. cond (eqb (head p d) v) (beyond_first (angle_given given d)) 0)
    (λ d l. small (eqb (head p d) v) (angle_given given d) (given_around p given v) (range d l) one (sum_below-member (darts p) d (λ x. cond (eqb (head p x) v) (right_angles (angle_given given x)) 0) l))
  where
    small : (a : Bool) (g : Option ℕ) (n : ℕ) → IsAngle g → n ≡ 1 → cond a (right_angles g) 0 ≤ n → cond a (beyond_first g) 0 ≡ 0
    small false g n is one less = refl
    small true None n is one less = refl
    small true (Some k) n is one less = omega arith

pub have_room : (p : PlaneModel) (given : GivenModel) (frames : ℕ) (inside : ℕ → FaceSet) → IsPlane p → ((d : ℕ) → d < darts p → IsAngle (angle_given given d)) → AreParts p given frames inside → HaveRoom p given
have_room p given frames inside plane range parts = record {
  range = range;
  room = λ k l. room_of (k + 1) (kind_of p given frames inside plane parts (k + 1));
  whole = λ k l all. whole_of (k + 1) (chosen_given k l all) all (kind_of p given frames inside plane parts (k + 1));
}
  where
    four : (d b a f : ℕ) → d + b ≡ a + f → b ≡ 0 → d ≤ 4 → a + f ≤ 4
    four d b a f same none few = omega arith

    whole_four : (a f : ℕ) → a ≡ 4 → f ≡ 0 → a + f ≤ 4
    whole_four a f four none = omega arith

    side_four : (a f g o : ℕ) → a ≡ g → f ≡ o → g ≡ 2 → o ≤ 2 → a + f ≤ 4
    side_four a f g o e1 e2 e3 e4 = omega arith

    few_beyond : (v : ℕ) → beyond_at_vertex p given v ≡ 0 → given_around p given v + free_angles p given v ≤ 4
    few_beyond v none = four (vertex_degree p v) (beyond_at_vertex p given v) (given_around p given v) (free_angles p given v) (arrivals_parts p given v range) none (arrivals_most p plane v)

    known_at : (i : ℕ) → i < frames → (v : ℕ) → IsOnRim p (inside i) v → (d : ℕ) → d < darts p → head p d ≡ v → inside i (face_at p d) ≡ true → IsGivenAngle given d
    known_at i l v on d below at here = (parts.frame i l).known d below here (subst (λ (u : ℕ). IsOnRim p (inside i) u) (sym at) on)

    room_at : (i : ℕ) → i < frames → (v : ℕ) → IsOnRim p (inside i) v → ((d : ℕ) → d < darts p → head p d ≡ v → inside i (face_at p d) ≡ false → lacks (angle_given given d) ≡ true)
        → IsCorner p given (inside i) v ⊎ IsSide p given (inside i) v → given_around p given v + free_angles p given v ≤ 4
    room_at i l v on out (inl corner) = few_beyond v (one_given p given v range (given_is_inside p given (inside i) v out ∙ corner))
    room_at i l v on out (inr side) =
        side_four (given_around p given v) (free_angles p given v) (given_inside p given (inside i) v) (angles_outside p (inside i) v)
        (given_is_inside p given (inside i) v out) (free_is_outside p given (inside i) v (known_at i l v on) out) side.straight side.room

    room_of : (v : ℕ) → Kind p given frames inside v → given_around p given v + free_angles p given v ≤ 4
    room_of v (is_point is) = whole_four (given_around p given v) (free_angles p given v) is.whole (point_free p given v is)
    room_of v (at_rim i l on out) = room_at i l v on out ((parts.frame i l).turns v on)
    room_of v (all_free none) = few_beyond v (none_given p given v none)

    chosen_given : (k : ℕ) → k < vertices p → ((d : ℕ) → d < darts p → head p d ≡ k + 1 → IsGivenAngle given d) → (d : ℕ) × (d < darts p) × (head p d ≡ k + 1) × IsGivenAngle given d
    chosen_given k l all =
        let (arrives, here) = chosen_arrives p plane (k + 1) (omega arith) (omega arith) in
        (chosen p (k + 1), arrives, here, all (chosen p (k + 1)) arrives here)

    whole_of : (v : ℕ) → ((d : ℕ) × (d < darts p) × (head p d ≡ v) × IsGivenAngle given d) → ((d : ℕ) → d < darts p → head p d ≡ v → IsGivenAngle given d) → Kind p given frames inside v → given_around p given v ≡ 4
    whole_of v some all (is_point is) = is.whole
    whole_of v some all (at_rim i l on out) =
        let ends = plane_ends p plane in
        let r = leaves p plane (inside i) on.arrives on.rim in
        let r_rim : IsRim p (inside i) r.0 = r.1 in
        let back_at : head p (reverse_dart p r.0) ≡ v = ends.reverse_dart_head r.0 r_rim.dart ∙ r.2 ∙ on.here in
        let back_in : reverse_dart p r.0 < darts p = ends.reverse_dart_in_range r.0 r_rim.dart in
        let known = all (reverse_dart p r.0) back_in back_at in
        absurd (not_given (angle_given given (reverse_dart p r.0)) known.0 (out (reverse_dart p r.0) back_in back_at r_rim.across) known.1)
    whole_of v some all (all_free none) = let known = some.3 in absurd (not_given (angle_given given some.0) known.0 (none some.0 some.1 some.2) known.1)
