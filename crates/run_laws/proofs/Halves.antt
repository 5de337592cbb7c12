-- One side of a rim: the faces, vertices and edges that are not on the other side and not of the rim. With the rim and all beyond
-- it put together to one place, these edges join all places, and all faces; so there are enough of them.
use Rattle.std.proofs.Common.{◌≡◌, ◌≤◌, ◌<◌, ℕ, zero, suc, ◌+◌, cond, eqb, Bool, true, false, not, ◌&&◌, ◌||◌, refl, sym, ◌∙◌, ap, subst, inl, inr, arith}
use Rattle.std.proofs.lemmas.Bool.{cases_eq, cases_Bool, both_ways, and_parts, and_from, or_cases, or_left, or_right, not-true, not_from_false, false_from_ne_true, cond-true, cond-false, eq-eqb, eqb-true}
use Rattle.faces.specs.Planes.{PlaneModel, IsPlane, darts, vertices, tail, next, after, reverse_dart, face_at}
use Rattle.faces.proofs.Ends.{plane_ends, seven_rules}
use Rattle.faces.proofs.Connected.{all_connected, faces_connected}
use Rattle.flow_network.proofs.VertexDegrees.{search_below}
use Rattle.flow_network.proofs.Flowing.{chosen, chosen_arrives}
use Rattle.run_laws.specs.Frames.{FaceSet, IsRim, IsCycle, IsOnRim}
use Rattle.run_laws.proofs.Trees.{JoinModel, IsJoined, HasSides, count_below, enough_edges}
use Rattle.run_laws.proofs.Rounds.{around, face_after, vertex_round, frame_round, outside_alike}

-- some number below n is in the set
abbrev pub any_below : ℕ → (ℕ → Bool) → Bool
any_below zero s = false
any_below (suc n) s = any_below n s || s n

pub any_from : (n a : ℕ) (s : ℕ → Bool) → a < n → s a ≡ true → any_below n s ≡ true
any_from zero a s below on = absurd (omega arith)
any_from (suc n) a s below on =
    elim (cases_eq a n) [
      | inl is ↦ or_right (any_below n s) (s n) (subst (λ (x : ℕ). s x ≡ true) is on)
      | inr other ↦ or_left (any_below n s) (s n) (any_from n a s (omega arith) on)
    ]

pub any_some : (n : ℕ) (s : ℕ → Bool) → any_below n s ≡ true → (a : ℕ) × (a < n) × (s a ≡ true)
any_some zero s on = absurd (both_ways false refl on)
any_some (suc n) s on =
    elim (or_cases (any_below n s) (s n) on) [
      | inl before ↦ let found = any_some n s before in (found.0, omega (arith, found.1), found.2)
      | inr here ↦ (n, omega arith, here)
    ]

-- some angle at the vertex is filled; an angle lies at the tail of the dart that has it on the left
abbrev pub touches : PlaneModel → FaceSet → ℕ → Bool
touches p filled v = any_below (darts p) (λ d. eqb (tail p d) v && filled (face_at p d))

pub touches_from : (p : PlaneModel) (filled : FaceSet) (d : ℕ) → d < darts p → filled (face_at p d) ≡ true → touches p filled (tail p d) ≡ true
touches_from p filled d below on =
    any_from (darts p) d (λ x. eqb (tail p x) (tail p d) && filled (face_at p x)) below
    (and_from (eqb (tail p d) (tail p d)) (filled (face_at p d)) (eq-eqb (tail p d) (tail p d) refl) on)

pub untouched : (p : PlaneModel) (filled : FaceSet) (v d : ℕ) → touches p filled v ≡ false → d < darts p → tail p d ≡ v → filled (face_at p d) ≡ false
untouched p filled v d none below at =
    false_from_ne_true (filled (face_at p d))
    (λ on. both_ways (touches p filled v) none (subst (λ (u : ℕ). touches p filled u ≡ true) at (touches_from p filled d below on)))

pub touched : (p : PlaneModel) (filled : FaceSet) (v : ℕ) → touches p filled v ≡ true → (d : ℕ) × (d < darts p) × (tail p d ≡ v) × (filled (face_at p d) ≡ true)
touched p filled v on =
    let found = any_some (darts p) (λ d. eqb (tail p d) v && filled (face_at p d)) on in
    let both = and_parts (eqb (tail p found.0) v) (filled (face_at p found.0)) found.2 in
    (found.0, found.1, eqb-true (tail p found.0) v both.0, both.1)

-- a vertex with a filled angle and another one lies on the rim
pub on_rim : (p : PlaneModel) → IsPlane p → (filled : FaceSet) (v e : ℕ) → touches p filled v ≡ true → e < darts p → tail p e ≡ v → filled (face_at p e) ≡ false → IsOnRim p filled v
on_rim p plane filled v e on e_in e_at e_out =
    let ends = plane_ends p plane in
    let out : ℕ → Bool = λ d. not (filled (face_at p d)) in
    elim (search_below (darts p) (λ d. eqb (tail p d) v && (not (filled (face_at p d)) && filled (face_at p (reverse_dart p d))))) [
      | inl found ↦
          let x : ℕ = found.0 in
          let one = and_parts (eqb (tail p found.0) v) (not (filled (face_at p found.0)) && filled (face_at p (reverse_dart p found.0))) found.2 in
          let two = and_parts (not (filled (face_at p found.0))) (filled (face_at p (reverse_dart p found.0))) one.1 in
          record {
            arrives = reverse_dart p found.0;
            rim = record {
              dart = ends.reverse_dart_in_range found.0 found.1;
              here = two.1;
              across = subst (λ (y : ℕ). filled (face_at p y) ≡ false) (sym (ends.reverse_dart_back found.0 found.1)) (not-true (filled (face_at p found.0)) two.0);
            };
            here = ends.reverse_dart_head found.0 found.1 ∙ eqb-true (tail p found.0) v one.0;
          }
      | inr none ↦
          let shut : (d : ℕ) → d < darts p → tail p d ≡ v → out d ≡ true → out (after p d) ≡ true =
          λ d l at here. subst (λ (f : ℕ). not (filled f) ≡ true) (sym (face_after p plane d l))
          (not_from_false (filled (face_at p (reverse_dart p d))) (stays (eqb (tail p d) v) (not (filled (face_at p d))) (filled (face_at p (reverse_dart p d))) (none d l) (eq-eqb (tail p d) v at) here)) in
          let (d, d_in, d_at, d_on) = touched p filled v on in
          let d_out : out d ≡ true = around p out v shut e d e_in d_in e_at d_at (not_from_false (filled (face_at p e)) e_out) in
          absurd (both_ways (filled (face_at p d)) (not-true (filled (face_at p d)) d_out) d_on)
    ]
  where
    stays : (x y z : Bool) → (x && (y && z)) ≡ false → x ≡ true → y ≡ true → z ≡ false
    stays true true z none on here = none
    stays true false z none on here = absurd (both_ways false refl here)
    stays false y z none on here = absurd (both_ways false refl on)

-- the place of a vertex: all that are touched have place 0
abbrev pub place_of : PlaneModel → FaceSet → ℕ → ℕ
place_of p filled v = cond (touches p filled v) 0 v

-- an edge outside: neither side is filled
abbrev pub is_outside : PlaneModel → FaceSet → ℕ → Bool
is_outside p filled d = not (filled (face_at p d)) && not (filled (face_at p (reverse_dart p d)))

abbrev pub half : PlaneModel → FaceSet → JoinModel
half p filled = record {
  darts = darts p;
  places = vertices p + 1;
  is_dart = is_outside p filled;
  is_place = λ v. not (touches p filled v);
  from = λ d. place_of p filled (tail p d);
  reverse = reverse_dart p;
}

left_out : (p : PlaneModel) (filled : FaceSet) (d : ℕ) → is_outside p filled d ≡ true → filled (face_at p d) ≡ false
left_out p filled d on = let both = and_parts (not (filled (face_at p d))) (not (filled (face_at p (reverse_dart p d)))) on in not-true (filled (face_at p d)) both.0

right_out : (p : PlaneModel) (filled : FaceSet) (d : ℕ) → is_outside p filled d ≡ true → filled (face_at p (reverse_dart p d)) ≡ false
right_out p filled d on = let both = and_parts (not (filled (face_at p d))) (not (filled (face_at p (reverse_dart p d)))) on in not-true (filled (face_at p (reverse_dart p d))) both.1

outside_from : (p : PlaneModel) (filled : FaceSet) (d : ℕ) → filled (face_at p d) ≡ false → filled (face_at p (reverse_dart p d)) ≡ false → is_outside p filled d ≡ true
outside_from p filled d left right =
    and_from (not (filled (face_at p d))) (not (filled (face_at p (reverse_dart p d)))) (not_from_false (filled (face_at p d)) left) (not_from_false (filled (face_at p (reverse_dart p d))) right)

-- both ends of an edge with a filled side are touched
ends_touched : (p : PlaneModel) → IsPlane p → (filled : FaceSet) (d : ℕ) → d < darts p → filled (face_at p d) ≡ true
    → (touches p filled (tail p d) ≡ true) × (touches p filled (tail p (reverse_dart p d)) ≡ true)
ends_touched p plane filled d below on =
    let ends = plane_ends p plane in
    let next_in : next p d < darts p = ends.after_in_range (reverse_dart p d) (ends.reverse_dart_in_range d below) in
    let next_on : filled (face_at p (next p d)) ≡ true = subst (λ (f : ℕ). filled f ≡ true) (sym (plane.faces.closed d below)) on in (
      touches_from p filled d below on,
      subst (λ (v : ℕ). touches p filled v ≡ true) (ends.next_tail d below ∙ sym (ends.reverse_dart_tail d below)) (touches_from p filled (next p d) next_in next_on),
    )

one_place : (p : PlaneModel) (filled : FaceSet) (u v : ℕ) → touches p filled u ≡ true → touches p filled v ≡ true → place_of p filled u ≡ place_of p filled v
one_place p filled u v first second = cond-true {A = ℕ} (touches p filled u) 0 u first ∙ sym (cond-true {A = ℕ} (touches p filled v) 0 v second)

-- so a set of places with both ends or none of each edge outside has both or none of any edge
both_ends : (p : PlaneModel) → IsPlane p → (filled : FaceSet) (s : ℕ → Bool)
    → ((d : ℕ) → d < darts p → is_outside p filled d ≡ true → s (place_of p filled (tail p d)) ≡ s (place_of p filled (tail p (reverse_dart p d))))
    → (d : ℕ) → d < darts p → s (place_of p filled (tail p d)) ≡ s (place_of p filled (tail p (reverse_dart p d)))
both_ends p plane filled s both d below =
    let ends = plane_ends p plane in
    elim (cases_Bool (filled (face_at p d))) [
      | inl on ↦
          let two = ends_touched p plane filled d below on in
          ap s (one_place p filled (tail p d) (tail p (reverse_dart p d)) two.0 two.1)
      | inr left ↦ elim (cases_Bool (filled (face_at p (reverse_dart p d)))) [
        | inl on ↦
            let two = ends_touched p plane filled (reverse_dart p d) (ends.reverse_dart_in_range d below) on in
            let here : touches p filled (tail p d) ≡ true = subst (λ (x : ℕ). touches p filled (tail p x) ≡ true) (ends.reverse_dart_back d below) two.1 in
            ap s (one_place p filled (tail p d) (tail p (reverse_dart p d)) here two.0)
        | inr right ↦ both d below (outside_from p filled d left right)
      ]
    ]

-- each place is that of a dart
place_dart : (p : PlaneModel) → IsPlane p → (filled : FaceSet) → IsCycle p filled → (v : ℕ) → v < vertices p + 1 → touches p filled v ≡ false → (d : ℕ) × (d < darts p) × (place_of p filled (tail p d) ≡ v)
place_dart p plane filled cycle zero below none =
    let rim = cycle.some in
    (cycle.first, rim.dart, cond-true {A = ℕ} (touches p filled (tail p cycle.first)) 0 (tail p cycle.first) (touches_from p filled cycle.first rim.dart rim.here))
place_dart p plane filled cycle (suc k) below none =
    let ends = plane_ends p plane in
    let (arrives, here) = chosen_arrives p plane (suc k) (omega arith) (omega arith) in
    let d : ℕ = reverse_dart p (chosen p (suc k)) in
    let at : tail p d ≡ suc k = ends.reverse_dart_tail (chosen p (suc k)) arrives ∙ here in
    let free : touches p filled (tail p d) ≡ false = subst (λ (u : ℕ). touches p filled u ≡ false) (sym at) none in
    (d, ends.reverse_dart_in_range (chosen p (suc k)) arrives, cond-false {A = ℕ} (touches p filled (tail p d)) 0 (tail p d) free ∙ at)

half_joined : (p : PlaneModel) → IsPlane p → (filled : FaceSet) → IsCycle p filled → IsJoined (half p filled)
half_joined p plane filled cycle =
    let ends = plane_ends p plane in
    record {
      inside = λ d l on. ends.reverse_dart_in_range d l;
      back = λ d l on. ends.reverse_dart_back d l;
      pair = λ d l on. outside_from p filled (reverse_dart p d) (right_out p filled d on)
          (subst (λ (x : ℕ). filled (face_at p x) ≡ false) (sym (ends.reverse_dart_back d l)) (left_out p filled d on));
      named = λ d l on. within (touches p filled (tail p d)) (tail p d) (vertices p) (ends.tail_to d l);
      all = λ s both u v u_in v_in u_place v_place here.
          let of_u = place_dart p plane filled cycle u u_in (not-true (touches p filled u) u_place) in
          let of_v = place_dart p plane filled cycle v v_in (not-true (touches p filled v) v_place) in
          let across : (d : ℕ) → d < darts p → s (place_of p filled (tail p d)) ≡ s (place_of p filled (tail p (reverse_dart p d))) = both_ends p plane filled s both in
          subst (λ (x : ℕ). s x ≡ true) of_v.2
          (all_connected p.lists (seven_rules p.lists plane.rules) (λ d. s (place_of p filled (tail p d)))
          (λ d l on. subst (λ (x : ℕ). s (place_of p filled x) ≡ true) (ends.reverse_dart_tail d l ∙ sym (ends.next_tail d l)) (sym (across d l) ∙ on))
          (λ d l on. sym (across d l) ∙ on)
          of_u.0 of_v.0 of_u.1 of_v.1 (subst (λ (x : ℕ). s x ≡ true) (sym of_u.2) here));
    }
  where
    within : (b : Bool) (v n : ℕ) → v ≤ n → cond b 0 v < n + 1
    within true v n less = omega arith
    within false v n less = omega arith

-- the edges outside join all faces that are not filled
faces_joined : (p : PlaneModel) → IsPlane p → (filled : FaceSet) → IsCycle p filled → (s : ℕ → Bool)
    → ((d : ℕ) → d < darts p → is_outside p filled d ≡ true → s (face_at p d) ≡ s (face_at p (reverse_dart p d)))
    → (f g : ℕ) → f < p.faces → g < p.faces → filled f ≡ false → filled g ≡ false → s f ≡ true → s g ≡ true
faces_joined p plane filled cycle s both f g f_in g_in f_out g_out here =
    let ends = plane_ends p plane in
    let rims : (d : ℕ) → IsRim p filled d → s (face_at p (reverse_dart p d)) ≡ s (face_at p (reverse_dart p cycle.first)) = each in
    elim (cases_Bool (s (face_at p (reverse_dart p cycle.first)))) [
      | inl on ↦
          let t : ℕ → Bool = λ x. filled x || s x in
          let shut : (d : ℕ) → d < darts p → t (face_at p d) ≡ true → t (face_at p (reverse_dart p d)) ≡ true =
          λ d l held. elim (cases_Bool (filled (face_at p (reverse_dart p d)))) [
            | inl across ↦ or_left (filled (face_at p (reverse_dart p d))) (s (face_at p (reverse_dart p d))) across
            | inr across ↦ or_right (filled (face_at p (reverse_dart p d))) (s (face_at p (reverse_dart p d))) (elim (cases_Bool (filled (face_at p d))) [
              | inl left ↦ rims d (record { dart = l; here = left; across = across }) ∙ on
              | inr left ↦ sym (both d l (outside_from p filled d left across)) ∙ second (filled (face_at p d)) (s (face_at p d)) left held
            ])
          ] in
          second (filled g) (s g) g_out (faces_connected p plane t shut f g f_in g_in (or_right (filled f) (s f) here))
      | inr off ↦
          let t : ℕ → Bool = λ x. not (filled x) && s x in
          let shut : (d : ℕ) → d < darts p → t (face_at p d) ≡ true → t (face_at p (reverse_dart p d)) ≡ true =
          λ d l held.
          let parts = and_parts (not (filled (face_at p d))) (s (face_at p d)) held in
          let left : filled (face_at p d) ≡ false = not-true (filled (face_at p d)) parts.0 in
          elim (cases_Bool (filled (face_at p (reverse_dart p d)))) [
            | inl across ↦
                let back : IsRim p filled (reverse_dart p d) = record {
                  dart = ends.reverse_dart_in_range d l;
                  here = across;
                  across = subst (λ (x : ℕ). filled (face_at p x) ≡ false) (sym (ends.reverse_dart_back d l)) left;
                } in
                let is_off : s (face_at p d) ≡ false = subst (λ (x : ℕ). s (face_at p x) ≡ false) (ends.reverse_dart_back d l) (rims (reverse_dart p d) back ∙ off) in
                absurd (both_ways (s (face_at p d)) is_off parts.1)
            | inr across ↦ and_from (not (filled (face_at p (reverse_dart p d)))) (s (face_at p (reverse_dart p d))) (not_from_false (filled (face_at p (reverse_dart p d))) across)
                (sym (both d l (outside_from p filled d left across)) ∙ parts.1)
          ] in
          let there = and_parts (not (filled g)) (s g) (faces_connected p plane t shut f g f_in g_in (and_from (not (filled f)) (s f) (not_from_false (filled f) f_out) here)) in
          there.1
    ]
  where
    second : (x y : Bool) → x ≡ false → (x || y) ≡ true → y ≡ true
    second true y none on = absurd (both_ways true none refl)
    second false y none on = on

    each : (d : ℕ) → IsRim p filled d → s (face_at p (reverse_dart p d)) ≡ s (face_at p (reverse_dart p cycle.first))
    each d rim =
        let ends = plane_ends p plane in
        let some = cycle.some in
        outside_alike p plane filled cycle s (λ x l on out across. both x l (outside_from p filled x out across))
        (reverse_dart p d) (reverse_dart p cycle.first) (ends.reverse_dart_in_range d rim.dart) (ends.reverse_dart_in_range cycle.first some.dart)
        (record { arrives = d; rim = rim; here = sym (ends.reverse_dart_tail d rim.dart) })
        (record { arrives = cycle.first; rim = some; here = sym (ends.reverse_dart_tail cycle.first some.dart) })
        rim.across some.across

-- a vertex of the rim is touched
pub rim_touched : (p : PlaneModel) → IsPlane p → (filled : FaceSet) (v : ℕ) → IsOnRim p filled v → touches p filled v ≡ true
rim_touched p plane filled v on =
    let ends = plane_ends p plane in
    let rim = on.rim in
    let two = ends_touched p plane filled on.arrives rim.dart rim.here in
    subst (λ (u : ℕ). touches p filled u ≡ true) (ends.reverse_dart_tail on.arrives rim.dart ∙ on.here) two.1

half_sides : (p : PlaneModel) → IsPlane p → (filled : FaceSet) → IsCycle p filled → HasSides (half p filled) p.faces (λ f. not (filled f)) (face_at p)
half_sides p plane filled cycle =
    let ends = plane_ends p plane in
    record {
      named = λ d l on. ends.face_named d l;
      all = λ s both f g f_in g_in f_side g_side here. faces_joined p plane filled cycle s both f g f_in g_in (not-true (filled f) f_side) (not-true (filled g) g_side) here;
      round = λ e e_in on apart s both. elim (cases_Bool (touches p filled (tail p e))) [
        | inl at_rim ↦ frame_round p plane filled cycle s e e_in (on_rim p plane filled (tail p e) e at_rim e_in refl (left_out p filled e on)) (left_out p filled e on) (right_out p filled e on)
            (λ d l d_on out across other. both d l (outside_from p filled d out across)
            (one_place p filled (tail p d) (tail p e) (rim_touched p plane filled (tail p d) d_on) at_rim) other)
        | inr free ↦ vertex_round p plane s e e_in
            (λ d l at other. both d l
            (outside_from p filled d (untouched p filled (tail p e) d free l at)
            (subst (λ (f : ℕ). filled f ≡ false) (face_after p plane d l)
            (untouched p filled (tail p e) (after p d) free (ends.after_in_range d l) (ends.after_tail d l ∙ at))))
            (ap (place_of p filled) at) other)
      ];
    }

-- with the rim as one place, twice the places and faces are at most the darts outside and four
pub enough_outside : (p : PlaneModel) → IsPlane p → (filled : FaceSet) → IsCycle p filled
    → (count_below (vertices p + 1) (λ v. not (touches p filled v)) + count_below (vertices p + 1) (λ v. not (touches p filled v)))
    + (count_below p.faces (λ f. not (filled f)) + count_below p.faces (λ f. not (filled f))) ≤ count_below (darts p) (is_outside p filled) + 4
enough_outside p plane filled cycle =
    let ends = plane_ends p plane in
    let some = cycle.some in
    enough_edges (half p filled) (half_joined p plane filled cycle) p.faces (λ f. not (filled f)) (face_at p) (half_sides p plane filled cycle)
    0 (omega arith) (not_from_false (touches p filled 0) no_vertex) (face_at p (reverse_dart p cycle.first)) (ends.face_named (reverse_dart p cycle.first) (ends.reverse_dart_in_range cycle.first some.dart))
    (not_from_false (filled (face_at p (reverse_dart p cycle.first))) some.across)
  where
    not_zero : (x : ℕ) → 1 ≤ x → x ≡ 0 → ⊥
    not_zero x some none = omega arith

    at_zero : ((d : ℕ) × (d < darts p) × (tail p d ≡ 0) × (filled (face_at p d) ≡ true)) → ⊥
    at_zero found = let ends = plane_ends p plane in not_zero (tail p found.0) (ends.tail_from found.0 found.1) found.2

    no_vertex : touches p filled 0 ≡ false
    no_vertex = false_from_ne_true (touches p filled 0) (λ on. at_zero (touched p filled 0 on))
