-- The outer face and the inside of the rectangle become one face.
use Rattle.std.proofs.Common.{◌≡◌, ◌≢◌, ◌⊎◌, ℕ, ◌+◌, ◌*◌, ◌%◌, ◌<◌, ◌≤◌, ◌∙◌, List, [], ◌∷◌, ◌++◌, length, map, length-append, append_assoc, arith, subst, sym, ap, refl, inl, inr}
use Rattle.std.proofs.lemmas.Bool.{cases_eq, cases_lt}
use Rattle.dissect.specs.DartMaps.{DartMap}
use Rattle.dissect.specs.Turning.{total}
use Rattle.dissect.specs.Faces.{IsCorner, Stretches, Trail, last_of, Ring, HasFourCorners, IsOutside, In, Distinct, Below, concatenated, TurnsOnce, AreWaiting}
use Rattle.dissect.proofs.Stretching.{stretch_direct, chord_stretch_to, chord_stretch_there, chord_stretch_back, Stretches-corner}
use Rattle.dissect.proofs.Rings.{Clear, trail_front, trail_rest, trail_append, last_of-append, split_ring, chord_trail, clear_last, trail_corner, corner_not_f}
use Rattle.dissect.proofs.Waiting.{clear_of, total-append}
use Rattle.dissect.proofs.Listing.{in_append, in_left, in_right, in_below, below_append, below_left, below_right, below_more, distinct_append, distinct_left, distinct_right, distinct_apart}
use Rattle.dissect.specs.Listed.{AreListed, AreKeptCorners, detour}
use Rattle.dissect.proofs.Sounding.{by_side, surround_tied}
use Rattle.dissect.proofs.Tracing.{concatenated_more, rings_more}
use Rattle.dissect.proofs.ConnectedFaces.{surround_ring, IsConnecting, corner_of, middle_of, cutting_of, old_angle, right_angle, inner_angle, new_angles, inside_stretch, outside_four, other_rings, totals_same}

-- the way from the right turn along the cut, round the inside of the rectangle, and back
pub detour_trail : (w surrounded : DartMap) (right side way : ℕ) (new : DartMap) → IsConnecting w surrounded right side way new →
    Trail new right (detour w.darts side)
detour_trail w surrounded right side way new j =
    let n : ℕ = w.darts in
    let s = j.bridge.subdivide in
    let t = j.bridge.chord in
    let middle = j.bridge.middle in
    let c : ℕ = corner_of w side in
    let d8 : surrounded.darts ≡ n + 8 = j.surround.darts in
    let d10 : middle.darts ≡ n + 10 = omega (arith, d8, s.darts) in
    let d11 : middle.darts + 1 ≡ n + 11 = omega (arith, d10) in
    let angles = new_angles w surrounded right side way new j in
    let inner : (k : ℕ) → k < 4 → new.angle (n + k) ≡ 1 = inner_angle w surrounded right side way new j in
    let c_in : c < surrounded.darts = omega (arith, d8) in
    let c_right : c ≢ right = λ h. omega (arith, h, j.right_in) in
    let e_in : n + side < middle.darts = omega (arith, d10, j.side_in) in
    let e_corner : IsCorner middle (n + side) =
    λ h. omega (arith, h, s.angle_old (n + side) j.bridge.e_in, j.surround.angle_inside side j.side_in) in
    let along : new.next right ≡ n + 10 = t.next_d ∙ d10 in
    let to_side : Stretches new middle.darts (n + side) =
    chord_stretch_there middle right c surrounded.darts way new t (middle_of w surrounded right side way new j) (cutting_of w surrounded right side way new j)
    0 (n + side) (λ h. omega (arith, h, j.right_in)) (s.next_first, e_corner) in
    let to_f : new.next c ≡ n + 8 =
    t.next_other c (omega (arith, s.darts, c_in)) c_right (λ h. omega (arith, h, d8))
    ∙ (cutting_of w surrounded right side way new j).behind ∙ d8 in
    let to_y : new.next (n + 8) ≡ n + 11 = ap new.next (sym d8) ∙ t.next_f ∙ d11 in
    let stretch0 : Stretches new right (n + 10) =
    stretch_direct new right (n + 10) along (λ h. omega (arith, h, angles.2)) in
    let stretch1 : Stretches new (n + 10) (n + side) =
    subst (λ (z : ℕ). Stretches new z (n + side)) d10 to_side in
    let stretch2 : Stretches new (n + side) (n + (side + 1) % 4) =
    round side ((side + 1) % 4) j.side_in refl (λ h. omega (arith, h, j.side_in)) in
    let stretch3 : Stretches new (n + (side + 1) % 4) (n + (side + 2) % 4) =
    round ((side + 1) % 4) ((side + 2) % 4) (omega arith) (omega arith) (λ h. omega (arith, h, j.side_in)) in
    let stretch4 : Stretches new (n + (side + 2) % 4) c =
    round ((side + 2) % 4) ((side + 3) % 4) (omega arith) (omega arith) (λ h. omega (arith, h, j.side_in)) in
    let stretch5 : Stretches new c (n + 8) =
    stretch_direct new c (n + 8) to_f (λ h. omega (arith, h, angles.0)) in
    let stretch6 : Stretches new (n + 8) (n + 11) =
    stretch_direct new (n + 8) (n + 11) to_y (λ h. omega (arith, h, angles.3)) in
    (stretch0, (stretch1, (stretch2, (stretch3, (stretch4, (stretch5, (stretch6, tt)))))))
  where
    round : (k m : ℕ) → k < 4 → m ≡ (k + 1) % 4 → k ≢ (side + 3) % 4 → Stretches new (w.darts + k) (w.darts + m)
    round k m l e ne =
        inside_stretch w surrounded right side way new j k m (omega arith) (omega (arith, e)) (j.surround.next_inside k l ∙ ap (λ (i : ℕ). w.darts + i) (sym e))
        (λ h. omega (arith, h, j.surround.angle_inside m (omega (arith, e)))) (λ h. omega (arith, h, j.surround.angle_inside k l)) ne

-- what the bridge makes of the trail round the outer face
pub record IsRound (w : DartMap) (right : ℕ) (new : DartMap) (b : ℕ) (bs : List ℕ) : Type 0 where
  pub back : Stretches new (w.darts + 11) b
  pub trail : Trail new b bs
  pub to_right : IsCorner new right → Stretches new (last_of b bs) right
  pub straight_on : new.angle right ≡ 2 → Stretches new (last_of b bs) (w.darts + 10)

pub outer_round : (w surrounded : DartMap) (right side way : ℕ) (new : DartMap) → IsConnecting w surrounded right side way new → (b : ℕ) (bs : List ℕ) →
    Ring w (b ∷ (bs ++ (right ∷ []))) → Below w.darts (b ∷ bs) → (In right (b ∷ bs) → ⊥) → IsRound w right new b bs
outer_round w surrounded right side way new j b bs ring below out =
    let n : ℕ = w.darts in
    let s = j.bridge.subdivide in
    let t = j.bridge.chord in
    let middle = j.bridge.middle in
    let c : ℕ = corner_of w side in
    let cs : List ℕ = b ∷ (bs ++ (right ∷ [])) in
    let end_is : last_of b (bs ++ (right ∷ [])) ≡ right = last_of-append b bs (right ∷ []) in
    let end_in : last_of 0 cs < n = subst (λ (z : ℕ). z < n) (sym end_is) j.right_in in
    let d8 : surrounded.darts ≡ n + 8 = j.surround.darts in
    let d10 : middle.darts ≡ n + 10 = omega (arith, d8, s.darts) in
    let d11 : middle.darts + 1 ≡ n + 11 = omega (arith, d10) in
    let in_middle : Ring middle cs = split_ring surrounded (n + side) (surrounded.direction (n + side)) middle s
    (surround_tied w surrounded j.surround j.tied) j.bridge.e_in cs (omega (arith, d8, end_in)) (surround_ring w surrounded j.surround j.tied cs end_in ring) in
    let tied = middle_of w surrounded right side way new j in
    let cutting = cutting_of w surrounded right side way new j in
    let from_right : Stretches middle right b = subst (λ (z : ℕ). Stretches middle z b) end_is in_middle.0 in
    let clear : Clear middle.darts right c (b ∷ bs) = clear_of n middle.darts right c (b ∷ bs) (omega (arith, d10)) below out
    (λ h. omega (arith, in_below n c (b ∷ bs) below h)) in
    let b_corner : IsCorner middle b = Stretches-corner middle right b from_right in
    let trail : Trail middle b bs = trail_front middle b bs (right ∷ []) in_middle.1 in
    let last : Stretches middle (last_of b bs) right = (trail_rest middle b bs (right ∷ []) in_middle.1).0 in
    let end = clear_last middle.darts right c b bs clear.0 clear.1 clear.2 clear.3 in
    let both = chord_stretch_to middle right c surrounded.darts way new t tied cutting last.places (last_of b bs) end.0 end.1 end.2
    (corner_not_f middle right c surrounded.darts (last_of b bs) cutting (trail_corner middle b bs b_corner trail)) last.stretch in
    record {
      back = subst (λ (z : ℕ). Stretches new z b) d11
          (chord_stretch_back middle right c surrounded.darts way new t tied cutting from_right.places b clear.1
          (λ h. omega (arith, h, j.right_in)) from_right.stretch);
      trail = chord_trail middle right c surrounded.darts way new t tied cutting b bs clear.0 b_corner clear.1 clear.2 clear.3 trail;
      to_right = both.0;
      straight_on = λ straight. subst (λ (z : ℕ). Stretches new (last_of b bs) z) d10 (both.1 straight);
    }

-- the ring of the connected face
pub connected_ring : (w surrounded : DartMap) (right side way : ℕ) (new : DartMap) → IsConnecting w surrounded right side way new → (b : ℕ) (bs : List ℕ) →
    IsRound w right new b bs → (kept : List ℕ) → (new.angle right ≡ 2 → kept ≡ b ∷ bs) → (IsCorner new right → kept ≡ (b ∷ bs) ++ (right ∷ [])) →
    Ring new (kept ++ detour w.darts side)
connected_ring w surrounded right side way new j b bs round kept straight turning =
    let n : ℕ = w.darts in
    let tail : List ℕ = detour n side in
    let go = detour_trail w surrounded right side way new j in
    elim (cases_eq (new.angle right) 2) [
      | inl e ↦
          let all : Trail new (n + 11) ((b ∷ bs) ++ tail) =
          trail_append new (n + 11) (b ∷ bs) tail (round.back, round.trail) (round.straight_on e, go.1) in
          subst (λ (xs : List ℕ). Ring new (xs ++ tail)) (sym (straight e))
          (subst (λ (z : ℕ). Trail new z ((b ∷ bs) ++ tail)) (sym (last_of-append b bs tail)) all)
      | inr corner ↦
          let all : Trail new (n + 11) ((b ∷ bs) ++ (right ∷ tail)) =
          trail_append new (n + 11) (b ∷ bs) (right ∷ tail) (round.back, round.trail) (round.to_right corner, go) in
          let ring : Ring new ((b ∷ bs) ++ (right ∷ tail)) =
          subst (λ (z : ℕ). Trail new z ((b ∷ bs) ++ (right ∷ tail))) (sym (last_of-append b bs (right ∷ tail))) all in
          subst (λ (xs : List ℕ). Ring new (xs ++ tail)) (sym (turning corner))
          (subst (Ring new) (sym (append_assoc (b ∷ bs) (right ∷ []) tail)) ring)
    ]

pub detour_total : (w surrounded : DartMap) (right side way : ℕ) (new : DartMap) → IsConnecting w surrounded right side way new →
    total (map new.angle (detour w.darts side)) ≡ 7
detour_total w surrounded right side way new j =
    let angles = new_angles w surrounded right side way new j in
    omega (
      arith,
      angles.0,
      angles.2,
      angles.3,
      inner_angle w surrounded right side way new j side j.side_in,
      inner_angle w surrounded right side way new j ((side + 1) % 4) (omega arith),
      inner_angle w surrounded right side way new j ((side + 2) % 4) (omega arith),
      inner_angle w surrounded right side way new j ((side + 3) % 4) (omega arith),
    )

-- the connected face turns once to the left
pub concatenated_once : (w surrounded : DartMap) (right side way : ℕ) (new : DartMap) → IsConnecting w surrounded right side way new → (front : List ℕ) →
    Below w.darts front → (In right front → ⊥) →
    total (map w.angle (front ++ (right ∷ []))) ≡ 2 * length (front ++ (right ∷ [])) + 4 →
    (kept : List ℕ) → (new.angle right ≡ 2 → kept ≡ front) → (IsCorner new right → kept ≡ front ++ (right ∷ [])) →
    TurnsOnce new (kept ++ detour w.darts side)
concatenated_once w surrounded right side way new j front below out back kept straight turning =
    let tail : List ℕ = detour w.darts side in
    let same = totals_same w surrounded right side way new j front below out in
    let less = right_angle w surrounded right side way new j in
    let old = total-append w.angle front (right ∷ []) in
    let long = length-append front (right ∷ []) in
    let seven = detour_total w surrounded right side way new j in
    elim (cases_eq (new.angle right) 2) [
      | inl e ↦ subst (λ (xs : List ℕ). TurnsOnce new (xs ++ tail)) (sym (straight e))
          (omega (arith, total-append new.angle front tail, length-append front tail, same, less, old, long, seven, back, e))
      | inr corner ↦ subst (λ (xs : List ℕ). TurnsOnce new (xs ++ tail)) (sym (turning corner))
          (omega (
            arith,
            total-append new.angle (front ++ (right ∷ [])) tail,
            total-append new.angle front (right ∷ []),
            length-append (front ++ (right ∷ [])) tail,
            same,
            less,
            old,
            long,
            seven,
            back,
          ))
    ]

abbrev Apart : ℕ → List ℕ → Type 0
Apart x [] = Unit {0}
Apart x (y ∷ ys) = (x ≢ y) × Apart x ys

apart_out : (x : ℕ) (xs : List ℕ) → Apart x xs → In x xs → ⊥
apart_out x [] apart here = here
apart_out x (y ∷ ys) apart here = elim here [ inl e ↦ apart.0 e | inr later ↦ apart_out x ys apart.1 later ]

-- the detour's darts are new, each of them once
pub detour_distinct : (n side : ℕ) → side < 4 → Distinct (detour n side)
detour_distinct n side l =
    (apart_out (n + 10) ((n + side) ∷ (n + (side + 1) % 4) ∷ (n + (side + 2) % 4) ∷ (n + (side + 3) % 4) ∷ (n + 8) ∷ (n + 11) ∷ []) ((λ h. omega (arith, h, l)), ((λ h. omega (arith, h, l)), ((λ h. omega (arith, h, l)), ((λ h. omega (arith, h, l)), ((λ h. omega (arith, h, l)), ((λ h. omega (arith, h, l)), tt)))))), (apart_out (n + side) ((n + (side + 1) % 4) ∷ (n + (side + 2) % 4) ∷ (n + (side + 3) % 4) ∷ (n + 8) ∷ (n + 11) ∷ []) ((λ h. omega (arith, h, l)), ((λ h. omega (arith, h, l)), ((λ h. omega (arith, h, l)), ((λ h. omega (arith, h, l)), ((λ h. omega (arith, h, l)), tt))))), (apart_out (n + (side + 1) % 4) ((n + (side + 2) % 4) ∷ (n + (side + 3) % 4) ∷ (n + 8) ∷ (n + 11) ∷ []) ((λ h. omega (arith, h, l)), ((λ h. omega (arith, h, l)), ((λ h. omega (arith, h, l)), ((λ h. omega (arith, h, l)), tt)))), (apart_out (n + (side + 2) % 4) ((n + (side + 3) % 4) ∷ (n + 8) ∷ (n + 11) ∷ []) ((λ h. omega (arith, h, l)), ((λ h. omega (arith, h, l)), ((λ h. omega (arith, h, l)), tt))), (apart_out (n + (side + 3) % 4) ((n + 8) ∷ (n + 11) ∷ []) ((λ h. omega (arith, h, l)), ((λ h. omega (arith, h, l)), tt)), (apart_out (n + 8) ((n + 11) ∷ []) ((λ h. omega (arith, h, l)), tt), (apart_out (n + 11) [] tt, tt)))))))

pub detour_below : (n side : ℕ) → side < 4 → Below (n + 12) (detour n side)
detour_below n side l = (omega arith, (omega arith, (omega arith, (omega arith, (omega arith, (omega arith, (omega arith, tt)))))))

abbrev FromOn : ℕ → List ℕ → Type 0
FromOn n [] = Unit {0}
FromOn n (y ∷ ys) = (n ≤ y) × FromOn n ys

from_on : (n a : ℕ) (xs : List ℕ) → FromOn n xs → In a xs → n ≤ a
from_on n a [] all here = absurd here
from_on n a (y ∷ ys) all here = elim here [ inl e ↦ omega (arith, e, all.0) | inr later ↦ from_on n a ys all.1 later ]

pub detour_fresh : (n side a : ℕ) → In a (detour n side) → n ≤ a
detour_fresh n side a here =
    from_on n a (detour n side) (omega arith, (omega arith, (omega arith, (omega arith, (omega arith, (omega arith, (omega arith, tt))))))) here

-- the corners on the inside of the rectangle are on the detour
pub detour_inner : (n side k : ℕ) → side < 4 → k < 4 → In (n + k) (detour n side)
detour_inner n side k ls lk =
    elim (cases_eq k side) [
      | inl e ↦ inr (inl (ap (λ (i : ℕ). n + i) e))
      | inr n0 ↦ elim (cases_eq k ((side + 1) % 4)) [
        | inl e ↦ inr (inr (inl (ap (λ (i : ℕ). n + i) e)))
        | inr n1 ↦ elim (cases_eq k ((side + 2) % 4)) [
          | inl e ↦ inr (inr (inr (inl (ap (λ (i : ℕ). n + i) e))))
          | inr n2 ↦ let e : k ≡ (side + 3) % 4 = omega arith in inr (inr (inr (inr (inl (ap (λ (i : ℕ). n + i) e)))))
        ]
      ]
    ]

pub kept_sub : (w : DartMap) (right a : ℕ) (front kept : List ℕ) → AreKeptCorners w right front kept → In a kept → In a (front ++ (right ∷ []))
kept_sub w right a front kept is here =
    elim (cases_eq (w.angle right) 3) [
      | inl e ↦ in_left a front (right ∷ []) (subst (In a) (is.straight e) here)
      | inr ne ↦ subst (In a) (is.turning ne) here
    ]

pub kept_front : (w : DartMap) (right a : ℕ) (front kept : List ℕ) → AreKeptCorners w right front kept → In a front → In a kept
kept_front w right a front kept is here =
    elim (cases_eq (w.angle right) 3) [
      | inl e ↦ subst (In a) (sym (is.straight e)) here
      | inr ne ↦ subst (In a) (sym (is.turning ne)) (in_left a front (right ∷ []) here)
    ]

pub kept_distinct : (w : DartMap) (right : ℕ) (front kept : List ℕ) → AreKeptCorners w right front kept → Distinct (front ++ (right ∷ [])) → Distinct kept
kept_distinct w right front kept is distinct =
    elim (cases_eq (w.angle right) 3) [
      | inl e ↦ subst Distinct (sym (is.straight e)) (distinct_left front (right ∷ []) distinct)
      | inr ne ↦ subst Distinct (sym (is.turning ne)) distinct
    ]

below_all : (n : ℕ) (xs : List ℕ) → ((a : ℕ) → In a xs → a < n) → Below n xs
below_all n [] all = tt
below_all n (x ∷ xs) all = (all x (inl refl), below_all n xs (λ a h. all a (inr h)))

-- after the bridge, each corner is of a face that waits, or on the outside of the rectangle
pub bridge_places : (w surrounded : DartMap) (right side way : ℕ) (new : DartMap) → IsConnecting w surrounded right side way new → (o : ℕ) → o < 4 →
    (inner : List (List ℕ)) (outer front kept : List ℕ) → outer ≡ front ++ (right ∷ []) →
    ((a : ℕ) → a < w.darts → IsCorner w a → In a (concatenated inner ++ outer)) → AreKeptCorners w right front kept →
    (a : ℕ) → a < w.darts + 12 → IsCorner new a →
    In a (concatenated inner ++ (kept ++ detour w.darts side)) ⊎ (HasFourCorners new 1 a ⊎ IsOutside new (w.darts + 4 + o) a)
bridge_places w surrounded right side way new j o o_in inner outer front kept ends all is a l corner =
    let n : ℕ = w.darts in
    let Placed : ℕ → Type 0 = λ a. IsCorner new a →
    In a (concatenated inner ++ (kept ++ detour n side)) ⊎ (HasFourCorners new 1 a ⊎ IsOutside new (n + 4 + o) a) in
    let in_kept : (a : ℕ) → In a kept → In a (concatenated inner ++ (kept ++ detour n side)) =
    λ a h. in_right a (concatenated inner) (kept ++ detour n side) (in_left a kept (detour n side) h) in
    let in_detour : (a : ℕ) → In a (detour n side) → In a (concatenated inner ++ (kept ++ detour n side)) =
    λ a h. in_right a (concatenated inner) (kept ++ detour n side) (in_right a kept (detour n side) h) in
    let less = right_angle w surrounded right side way new j in
    let angles = new_angles w surrounded right side way new j in
    let old : (a : ℕ) → a < n → Placed a = λ a l corner.
    elim (cases_eq a right) [
      | inl e ↦
          let turns : w.angle right ≢ 3 = λ h. corner (ap new.angle e ∙ omega (arith, less, h)) in
          inl (in_kept a (subst (In a) (sym (is.turning turns)) (in_right a front (right ∷ []) (inl e))))
      | inr ne ↦ elim (in_append a (concatenated inner) outer (all a l (λ h. corner (old_angle w surrounded right side way new j a l ne ∙ h)))) [
        | inl left ↦ inl (in_left a (concatenated inner) (kept ++ detour n side) left)
        | inr outside ↦ elim (in_append a front (right ∷ []) (subst (In a) ends outside)) [
          | inl here ↦ inl (in_kept a (kept_front w right a front kept is here))
          | inr last ↦ absurd (elim last [ inl e ↦ ne e | inr none ↦ none ])
        ]
      ]
    ] in
    let surrounded_part : (a : ℕ) → a < n + 8 → Placed a =
    by_side n Placed old
    (λ k l corner. inl (in_detour (n + k) (detour_inner n side k j.side_in l)))
    (λ k l corner. inr (inr (outside_four w surrounded right side way new j o o_in k l))) in
    elim (cases_lt a (n + 8)) [
      | inl less ↦ surrounded_part a less corner
      | inr more ↦ elim (cases_eq a (n + 8)) [
        | inl e ↦ inl (in_detour a (inr (inr (inr (inr (inr (inl e)))))))
        | inr n8 ↦ elim (cases_eq a (n + 9)) [
          | inl e ↦ absurd (corner (ap new.angle e ∙ angles.1))
          | inr n9 ↦ elim (cases_eq a (n + 10)) [
            | inl e ↦ inl (in_detour a (inl e))
            | inr n10 ↦ let e : a ≡ n + 11 = omega arith in inl (in_detour a (inr (inr (inr (inr (inr (inr (inl e))))))))
          ]
        ]
      ]
    ]

-- the outer face has another corner before `right`, so the connected face has its ring
front_ring : (w surrounded : DartMap) (right side way : ℕ) (new : DartMap) → IsConnecting w surrounded right side way new → (front kept : List ℕ) →
    Ring w (front ++ (right ∷ [])) → Below w.darts front → (In right front → ⊥) → w.angle right ≤ 4 →
    total (map w.angle (front ++ (right ∷ []))) ≡ 2 * length (front ++ (right ∷ [])) + 4 →
    (new.angle right ≡ 2 → kept ≡ front) → (IsCorner new right → kept ≡ front ++ (right ∷ [])) →
    Ring new (kept ++ detour w.darts side)
front_ring w surrounded right side way new j [] kept ring below out most back straight turning = absurd (omega (arith, most, back))
front_ring w surrounded right side way new j (b ∷ bs) kept ring below out most back straight turning =
    connected_ring w surrounded right side way new j b bs (outer_round w surrounded right side way new j b bs ring below out) kept straight turning

-- all faces wait to be cut
pub bridge_waits : (w surrounded : DartMap) (right side way : ℕ) (new : DartMap) → IsConnecting w surrounded right side way new → (o : ℕ) → o < 4 →
    (inner : List (List ℕ))
    (outer kept : List ℕ) → (listed : AreListed w right inner outer) → w.angle right ≤ 4 → AreKeptCorners w right listed.front kept →
    AreWaiting new (w.darts + 4 + o) (inner ++ ((kept ++ detour w.darts side) ∷ []))
bridge_waits w surrounded right side way new j o o_in inner outer kept listed most is =
    let n : ℕ = w.darts in
    let front : List ℕ = listed.front in
    let big : List ℕ = kept ++ detour n side in
    let count : new.darts ≡ n + 12 = omega (arith, j.bridge.chord.darts, j.bridge.subdivide.darts, j.surround.darts) in
    let all_distinct : Distinct (concatenated inner ++ (front ++ (right ∷ []))) =
    subst (λ (xs : List ℕ). Distinct (concatenated inner ++ xs)) listed.ends listed.distinct in
    let all_below : Below n (concatenated inner ++ (front ++ (right ∷ []))) =
    subst (λ (xs : List ℕ). Below n (concatenated inner ++ xs)) listed.ends listed.below in
    let outer_distinct : Distinct (front ++ (right ∷ [])) = distinct_right (concatenated inner) (front ++ (right ∷ [])) all_distinct in
    let outer_below : Below n (front ++ (right ∷ [])) = below_right n (concatenated inner) (front ++ (right ∷ [])) all_below in
    let out_front : In right front → ⊥ = λ h. distinct_apart right front (right ∷ []) outer_distinct h (inl refl) in
    let out_inner : In right (concatenated inner) → ⊥ =
    λ h. distinct_apart right (concatenated inner) (front ++ (right ∷ [])) all_distinct h (in_right right front (right ∷ []) (inl refl)) in
    let kept_below : Below n kept = below_all n kept (λ a h. in_below n a (front ++ (right ∷ [])) outer_below (kept_sub w right a front kept is h)) in
    let less = right_angle w surrounded right side way new j in
    let straight : new.angle right ≡ 2 → kept ≡ front = λ h. is.straight (omega (arith, less, h)) in
    let turning : IsCorner new right → kept ≡ front ++ (right ∷ []) = λ h. is.turning (λ e. h (omega (arith, less, e))) in
    let front_below : Below n front = below_left n front (right ∷ []) outer_below in
    let outer_ring : Ring w (front ++ (right ∷ [])) = subst (Ring w) listed.ends listed.ring in
    let back : total (map w.angle (front ++ (right ∷ []))) ≡ 2 * length (front ++ (right ∷ [])) + 4 =
    subst (λ (xs : List ℕ). total (map w.angle xs) ≡ 2 * length xs + 4) listed.ends listed.turns_back in
    let inner_below : Below n (concatenated inner) = below_left n (concatenated inner) (front ++ (right ∷ [])) all_below in
    record {
      rings = rings_more new inner big
          (other_rings w surrounded right side way new j inner inner_below out_inner listed.rings)
          (front_ring w surrounded right side way new j front kept outer_ring front_below out_front most back straight turning)
          (concatenated_once w surrounded right side way new j front front_below out_front back kept straight turning);
      distinct = subst Distinct (sym (concatenated_more inner big))
          (distinct_append (concatenated inner) big (distinct_left (concatenated inner) (front ++ (right ∷ [])) all_distinct)
          (distinct_append kept (detour n side) (kept_distinct w right front kept is outer_distinct) (detour_distinct n side j.side_in)
          (λ a here there. omega (arith, in_below n a kept kept_below here, detour_fresh n side a there)))
          (λ a left here. elim (in_append a kept (detour n side) here) [
            | inl held ↦ distinct_apart a (concatenated inner) (front ++ (right ∷ [])) all_distinct left (kept_sub w right a front kept is held)
            | inr there ↦ omega (arith, in_below n a (concatenated inner) inner_below left, detour_fresh n side a there)
          ]));
      below = subst (Below new.darts) (sym (concatenated_more inner big))
          (below_append new.darts (concatenated inner) big (below_more n new.darts (concatenated inner) (omega (arith, count)) inner_below)
          (below_append new.darts kept (detour n side) (below_more n new.darts kept (omega (arith, count)) kept_below)
          (below_more (n + 12) new.darts (detour n side) (omega (arith, count)) (detour_below n side j.side_in))));
      inside = omega (arith, count);
      outside = (outside_four w surrounded right side way new j o o_in o o_in).four;
      placed = λ a l corner.
          subst (λ (xs : List ℕ). In a xs ⊎ (HasFourCorners new 1 a ⊎ IsOutside new (n + 4 + o) a)) (sym (concatenated_more inner big))
          (bridge_places w surrounded right side way new j o o_in inner outer front kept listed.ends listed.all is a (omega (arith, count, l)) corner);
    }
