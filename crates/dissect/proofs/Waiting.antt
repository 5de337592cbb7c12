-- What one cut makes of the faces that wait.
use Rattle.std.proofs.Common.{◌≡◌, ◌≢◌, ◌⊎◌, ℕ, ◌+◌, ◌<◌, ◌≤◌, ◌∙◌, List, [], ◌∷◌, ◌++◌, length, length-append, append_assoc, map, arith, subst, sym, ap, refl, inl, inr}
use Rattle.std.proofs.lemmas.Bool.{cases_eq}
use Rattle.dissect.specs.Turning.{total}
use Rattle.dissect.specs.DartMaps.{DartMap, IsTied, IsCut}
use Rattle.dissect.specs.Faces.{IsCorner, Stretches, last_of, Ring, HasFourCorners, IsOutside, In, Distinct, Below, concatenated, TurnsOnce, AreRings, AreWaiting}
use Rattle.dissect.proofs.Splitting.{split_tied, by_age}
use Rattle.dissect.proofs.Stretching.{split_stretches}
use Rattle.dissect.proofs.Rings.{Clear, IsHook, split_ring, split_four, chord_ring, cut_ring_within, split_outside, cut_boxes, cut_box, cut_outside}
use Rattle.dissect.proofs.Listing.{in_left, in_right, in_below, below_left, below_right, distinct_right, distinct_apart, still_in, gone_distinct, kept_distinct, gone_below, kept_below}

-- d turns right, c1 and c after it turn left, and the cut goes from d to the dart e right after c
pub record IsBite (w : DartMap) (d c1 c e way : ℕ) (new : DartMap) : Type 0 where
  pub tied : IsTied w
  pub cut : IsCut w d e way new
  pub c1_in : c1 < w.darts
  pub c_in : c < w.darts
  pub to_first : Stretches w d c1
  pub to_second : Stretches w c1 c
  pub left_first : w.angle c1 ≡ 1
  pub left : w.angle c ≡ 1
  pub apart : c1 ≢ c
  pub behind : w.next c ≡ e

pub hook_of : (w : DartMap) (d c1 c e way : ℕ) (new : DartMap) → (bite : IsBite w d c1 c e way new) →
    IsHook bite.cut.middle d c1 c w.darts
hook_of w d c1 c e way new bite =
    let cut = bite.cut in
    let s = cut.subdivide in
    record {
      cutting = record {
        d_in = omega (arith, s.darts, cut.d_in);
        c_in = omega (arith, s.darts, bite.c_in);
        f_in = omega (arith, s.darts);
        right = omega (arith, s.angle_old d cut.d_in, cut.right);
        left = s.angle_old c bite.c_in ∙ bite.left;
        straight = s.angle_first;
        behind = ap cut.middle.next (sym (bite.tied.next_back c bite.c_in) ∙ ap w.prev bite.behind) ∙ s.next_before;
      };
      c1_in = omega (arith, s.darts, bite.c1_in);
      to_first = split_stretches w e (w.direction e) d c1 cut.middle s bite.tied cut.e_in cut.d_in bite.to_first;
      to_second = split_stretches w e (w.direction e) c1 c cut.middle s bite.tied cut.e_in bite.c1_in bite.to_second;
      left = s.angle_old c1 bite.c1_in ∙ bite.left_first;
      apart = bite.apart;
    }

pub middle_tied : (w : DartMap) (d c1 c e way : ℕ) (new : DartMap) → (bite : IsBite w d c1 c e way new) → IsTied bite.cut.middle
middle_tied w d c1 c e way new bite =
    split_tied w e (w.direction e) 2 bite.cut.middle bite.tied bite.cut.e_in bite.cut.subdivide

pub bite_apart : (w : DartMap) (d c1 c e way : ℕ) (new : DartMap) → IsBite w d c1 c e way new → (d ≢ c1) × (d ≢ c)
bite_apart w d c1 c e way new bite =
    (λ h. omega (arith, ap w.angle h, bite.left_first, bite.cut.right), λ h. omega (arith, ap w.angle h, bite.left, bite.cut.right))

-- old darts but d keep their angles
pub bite_angle : (w : DartMap) (d c1 c e way b : ℕ) (new : DartMap) → IsBite w d c1 c e way new → b < w.darts → b ≢ d →
    new.angle b ≡ w.angle b
bite_angle w d c1 c e way b new bite l nd =
    bite.cut.chord.angle_other b (omega (arith, bite.cut.subdivide.darts, l)) nd (λ h. omega (arith, h, l)) ∙ bite.cut.subdivide.angle_old b l

pub bite_angle_d : (w : DartMap) (d c1 c e way : ℕ) (new : DartMap) → IsBite w d c1 c e way new → new.angle d + 1 ≡ w.angle d
bite_angle_d w d c1 c e way new bite = bite.cut.chord.angle_d ∙ bite.cut.subdivide.angle_old d bite.cut.d_in

pub clear_of : (n m d c : ℕ) (xs : List ℕ) → n ≤ m → Below n xs → (In d xs → ⊥) → (In c xs → ⊥) → Clear m d c xs
clear_of n m d c [] le below out_d out_c = tt
clear_of n m d c (x ∷ xs) le below out_d out_c = (
  omega (arith, below.0, le),
  (λ h. out_d (inl (sym h))),
  (λ h. out_c (inl (sym h))),
  clear_of n m d c xs le below.1 (λ h. out_d (inr h)) (λ h. out_c (inr h)),
)

pub totals_kept : (w : DartMap) (d c1 c e way : ℕ) (new : DartMap) → IsBite w d c1 c e way new → (xs : List ℕ) → Below w.darts xs →
    (In d xs → ⊥) → total (map new.angle xs) ≡ total (map w.angle xs)
totals_kept w d c1 c e way new bite [] below out_d = refl
totals_kept w d c1 c e way new bite (x ∷ xs) below out_d =
    omega (
      arith,
      bite_angle w d c1 c e way x new bite below.0 (λ h. out_d (inl (sym h))),
      totals_kept w d c1 c e way new bite xs below.1 (λ h. out_d (inr h)),
    )

pub total-append : (f : ℕ → ℕ) (xs ys : List ℕ) → total (map f (xs ++ ys)) ≡ total (map f xs) + total (map f ys)
total-append f [] ys = omega arith
total-append f (x ∷ xs) ys = omega (arith, total-append f xs ys)

pub last_in : (a : ℕ) (xs : List ℕ) → In (last_of a xs) (a ∷ xs)
last_in a [] = inl refl
last_in a (x ∷ xs) = inr (last_in x xs)

pub ring_last : (w : DartMap) (cs : List ℕ) → Ring w cs → Below w.darts cs → last_of 0 cs < w.darts
ring_last w [] ring below = absurd ring
ring_last w (c ∷ cs) ring below = in_below w.darts (last_of c cs) (c ∷ cs) below (last_in c cs)

-- faces that the cut does not touch
pub other_rings : (w : DartMap) (d c1 c e way : ℕ) (new : DartMap) → IsBite w d c1 c e way new → (rs : List (List ℕ)) →
    Below w.darts (concatenated rs) → (In d (concatenated rs) → ⊥) → (In c (concatenated rs) → ⊥) → AreRings w rs → AreRings new rs
other_rings w d c1 c e way new bite [] below out_d out_c rings = tt
other_rings w d c1 c e way new bite (r ∷ rs) below out_d out_c rings =
    let cut = bite.cut in
    let s = cut.subdivide in
    let here = hook_of w d c1 c e way new bite in
    let tied = middle_tied w d c1 c e way new bite in
    let below_r : Below w.darts r = below_left w.darts r (concatenated rs) below in
    let out_d_r : In d r → ⊥ = λ h. out_d (in_left d r (concatenated rs) h) in
    let out_c_r : In c r → ⊥ = λ h. out_c (in_left c r (concatenated rs) h) in
    let middle_ring : Ring cut.middle r = split_ring w e (w.direction e) cut.middle s bite.tied cut.e_in r
    (ring_last w r rings.0.0 below_r) rings.0.0 in
    let ring : Ring new r = chord_ring cut.middle d c w.darts way new cut.chord tied here.cutting r
    (clear_of w.darts cut.middle.darts d c r (omega (arith, s.darts)) below_r out_d_r out_c_r) middle_ring in
    let once : TurnsOnce new r = omega (arith, totals_kept w d c1 c e way new bite r below_r out_d_r, rings.0.1) in (
      (ring, once),
      other_rings w d c1 c e way new bite rs (below_right w.darts r (concatenated rs) below)
          (λ h. out_d (in_right d r (concatenated rs) h)) (λ h. out_c (in_right c r (concatenated rs) h)) rings.1,
    )

-- each corner after the cut is of a list that has the chord's way there, d if it still turns, and what stays
-- of the corners before; or it is of a box or of the outside of the rectangle
pub bite_places : (w : DartMap) (o d c1 c e way : ℕ) (new : DartMap) (before tail list : List ℕ) → IsBite w d c1 c e way new →
    ((a : ℕ) → a < w.darts → IsCorner w a → In a (before ++ (d ∷ c1 ∷ c ∷ tail)) ⊎ (HasFourCorners w 1 a ⊎ IsOutside w o a)) →
    In (w.darts + 2) list → (IsCorner new d → In d list) → ((a : ℕ) → In a before → In a list) →
    ((a : ℕ) → In a tail → In a list) →
    (a : ℕ) → a < new.darts → IsCorner new a → In a list ⊎ (HasFourCorners new 1 a ⊎ IsOutside new o a)
bite_places w o d c1 c e way new before tail list bite placed x_in d_stays before_in tail_in a l corner =
    let cut = bite.cut in
    let s = cut.subdivide in
    let t = cut.chord in
    let hook = hook_of w d c1 c e way new bite in
    let tied = middle_tied w d c1 c e way new bite in
    let apart = bite_apart w d c1 c e way new bite in
    let boxes = cut_boxes cut.middle d c1 c w.darts way new t tied hook apart.1 in
    let g_straight : new.angle (w.darts + 1) ≡ 2 =
    t.angle_other (w.darts + 1) (omega (arith, s.darts)) (λ h. omega (arith, h, cut.d_in)) (λ h. omega (arith, h))
    ∙ s.angle_second in
    let old : (a : ℕ) → a < w.darts → IsCorner new a → In a list ⊎ (HasFourCorners new 1 a ⊎ IsOutside new o a) = λ a l corner.
    elim (cases_eq a d) [
      | inl is_d ↦ inl (subst (λ (k : ℕ). In k list) (sym is_d) (d_stays (subst (λ (k : ℕ). IsCorner new k) is_d corner)))
      | inr nd ↦ elim (cases_eq a c1) [
        | inl is_c1 ↦ inr (inl (subst (λ (k : ℕ). HasFourCorners new 1 k) (sym is_c1) boxes.0))
        | inr nc1 ↦ elim (cases_eq a c) [
          | inl is_c ↦ inr (inl (subst (λ (k : ℕ). HasFourCorners new 1 k) (sym is_c) boxes.1))
          | inr nc ↦
              let was : IsCorner w a = λ h. corner (bite_angle w d c1 c e way a new bite l nd ∙ h) in
              let l_mid : a < cut.middle.darts = omega (arith, s.darts, l) in
              elim (placed a l was) [
                | inl listed ↦ elim (still_in a d c1 c before tail nd nc1 nc listed) [
                  | inl left ↦ inl (before_in a left)
                  | inr right ↦ inl (tail_in a right)
                ]
                | inr four ↦ elim four [
                  | inl box ↦ inr (inl (cut_box cut.middle d c1 c w.darts way a new t tied hook l_mid
                      (split_four w e (w.direction e) 1 a cut.middle s bite.tied cut.e_in l box)))
                  | inr surround ↦ inr (inr (cut_outside cut.middle o d c1 c w.darts way a new t tied hook l_mid
                      (split_outside w o e (w.direction e) a cut.middle s bite.tied cut.e_in l surround)))
                ]
              ]
        ]
      ]
    ] in
    let middle : (a : ℕ) → a < w.darts + 2 → IsCorner new a → In a list ⊎ (HasFourCorners new 1 a ⊎ IsOutside new o a) =
    by_age w.darts (λ a. IsCorner new a → In a list ⊎ (HasFourCorners new 1 a ⊎ IsOutside new o a)) old
    (λ _. inr (inl boxes.2)) (λ corner. absurd (corner g_straight)) in
    let two : cut.middle.darts ≡ w.darts + 2 = s.darts in
    by_age cut.middle.darts (λ a. IsCorner new a → In a list ⊎ (HasFourCorners new 1 a ⊎ IsOutside new o a))
    (λ a l. middle a (omega (arith, two, l)))
    (λ _. inl (subst (λ (k : ℕ). In k list) (sym two) x_in))
    (λ _. inr (inl boxes.3))
    a (omega (arith, t.darts, l)) corner

-- the outside of the rectangle stays
pub bite_outside : (w : DartMap) (o d c1 c e way : ℕ) (new : DartMap) → IsBite w d c1 c e way new → o < w.darts → HasFourCorners w 3 o → HasFourCorners new 3 o
bite_outside w o d c1 c e way new bite l four =
    let cut = bite.cut in
    let s = cut.subdivide in
    let outside : IsOutside w o o = record { four = four; holds = inl refl } in
    let after : IsOutside new o o = cut_outside cut.middle o d c1 c w.darts way o new cut.chord (middle_tied w d c1 c e way new bite)
    (hook_of w d c1 c e way new bite) (omega (arith, s.darts, l))
    (split_outside w o e (w.direction e) o cut.middle s bite.tied cut.e_in l outside) in
    after.four

-- what the lists' being distinct says of d and c
pub record Parts (n d c : ℕ) (before rest others : List ℕ) : Type 0 where
  pub clear : (m : ℕ) → n ≤ m → Clear m d c before × Clear m d c rest
  pub below_before : Below n before
  pub below_rest : Below n rest
  pub d_before : In d before → ⊥
  pub d_rest : In d rest → ⊥
  pub below_others : Below n others
  pub d_others : In d others → ⊥
  pub c_others : In c others → ⊥

pub apart_parts : (n d c1 c : ℕ) (before rest others : List ℕ) → Distinct (before ++ (d ∷ c1 ∷ c ∷ (rest ++ others))) →
    Below n (before ++ (d ∷ c1 ∷ c ∷ (rest ++ others))) → Parts n d c before rest others
apart_parts n d c1 c before rest others distinct below =
    let tail : List ℕ = rest ++ others in
    let after : Distinct (d ∷ c1 ∷ c ∷ tail) = distinct_right before (d ∷ c1 ∷ c ∷ tail) distinct in
    let d_before : In d before → ⊥ = λ h. distinct_apart d before (d ∷ c1 ∷ c ∷ tail) distinct h (inl refl) in
    let c_before : In c before → ⊥ = λ h. distinct_apart c before (d ∷ c1 ∷ c ∷ tail) distinct h (inr (inr (inl refl))) in
    let d_tail : In d tail → ⊥ = λ h. after.0 (inr (inr h)) in
    let c_tail : In c tail → ⊥ = λ h. after.1.1.0 h in
    let below_before : Below n before = below_left n before (d ∷ c1 ∷ c ∷ tail) below in
    let below_tail : Below n tail = (below_right n before (d ∷ c1 ∷ c ∷ tail) below).1.1.1 in
    let below_rest : Below n rest = below_left n rest others below_tail in
    record {
      clear = λ m le. (
        clear_of n m d c before le below_before d_before c_before,
        clear_of n m d c rest le below_rest (λ h. d_tail (in_left d rest others h)) (λ h. c_tail (in_left c rest others h)),
      );
      below_before = below_before;
      below_rest = below_rest;
      d_before = d_before;
      d_rest = λ h. d_tail (in_left d rest others h);
      below_others = below_right n rest others below_tail;
      d_others = λ h. d_tail (in_right d rest others h);
      c_others = λ h. c_tail (in_right c rest others h);
    }

-- the face that is cut, with d still a corner and with d straight: its ring, and that it turns once round
pub bite_ring : (w : DartMap) (d c1 c e way : ℕ) (new : DartMap) (before rest others : List ℕ) → IsBite w d c1 c e way new →
    Parts w.darts d c before rest others →
    Ring w (before ++ (d ∷ c1 ∷ c ∷ rest)) → TurnsOnce w (before ++ (d ∷ c1 ∷ c ∷ rest)) → Below w.darts (before ++ (d ∷ c1 ∷ c ∷ rest)) →
    (IsCorner new d → Ring new (before ++ (d ∷ (w.darts + 2) ∷ rest)) × TurnsOnce new (before ++ (d ∷ (w.darts + 2) ∷ rest)))
    × (new.angle d ≡ 2 → Ring new (before ++ ((w.darts + 2) ∷ rest)) × TurnsOnce new (before ++ ((w.darts + 2) ∷ rest)))
bite_ring w d c1 c e way new before rest others bite parts ring once below =
    let cut = bite.cut in
    let s = cut.subdivide in
    let t = cut.chord in
    let two : cut.middle.darts ≡ w.darts + 2 = s.darts in
    let hook = hook_of w d c1 c e way new bite in
    let tied = middle_tied w d c1 c e way new bite in
    let middle_ring : Ring cut.middle (before ++ (d ∷ c1 ∷ c ∷ rest)) =
    split_ring w e (w.direction e) cut.middle s bite.tied cut.e_in (before ++ (d ∷ c1 ∷ c ∷ rest))
    (ring_last w (before ++ (d ∷ c1 ∷ c ∷ rest)) ring below) ring in
    let clear = parts.clear cut.middle.darts (omega (arith, two)) in
    let rings = cut_ring_within cut.middle d c1 c w.darts way before rest new t tied hook clear.0 clear.1 middle_ring in
    let x_angle : new.angle (w.darts + 2) ≡ 1 = ap new.angle (sym two) ∙ t.angle_there in
    let d_angle : new.angle d + 1 ≡ w.angle d = bite_angle_d w d c1 c e way new bite in
    let same_before : total (map new.angle before) ≡ total (map w.angle before) =
    totals_kept w d c1 c e way new bite before parts.below_before parts.d_before in
    let same_rest : total (map new.angle rest) ≡ total (map w.angle rest) =
    totals_kept w d c1 c e way new bite rest parts.below_rest parts.d_rest in
    let old_total : total (map w.angle (before ++ (d ∷ c1 ∷ c ∷ rest))) ≡
    total (map w.angle before) + (w.angle d + (w.angle c1 + (w.angle c + total (map w.angle rest)))) =
    total-append w.angle before (d ∷ c1 ∷ c ∷ rest) in
    let old_length : length (before ++ (d ∷ c1 ∷ c ∷ rest)) ≡ length before + (3 + length rest) =
    omega (arith, length-append before (d ∷ c1 ∷ c ∷ rest)) in (
      λ corner. (
        subst (λ (x : ℕ). Ring new (before ++ (d ∷ x ∷ rest))) two (rings.0 corner),
        let new_total : total (map new.angle (before ++ (d ∷ (w.darts + 2) ∷ rest))) ≡
            total (map new.angle before) + (new.angle d + (new.angle (w.darts + 2) + total (map new.angle rest))) =
            total-append new.angle before (d ∷ (w.darts + 2) ∷ rest) in
            let new_length : length (before ++ (d ∷ (w.darts + 2) ∷ rest)) ≡ length before + (2 + length rest) =
            omega (arith, length-append before (d ∷ (w.darts + 2) ∷ rest)) in
            omega (
              arith,
              new_total,
              new_length,
              old_total,
              old_length,
              once,
              same_before,
              same_rest,
              x_angle,
              d_angle,
              bite.left_first,
              bite.left,
            ),
      ),
      λ straight. (
        subst (λ (x : ℕ). Ring new (before ++ (x ∷ rest))) two (rings.1 straight),
        let new_total : total (map new.angle (before ++ ((w.darts + 2) ∷ rest))) ≡
            total (map new.angle before) + (new.angle (w.darts + 2) + total (map new.angle rest)) =
            total-append new.angle before ((w.darts + 2) ∷ rest) in
            let new_length : length (before ++ ((w.darts + 2) ∷ rest)) ≡ length before + (1 + length rest) =
            omega (arith, length-append before ((w.darts + 2) ∷ rest)) in
            omega (
              arith,
              new_total,
              new_length,
              old_total,
              old_length,
              once,
              same_before,
              same_rest,
              x_angle,
              d_angle,
              straight,
              bite.left_first,
              bite.left,
            ),
      ),
    )

-- the faces that wait, after a cut that leaves d a corner
pub kept_waiting : (w : DartMap) (d c1 c e way : ℕ) (new : DartMap) (before rest : List ℕ) (o : ℕ) (rs : List (List ℕ)) →
    IsBite w d c1 c e way new → IsCorner new d →
    AreWaiting w o ((before ++ (d ∷ c1 ∷ c ∷ rest)) ∷ rs) → AreWaiting new o ((before ++ (d ∷ (w.darts + 2) ∷ rest)) ∷ rs)
kept_waiting w d c1 c e way new before rest o rs bite corner waiting =
    let cut = bite.cut in
    let s = cut.subdivide in
    let t = cut.chord in
    let two : cut.middle.darts ≡ w.darts + 2 = s.darts in
    let more : w.darts + 2 < new.darts = omega (arith, t.darts, two) in
    let old_flat : (before ++ (d ∷ c1 ∷ c ∷ rest)) ++ concatenated rs ≡ before ++ (d ∷ c1 ∷ c ∷ (rest ++ concatenated rs)) =
    append_assoc before (d ∷ c1 ∷ c ∷ rest) (concatenated rs) in
    let new_flat : (before ++ (d ∷ (w.darts + 2) ∷ rest)) ++ concatenated rs ≡ before ++ (d ∷ (w.darts + 2) ∷ (rest ++ concatenated rs)) =
    append_assoc before (d ∷ (w.darts + 2) ∷ rest) (concatenated rs) in
    let distinct : Distinct (before ++ (d ∷ c1 ∷ c ∷ (rest ++ concatenated rs))) = subst Distinct old_flat waiting.distinct in
    let below : Below w.darts (before ++ (d ∷ c1 ∷ c ∷ (rest ++ concatenated rs))) = subst (Below w.darts) old_flat waiting.below in
    let fresh : In (w.darts + 2) (before ++ (d ∷ c1 ∷ c ∷ (rest ++ concatenated rs))) → ⊥ =
    λ h. omega (arith, in_below w.darts (w.darts + 2) (before ++ (d ∷ c1 ∷ c ∷ (rest ++ concatenated rs))) below h) in
    let parts = apart_parts w.darts d c1 c before rest (concatenated rs) distinct below in
    let below_face : Below w.darts (before ++ (d ∷ c1 ∷ c ∷ rest)) = below_left w.darts (before ++ (d ∷ c1 ∷ c ∷ rest)) (concatenated rs) waiting.below in
    let ring = bite_ring w d c1 c e way new before rest (concatenated rs) bite parts waiting.rings.0.0 waiting.rings.0.1 below_face in
    record {
      rings = (
        ring.0 corner,
        other_rings w d c1 c e way new bite rs parts.below_others parts.d_others parts.c_others waiting.rings.1,
      );
      distinct = subst Distinct (sym new_flat) (kept_distinct d c1 c (w.darts + 2) before (rest ++ concatenated rs) distinct fresh);
      below = subst (Below new.darts) (sym new_flat)
          (kept_below w.darts new.darts d c1 c (w.darts + 2) before (rest ++ concatenated rs) (omega (arith, t.darts, two)) more below);
      inside = omega (arith, t.darts, two, waiting.inside);
      outside = bite_outside w o d c1 c e way new bite waiting.inside waiting.outside;
      placed = λ a l turn. subst (λ (zs : List ℕ). In a zs ⊎ (HasFourCorners new 1 a ⊎ IsOutside new o a)) (sym new_flat)
          (bite_places w o d c1 c e way new before (rest ++ concatenated rs) (before ++ (d ∷ (w.darts + 2) ∷ (rest ++ concatenated rs))) bite
          (λ a l turn. subst (λ (zs : List ℕ). In a zs ⊎ (HasFourCorners w 1 a ⊎ IsOutside w o a)) old_flat (waiting.placed a l turn))
          (in_right (w.darts + 2) before (d ∷ (w.darts + 2) ∷ (rest ++ concatenated rs)) (inr (inl refl)))
          (λ _. in_right d before (d ∷ (w.darts + 2) ∷ (rest ++ concatenated rs)) (inl refl))
          (λ a h. in_left a before (d ∷ (w.darts + 2) ∷ (rest ++ concatenated rs)) h)
          (λ a h. in_right a before (d ∷ (w.darts + 2) ∷ (rest ++ concatenated rs)) (inr (inr h)))
          a l turn);
    }

-- the faces that wait, after a cut that leaves d straight
pub gone_waiting : (w : DartMap) (d c1 c e way : ℕ) (new : DartMap) (before rest : List ℕ) (o : ℕ) (rs : List (List ℕ)) →
    IsBite w d c1 c e way new → new.angle d ≡ 2 →
    AreWaiting w o ((before ++ (d ∷ c1 ∷ c ∷ rest)) ∷ rs) → AreWaiting new o ((before ++ ((w.darts + 2) ∷ rest)) ∷ rs)
gone_waiting w d c1 c e way new before rest o rs bite straight waiting =
    let cut = bite.cut in
    let s = cut.subdivide in
    let t = cut.chord in
    let two : cut.middle.darts ≡ w.darts + 2 = s.darts in
    let more : w.darts + 2 < new.darts = omega (arith, t.darts, two) in
    let old_flat : (before ++ (d ∷ c1 ∷ c ∷ rest)) ++ concatenated rs ≡ before ++ (d ∷ c1 ∷ c ∷ (rest ++ concatenated rs)) =
    append_assoc before (d ∷ c1 ∷ c ∷ rest) (concatenated rs) in
    let new_flat : (before ++ ((w.darts + 2) ∷ rest)) ++ concatenated rs ≡ before ++ ((w.darts + 2) ∷ (rest ++ concatenated rs)) =
    append_assoc before ((w.darts + 2) ∷ rest) (concatenated rs) in
    let distinct : Distinct (before ++ (d ∷ c1 ∷ c ∷ (rest ++ concatenated rs))) = subst Distinct old_flat waiting.distinct in
    let below : Below w.darts (before ++ (d ∷ c1 ∷ c ∷ (rest ++ concatenated rs))) = subst (Below w.darts) old_flat waiting.below in
    let fresh : In (w.darts + 2) (before ++ (d ∷ c1 ∷ c ∷ (rest ++ concatenated rs))) → ⊥ =
    λ h. omega (arith, in_below w.darts (w.darts + 2) (before ++ (d ∷ c1 ∷ c ∷ (rest ++ concatenated rs))) below h) in
    let parts = apart_parts w.darts d c1 c before rest (concatenated rs) distinct below in
    let below_face : Below w.darts (before ++ (d ∷ c1 ∷ c ∷ rest)) = below_left w.darts (before ++ (d ∷ c1 ∷ c ∷ rest)) (concatenated rs) waiting.below in
    let ring = bite_ring w d c1 c e way new before rest (concatenated rs) bite parts waiting.rings.0.0 waiting.rings.0.1 below_face in
    record {
      rings = (
        ring.1 straight,
        other_rings w d c1 c e way new bite rs parts.below_others parts.d_others parts.c_others waiting.rings.1,
      );
      distinct = subst Distinct (sym new_flat) (gone_distinct d c1 c (w.darts + 2) before (rest ++ concatenated rs) distinct fresh);
      below = subst (Below new.darts) (sym new_flat)
          (gone_below w.darts new.darts d c1 c (w.darts + 2) before (rest ++ concatenated rs) (omega (arith, t.darts, two)) more below);
      inside = omega (arith, t.darts, two, waiting.inside);
      outside = bite_outside w o d c1 c e way new bite waiting.inside waiting.outside;
      placed = λ a l turn. subst (λ (zs : List ℕ). In a zs ⊎ (HasFourCorners new 1 a ⊎ IsOutside new o a)) (sym new_flat)
          (bite_places w o d c1 c e way new before (rest ++ concatenated rs) (before ++ ((w.darts + 2) ∷ (rest ++ concatenated rs))) bite
          (λ a l turn. subst (λ (zs : List ℕ). In a zs ⊎ (HasFourCorners w 1 a ⊎ IsOutside w o a)) old_flat (waiting.placed a l turn))
          (in_right (w.darts + 2) before ((w.darts + 2) ∷ (rest ++ concatenated rs)) (inl refl))
          (λ turn. absurd (turn straight))
          (λ a h. in_left a before ((w.darts + 2) ∷ (rest ++ concatenated rs)) h)
          (λ a h. in_right a before ((w.darts + 2) ∷ (rest ++ concatenated rs)) (inr h))
          a l turn);
    }
