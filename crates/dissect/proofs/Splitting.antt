-- What a subdivision edge keeps.
use Rattle.std.proofs.Common.{◌≡◌, ◌≢◌, ℕ, ◌+◌, ◌%◌, ◌<◌, ◌≤◌, ◌==◌, if◌then◌else◌, ◌∙◌, arith, subst, sym, ap, inl, inr, eqb}
use Rattle.common.specs.Sums.{sum_below}
use Rattle.common.proofs.Sums.{sum_below-more, sum_below-same, sum_below-none}
use Rattle.std.proofs.lemmas.Bool.{cases_eq, eq-eqb, ne_eqb, cond-true, cond-false}
use Rattle.dissect.specs.DartMaps.{DartMap, IsTied, IsMeeting, IsStraight, IsSubdivided, around}

-- a fact at each of n + 2 darts: at two named ones, at the other old ones, and at the two new ones
pub by_place : (n c p : ℕ) (P : ℕ → Type 0) → P c → P p →
    ((a : ℕ) → a < n → a ≢ c → a ≢ p → P a) → P n → P (n + 1) → (a : ℕ) → a < n + 2 → P a
by_place n c p P at_c at_p other first second a l =
    elim (cases_eq a n) [
      | inl e ↦ subst P (sym e) first
      | inr not_first ↦
          elim (cases_eq a (n + 1)) [
            | inl e ↦ subst P (sym e) second
            | inr not_second ↦
                elim (cases_eq a c) [
                  | inl e ↦ subst P (sym e) at_c
                  | inr not_c ↦
                      elim (cases_eq a p) [
                        | inl e ↦ subst P (sym e) at_p
                        | inr not_p ↦ other a (below n a l not_first not_second) not_c not_p
                      ]
                ]
          ]
    ]
  where
    below : (n a : ℕ) → a < n + 2 → a ≢ n → a ≢ n + 1 → a < n
    below n a l not_first not_second = omega arith

pub split_tied : (w : DartMap) (e way bend : ℕ) (new : DartMap) → IsTied w → e < w.darts →
    IsSubdivided w e way bend new → IsTied new
split_tied w e way bend new tied e_in s =
    let t : ℕ = w.reverse_dart e in
    let t_in : t < w.darts = tied.reverse_dart_in e e_in in
    let n : ℕ = w.darts in
    let P_next : ℕ → Type 0 = λ a. new.next a < new.darts in
    let P_prev : ℕ → Type 0 = λ a. new.prev a < new.darts in
    let P_reverse_dart : ℕ → Type 0 = λ a. new.reverse_dart a < new.darts in
    let P_next_back : ℕ → Type 0 = λ a. new.prev (new.next a) ≡ a in
    let P_prev_back : ℕ → Type 0 = λ a. new.next (new.prev a) ≡ a in
    let P_reverse_dart_back : ℕ → Type 0 = λ a. new.reverse_dart (new.reverse_dart a) ≡ a in
    let P_apart : ℕ → Type 0 = λ a. new.reverse_dart a ≢ a in
    record {
      next_in = λ a l. by_place n (w.prev e) (w.prev t) P_next
          (omega (arith, s.next_before, s.darts)) (omega (arith, s.next_back, s.darts))
          (λ a l nc np. omega (arith, s.next_other a l nc np, tied.next_in a l, s.darts))
          (omega (arith, s.next_first, s.darts)) (omega (arith, s.next_second, s.darts, t_in))
          a (omega (arith, s.darts));
      prev_in = λ a l. by_place n e t P_prev
          (omega (arith, s.prev_e, s.darts)) (omega (arith, s.prev_reverse_dart, s.darts))
          (λ a l nc np. omega (arith, s.prev_other a l nc np, tied.prev_in a l, s.darts))
          (omega (arith, s.prev_first, s.darts, tied.prev_in e e_in))
          (omega (arith, s.prev_second, s.darts, tied.prev_in t t_in))
          a (omega (arith, s.darts));
      next_back = λ a l. by_place n (w.prev e) (w.prev t) P_next_back
          (cc) (cc)
          (λ a l nc np.
          let other_e : w.next a ≢ e = λ h. nc (sym (tied.next_back a l) ∙ ap w.prev h) in
          let other_t : w.next a ≢ t = λ h. np (sym (tied.next_back a l) ∙ ap w.prev h) in
          ap new.prev (s.next_other a l nc np) ∙ s.prev_other (w.next a) (tied.next_in a l) other_e other_t
          ∙ tied.next_back a l)
          (cc) (cc)
          a (omega (arith, s.darts));
      prev_back = λ a l. by_place n e t P_prev_back
          (cc) (cc)
          (λ a l nc np.
          let other_c : w.prev a ≢ w.prev e = λ h. nc (sym (tied.prev_back a l) ∙ ap w.next h ∙ tied.prev_back e e_in) in
          let other_p : w.prev a ≢ w.prev t = λ h. np (sym (tied.prev_back a l) ∙ ap w.next h ∙ tied.prev_back t t_in) in
          ap new.next (s.prev_other a l nc np) ∙ s.next_other (w.prev a) (tied.prev_in a l) other_c other_p
          ∙ tied.prev_back a l)
          (cc) (cc)
          a (omega (arith, s.darts));
      reverse_dart_in = λ a l. by_place n e t P_reverse_dart
          (omega (arith, s.reverse_dart_e, s.darts)) (omega (arith, s.reverse_dart_reverse_dart, s.darts))
          (λ a l nc np. omega (arith, s.reverse_dart_other a l nc np, tied.reverse_dart_in a l, s.darts))
          (omega (arith, s.reverse_dart_first, s.darts, t_in)) (omega (arith, s.reverse_dart_second, s.darts))
          a (omega (arith, s.darts));
      reverse_dart_back = λ a l. by_place n e t P_reverse_dart_back
          (cc) (cc)
          (λ a l nc np.
          let other_e : w.reverse_dart a ≢ e = λ h. np (sym (tied.reverse_dart_back a l) ∙ ap w.reverse_dart h) in
          let other_t : w.reverse_dart a ≢ t = λ h. nc (sym (tied.reverse_dart_back a l) ∙ ap w.reverse_dart h ∙ tied.reverse_dart_back e e_in) in
          ap new.reverse_dart (s.reverse_dart_other a l nc np) ∙ s.reverse_dart_other (w.reverse_dart a) (tied.reverse_dart_in a l) other_e other_t
          ∙ tied.reverse_dart_back a l)
          (cc) (cc)
          a (omega (arith, s.darts));
      reverse_dart_apart = λ a l. by_place n e t P_apart
          (λ h. omega (arith, s.reverse_dart_e, h)) (λ h. omega (arith, s.reverse_dart_reverse_dart, h, t_in))
          (λ a l nc np h. tied.reverse_dart_apart a l (sym (s.reverse_dart_other a l nc np) ∙ h))
          (λ h. omega (arith, s.reverse_dart_first, h, t_in)) (λ h. omega (arith, s.reverse_dart_second, h))
          a (omega (arith, s.darts));
    }

-- what a dart gives to the sum of angles at u
abbrev pub part : (ℕ → ℕ) → (ℕ → ℕ) → ℕ → ℕ → ℕ
part head angle u a = if head a == u then angle a else 0

pub part_here : (head angle : ℕ → ℕ) (u a : ℕ) → head a ≡ u → part head angle u a ≡ angle a
part_here head angle u a e = cond-true {A = ℕ} (eqb (head a) u) (angle a) 0 (eq-eqb (head a) u e)

pub part_elsewhere : (head angle : ℕ → ℕ) (u a : ℕ) → head a ≢ u → part head angle u a ≡ 0
part_elsewhere head angle u a e = cond-false {A = ℕ} (eqb (head a) u) (angle a) 0 (ne_eqb (head a) u e)

pub part_same : (head head' angle angle' : ℕ → ℕ) (u a : ℕ) → head' a ≡ head a → angle' a ≡ angle a →
    part head' angle' u a ≡ part head angle u a
part_same head head' angle angle' u a same_head same_angle =
    ap (λ (h : ℕ). if h == u then angle' a else 0) same_head ∙ ap (λ (g : ℕ). if head a == u then g else 0) same_angle

pub around_more : (w : DartMap) (u n : ℕ) → w.darts ≡ n + 2 →
    around w u ≡ sum_below n (part w.head w.angle u) + part w.head w.angle u n + part w.head w.angle u (n + 1)
around_more w u n e =
    let two : n + 2 ≡ (n + 1) + 1 = omega arith in
    ap (λ (k : ℕ). sum_below k (part w.head w.angle u)) (e ∙ two)
    ∙ sum_below-more (n + 1) (part w.head w.angle u)
    ∙ ap (λ (k : ℕ). k + part w.head w.angle u (n + 1)) (sum_below-more n (part w.head w.angle u))

-- what arrives next clockwise at an old dart's head is what arrived there before
pub split_arrives : (w : DartMap) (e way bend : ℕ) (new : DartMap) → IsTied w → e < w.darts → IsSubdivided w e way bend new →
    (a : ℕ) → a < w.darts → new.reverse_dart (new.next a) ≡ w.reverse_dart (w.next a)
split_arrives w e way bend new tied e_in s a l =
    let t_in : w.reverse_dart e < w.darts = tied.reverse_dart_in e e_in in
    elim (cases_eq a (w.prev e)) [
      | inl at ↦ ap (λ (k : ℕ). new.reverse_dart (new.next k)) at ∙ ap new.reverse_dart s.next_before ∙ s.reverse_dart_first
          ∙ sym (ap w.reverse_dart (ap w.next at ∙ tied.prev_back e e_in))
      | inr not_c ↦
          elim (cases_eq a (w.prev (w.reverse_dart e))) [
            | inl at ↦ ap (λ (k : ℕ). new.reverse_dart (new.next k)) at ∙ ap new.reverse_dart s.next_back ∙ s.reverse_dart_second
                ∙ sym (ap w.reverse_dart (ap w.next at ∙ tied.prev_back (w.reverse_dart e) t_in) ∙ tied.reverse_dart_back e e_in)
            | inr not_p ↦
                let other_e : w.next a ≢ e = λ h. not_c (sym (tied.next_back a l) ∙ ap w.prev h) in
                let other_t : w.next a ≢ w.reverse_dart e = λ h. not_p (sym (tied.next_back a l) ∙ ap w.prev h) in
                ap new.reverse_dart (s.next_other a l not_c not_p) ∙ s.reverse_dart_other (w.next a) (tied.next_in a l) other_e other_t
          ]
    ]

-- a fact at each of n + 2 darts: the old ones, and the two new ones
pub by_age : (n : ℕ) (P : ℕ → Type 0) → ((a : ℕ) → a < n → P a) → P n → P (n + 1) → (a : ℕ) → a < n + 2 → P a
by_age n P old first second a l =
    elim (cases_eq a n) [
      | inl e ↦ subst P (sym e) first
      | inr not_first ↦
          elim (cases_eq a (n + 1)) [
            | inl e ↦ subst P (sym e) second
            | inr not_second ↦ old a (omega arith)
          ]
    ]

pub split_whole : (w : DartMap) (e way bend : ℕ) (new : DartMap) → IsMeeting w → bend ≤ 4 → IsSubdivided w e way bend new →
    (u : ℕ) → u < new.vertices → around new u ≡ 4
split_whole w e way bend new meeting short s u l =
    let n : ℕ = w.darts in
    let more : around new u ≡ sum_below n (part new.head new.angle u) + part new.head new.angle u n + part new.head new.angle u (n + 1) =
    around_more new u n s.darts in
    elim (cases_eq u w.vertices) [
      | inl new_one ↦
          let none : sum_below n (part new.head new.angle u) ≡ 0 =
          sum_below-none n (part new.head new.angle u)
          (λ a l. part_elsewhere new.head new.angle u a (λ h. omega (arith, s.head_old a l, meeting.head_in a l, h, new_one))) in
          let first : part new.head new.angle u n ≡ new.angle n = part_here new.head new.angle u n (s.head_first ∙ sym new_one) in
          let second : part new.head new.angle u (n + 1) ≡ new.angle (n + 1) =
          part_here new.head new.angle u (n + 1) (s.head_second ∙ sym new_one) in
          omega (arith, more, none, first, second, s.angle_first, s.angle_second)
      | inr old ↦
          let same : sum_below n (part new.head new.angle u) ≡ around w u =
          sum_below-same n (part new.head new.angle u) (part w.head w.angle u)
          (λ a l. part_same w.head new.head w.angle new.angle u a (s.head_old a l) (s.angle_old a l)) in
          let first : part new.head new.angle u n ≡ 0 =
          part_elsewhere new.head new.angle u n (λ h. old (sym h ∙ s.head_first)) in
          let second : part new.head new.angle u (n + 1) ≡ 0 =
          part_elsewhere new.head new.angle u (n + 1) (λ h. old (sym h ∙ s.head_second)) in
          omega (arith, more, same, first, second, meeting.whole u (omega (arith, s.vertices)))
    ]

pub split_meeting : (w : DartMap) (e way bend : ℕ) (new : DartMap) → IsTied w → IsMeeting w → e < w.darts →
    way < 4 → 1 ≤ bend → bend < 4 → IsSubdivided w e way bend new → IsMeeting new
split_meeting w e way bend new tied meeting e_in quarter some most s =
    let n : ℕ = w.darts in
    let t_in : w.reverse_dart e < w.darts = tied.reverse_dart_in e e_in in
    let arrives = split_arrives w e way bend new tied e_in s in
    let arrives_first : new.reverse_dart (new.next n) ≡ n + 1 = ap new.reverse_dart s.next_first ∙ s.reverse_dart_e in
    let arrives_second : new.reverse_dart (new.next (n + 1)) ≡ n = ap new.reverse_dart s.next_second ∙ s.reverse_dart_reverse_dart in
    let inside : (a : ℕ) → a < w.darts → w.reverse_dart (w.next a) < w.darts =
    λ a l. tied.reverse_dart_in (w.next a) (tied.next_in a l) in
    record {
      head_in = λ a l. by_age n (λ a. new.head a < new.vertices)
          (λ a l. omega (arith, s.head_old a l, meeting.head_in a l, s.vertices))
          (omega (arith, s.head_first, s.vertices)) (omega (arith, s.head_second, s.vertices))
          a (omega (arith, s.darts));
      meets = λ a l. by_age n (λ a. new.head (new.reverse_dart (new.next a)) ≡ new.head a)
          (λ a l. ap new.head (arrives a l) ∙ s.head_old (w.reverse_dart (w.next a)) (inside a l) ∙ meeting.meets a l ∙ sym (s.head_old a l))
          (ap new.head arrives_first ∙ s.head_second ∙ sym s.head_first)
          (ap new.head arrives_second ∙ s.head_first ∙ sym s.head_second)
          a (omega (arith, s.darts));
      quarter = λ a l. by_age n (λ a. new.direction a < 4)
          (λ a l. omega (arith, s.direction_old a l, meeting.quarter a l))
          (omega (arith, s.direction_first)) (omega (arith, s.direction_second))
          a (omega (arith, s.darts));
      turns = λ a l. by_age n (λ a. (new.direction (new.reverse_dart (new.next a)) + new.angle a) % 4 ≡ new.direction a)
          (λ a l. omega (
            arith,
            ap new.direction (arrives a l) ∙ s.direction_old (w.reverse_dart (w.next a)) (inside a l),
            s.angle_old a l,
            meeting.turns a l,
            s.direction_old a l,
          ))
          (omega (arith, ap new.direction arrives_first ∙ s.direction_second, s.angle_first, s.direction_first))
          (omega (arith, ap new.direction arrives_second ∙ s.direction_first, s.angle_second, s.direction_second))
          a (omega (arith, s.darts));
      some = λ a l. by_age n (λ a. 1 ≤ new.angle a)
          (λ a l. omega (arith, s.angle_old a l, meeting.some a l))
          (omega (arith, s.angle_first)) (omega (arith, s.angle_second))
          a (omega (arith, s.darts));
      most = λ a l. by_age n (λ a. new.angle a ≤ 4)
          (λ a l. omega (arith, s.angle_old a l, meeting.most a l))
          (omega (arith, s.angle_first)) (omega (arith, s.angle_second))
          a (omega (arith, s.darts));
      whole = split_whole w e way bend new meeting (omega arith) s;
    }

-- a subdivision that does not turn keeps a straight edge straight
pub split_straight : (w : DartMap) (e : ℕ) (new : DartMap) → IsTied w → IsMeeting w → e < w.darts → IsStraight w →
    IsSubdivided w e (w.direction e) 2 new → IsStraight new
split_straight w e new tied meeting e_in straight s a l =
    let n : ℕ = w.darts in
    let t : ℕ = w.reverse_dart e in
    let t_in : t < w.darts = tied.reverse_dart_in e e_in in
    by_place n e t (λ a. new.direction (new.reverse_dart a) ≡ (new.direction a + 2) % 4)
    (omega (arith, ap new.direction s.reverse_dart_e ∙ s.direction_second, s.direction_old e e_in, meeting.quarter e e_in))
    (omega (arith, ap new.direction s.reverse_dart_reverse_dart ∙ s.direction_first, s.direction_old t t_in, straight e e_in, meeting.quarter e e_in))
    (λ a l nc np. omega (
      arith,
      ap new.direction (s.reverse_dart_other a l nc np) ∙ s.direction_old (w.reverse_dart a) (tied.reverse_dart_in a l),
      s.direction_old a l,
      straight a l,
    ))
    (omega (arith, ap new.direction s.reverse_dart_first ∙ s.direction_old t t_in, s.direction_first, straight e e_in))
    (omega (arith, ap new.direction s.reverse_dart_second ∙ s.direction_old e e_in, s.direction_second, meeting.quarter e e_in))
    a (omega (arith, s.darts))
