-- A rectangle beside a sound map leaves it sound.
use Rattle.std.proofs.Common.{◌≡◌, ◌≢◌, ℕ, ◌+◌, ◌-◌, ◌%◌, ◌<◌, ◌≤◌, ◌∙◌, Bool, cond, eqb, arith, subst, sym, ap, inl, inr}
use Rattle.std.proofs.lemmas.Bool.{cases_eq, cases_lt, eq-eqb, ne_eqb}
use Rattle.common.specs.Sums.{sum_below}
use Rattle.common.proofs.Sums.{sum_below-split, sum_below-same, sum_below-none}
use Rattle.dissect.specs.DartMaps.{DartMap, IsTied, IsMeeting, IsStraight, IsSound, around, reflex_turns}
use Rattle.dissect.specs.Surrounds.{IsSurrounded}
use Rattle.dissect.proofs.Splitting.{part, part_here, part_elsewhere, part_same}
use Rattle.dissect.proofs.SurroundWriting.{by_four}

-- each dart is an old one, or on the rectangle's inside, or on its outside
pub by_side : (n : ℕ) (P : ℕ → Type 0) → ((a : ℕ) → a < n → P a) → ((k : ℕ) → k < 4 → P (n + k)) →
    ((k : ℕ) → k < 4 → P (n + 4 + k)) → (a : ℕ) → a < n + 8 → P a
by_side n P old inner outer a l =
    elim (cases_lt a n) [
      | inl less ↦ old a less
      | inr more ↦ elim (cases_lt a (n + 4)) [
        | inl less ↦ let e : n + (a - n) ≡ a = omega arith in subst P e (inner (a - n) (omega arith))
        | inr far ↦ let e : n + 4 + (a - (n + 4)) ≡ a = omega arith in subst P e (outer (a - (n + 4)) (omega arith))
      ]
    ]

pub surround_tied : (w new : DartMap) → IsSurrounded w new → IsTied w → IsTied new
surround_tied w new s tied =
    let n : ℕ = w.darts in
    let all : (P : ℕ → Type 0) → ((a : ℕ) → a < n → P a) → ((k : ℕ) → k < 4 → P (n + k)) → ((k : ℕ) → k < 4 → P (n + 4 + k)) →
    (a : ℕ) → a < new.darts → P a =
    λ P old inner outer a l. by_side n P old inner outer a (omega (arith, s.darts, l)) in
    record {
      next_in = all (λ a. new.next a < new.darts)
          (λ a l. omega (arith, s.darts, s.next_old a l, tied.next_in a l))
          (λ k l. omega (arith, s.darts, s.next_inside k l))
          (λ k l. omega (arith, s.darts, s.next_outside k l));
      prev_in = all (λ a. new.prev a < new.darts)
          (λ a l. omega (arith, s.darts, s.prev_old a l, tied.prev_in a l))
          (λ k l. omega (arith, s.darts, s.prev_inside k l))
          (λ k l. omega (arith, s.darts, s.prev_outside k l));
      next_back = all (λ a. new.prev (new.next a) ≡ a)
          (λ a l. ap new.prev (s.next_old a l) ∙ s.prev_old (w.next a) (tied.next_in a l) ∙ tied.next_back a l)
          (λ k l. let e : n + ((k + 1) % 4 + 3) % 4 ≡ n + k = omega arith in
          ap new.prev (s.next_inside k l) ∙ s.prev_inside ((k + 1) % 4) (omega arith) ∙ e)
          (λ k l. let e : n + 4 + ((k + 3) % 4 + 1) % 4 ≡ n + 4 + k = omega arith in
          ap new.prev (s.next_outside k l) ∙ s.prev_outside ((k + 3) % 4) (omega arith) ∙ e);
      prev_back = all (λ a. new.next (new.prev a) ≡ a)
          (λ a l. ap new.next (s.prev_old a l) ∙ s.next_old (w.prev a) (tied.prev_in a l) ∙ tied.prev_back a l)
          (λ k l. let e : n + ((k + 3) % 4 + 1) % 4 ≡ n + k = omega arith in
          ap new.next (s.prev_inside k l) ∙ s.next_inside ((k + 3) % 4) (omega arith) ∙ e)
          (λ k l. let e : n + 4 + ((k + 1) % 4 + 3) % 4 ≡ n + 4 + k = omega arith in
          ap new.next (s.prev_outside k l) ∙ s.next_outside ((k + 1) % 4) (omega arith) ∙ e);
      reverse_dart_in = all (λ a. new.reverse_dart a < new.darts)
          (λ a l. omega (arith, s.darts, s.reverse_dart_old a l, tied.reverse_dart_in a l))
          (λ k l. omega (arith, s.darts, s.reverse_dart_inside k l))
          (λ k l. omega (arith, s.darts, s.reverse_dart_outside k l));
      reverse_dart_back = all (λ a. new.reverse_dart (new.reverse_dart a) ≡ a)
          (λ a l. ap new.reverse_dart (s.reverse_dart_old a l) ∙ s.reverse_dart_old (w.reverse_dart a) (tied.reverse_dart_in a l) ∙ tied.reverse_dart_back a l)
          (λ k l. ap new.reverse_dart (s.reverse_dart_inside k l) ∙ s.reverse_dart_outside k l)
          (λ k l. ap new.reverse_dart (s.reverse_dart_outside k l) ∙ s.reverse_dart_inside k l);
      reverse_dart_apart = all (λ a. new.reverse_dart a ≢ a)
          (λ a l h. tied.reverse_dart_apart a l (sym (s.reverse_dart_old a l) ∙ h))
          (λ k l h. omega (arith, s.reverse_dart_inside k l, h))
          (λ k l h. omega (arith, s.reverse_dart_outside k l, h));
    }

-- the angles at a vertex are those of the old darts and of the rectangle's
surround_around : (w new : DartMap) → IsSurrounded w new → (u : ℕ) →
    around new u ≡ sum_below w.darts (part new.head new.angle u) + sum_below 8 (λ i. part new.head new.angle u (w.darts + i))
surround_around w new s u =
    ap (λ (k : ℕ). sum_below k (part new.head new.angle u)) s.darts ∙ sum_below-split w.darts 8 (part new.head new.angle u)

-- the rectangle's darts arrive at its own vertices
corner_sum : (w new : DartMap) → IsSurrounded w new → (k : ℕ) → k < 4 →
    sum_below 8 (λ i. part new.head new.angle (w.vertices + k) (w.darts + i)) ≡ 4
corner_sum w new s k l =
    by_four (λ k. sum_below 8 (λ i. part new.head new.angle (w.vertices + k) (w.darts + i)) ≡ 4)
    (omega (arith, inner 0 0 (omega arith), inner 0 1 (omega arith), inner 0 2 (omega arith), inner 0 3 (omega arith), outer 0 0 (omega arith), outer 0 1 (omega arith), outer 0 2 (omega arith), outer 0 3 (omega arith)))
    (omega (arith, inner 1 0 (omega arith), inner 1 1 (omega arith), inner 1 2 (omega arith), inner 1 3 (omega arith), outer 1 0 (omega arith), outer 1 1 (omega arith), outer 1 2 (omega arith), outer 1 3 (omega arith)))
    (omega (arith, inner 2 0 (omega arith), inner 2 1 (omega arith), inner 2 2 (omega arith), inner 2 3 (omega arith), outer 2 0 (omega arith), outer 2 1 (omega arith), outer 2 2 (omega arith), outer 2 3 (omega arith)))
    (omega (arith, inner 3 0 (omega arith), inner 3 1 (omega arith), inner 3 2 (omega arith), inner 3 3 (omega arith), outer 3 0 (omega arith), outer 3 1 (omega arith), outer 3 2 (omega arith), outer 3 3 (omega arith)))
    k l
  where
    inner : (k i : ℕ) → i < 4 → part new.head new.angle (w.vertices + k) (w.darts + i) ≡ cond (eqb i k) 1 0
    inner k i l =
        elim (cases_eq i k) [
          | inl e ↦ part_here new.head new.angle (w.vertices + k) (w.darts + i) (omega (arith, s.head_inside i l, e)) ∙ s.angle_inside i l
              ∙ ap (λ (b : Bool). cond b 1 0) (sym (eq-eqb i k e))
          | inr ne ↦ part_elsewhere new.head new.angle (w.vertices + k) (w.darts + i) (λ h. ne (omega (arith, h, s.head_inside i l)))
              ∙ ap (λ (b : Bool). cond b 1 0) (sym (ne_eqb i k ne))
        ]

    outer : (k i : ℕ) → i < 4 → part new.head new.angle (w.vertices + k) (w.darts + (4 + i)) ≡ cond (eqb ((i + 3) % 4) k) 3 0
    outer k i l =
        let place : w.darts + (4 + i) ≡ w.darts + 4 + i = omega arith in
        let head : new.head (w.darts + (4 + i)) ≡ w.vertices + (i + 3) % 4 = ap new.head place ∙ s.head_outside i l in
        let angle : new.angle (w.darts + (4 + i)) ≡ 3 = ap new.angle place ∙ s.angle_outside i l in
        elim (cases_eq ((i + 3) % 4) k) [
          | inl e ↦ part_here new.head new.angle (w.vertices + k) (w.darts + (4 + i)) (omega (arith, head, e)) ∙ angle
              ∙ ap (λ (b : Bool). cond b 3 0) (sym (eq-eqb ((i + 3) % 4) k e))
          | inr ne ↦ part_elsewhere new.head new.angle (w.vertices + k) (w.darts + (4 + i)) (λ h. ne (omega (arith, h, head)))
              ∙ ap (λ (b : Bool). cond b 3 0) (sym (ne_eqb ((i + 3) % 4) k ne))
        ]

surround_whole : (w new : DartMap) → IsSurrounded w new → IsMeeting w → (u : ℕ) → u < new.vertices → around new u ≡ 4
surround_whole w new s m u l =
    elim (cases_lt u w.vertices) [
      | inl old ↦
          let same : sum_below w.darts (part new.head new.angle u) ≡ around w u =
          sum_below-same w.darts (part new.head new.angle u) (part w.head w.angle u)
          (λ a l. part_same w.head new.head w.angle new.angle u a (s.head_old a l) (s.angle_old a l)) in
          let none : sum_below 8 (λ i. part new.head new.angle u (w.darts + i)) ≡ 0 =
          sum_below-none 8 (λ i. part new.head new.angle u (w.darts + i)) (λ i l. away w new s u old i l) in
          omega (arith, surround_around w new s u, same, none, m.whole u old)
      | inr added ↦
          let k : ℕ = u - w.vertices in
          let e : w.vertices + k ≡ u = omega arith in
          let none : sum_below w.darts (part new.head new.angle u) ≡ 0 =
          sum_below-none w.darts (part new.head new.angle u)
          (λ a l. part_elsewhere new.head new.angle u a (λ h. omega (arith, h, s.head_old a l, m.head_in a l))) in
          let here : sum_below 8 (λ i. part new.head new.angle u (w.darts + i)) ≡ 4 =
          subst (λ (z : ℕ). sum_below 8 (λ i. part new.head new.angle z (w.darts + i)) ≡ 4) e
          (corner_sum w new s k (omega (arith, s.vertices))) in
          omega (arith, surround_around w new s u, none, here)
    ]
  where
    away : (w new : DartMap) → IsSurrounded w new → (u : ℕ) → u < w.vertices → (i : ℕ) → i < 8 → part new.head new.angle u (w.darts + i) ≡ 0
    away w new s u old i l =
        part_elsewhere new.head new.angle u (w.darts + i)
        (elim (cases_lt i 4) [
          | inl inner ↦ λ h. omega (arith, h, s.head_inside i inner)
          | inr outer ↦
              let e : w.darts + i ≡ w.darts + 4 + (i - 4) = omega arith in
              λ h. omega (arith, h, ap new.head e, s.head_outside (i - 4) (omega arith))
        ])

pub surround_meeting : (w new : DartMap) → IsSurrounded w new → IsTied w → IsMeeting w → IsMeeting new
surround_meeting w new s tied m =
    let n : ℕ = w.darts in
    let all : (P : ℕ → Type 0) → ((a : ℕ) → a < n → P a) → ((k : ℕ) → k < 4 → P (n + k)) → ((k : ℕ) → k < 4 → P (n + 4 + k)) →
    (a : ℕ) → a < new.darts → P a =
    λ P old inner outer a l. by_side n P old inner outer a (omega (arith, s.darts, l)) in
    -- the dart that arrives next clockwise
    let clockwise_old : (a : ℕ) → a < n → new.reverse_dart (new.next a) ≡ w.reverse_dart (w.next a) =
    λ a l. ap new.reverse_dart (s.next_old a l) ∙ s.reverse_dart_old (w.next a) (tied.next_in a l) in
    let clockwise_inner : (k : ℕ) → k < 4 → new.reverse_dart (new.next (n + k)) ≡ n + 4 + (k + 1) % 4 =
    λ k l. ap new.reverse_dart (s.next_inside k l) ∙ s.reverse_dart_inside ((k + 1) % 4) (omega arith) in
    let clockwise_outer : (k : ℕ) → k < 4 → new.reverse_dart (new.next (n + 4 + k)) ≡ n + (k + 3) % 4 =
    λ k l. ap new.reverse_dart (s.next_outside k l) ∙ s.reverse_dart_outside ((k + 3) % 4) (omega arith) in
    record {
      head_in = all (λ a. new.head a < new.vertices)
          (λ a l. omega (arith, s.vertices, s.head_old a l, m.head_in a l))
          (λ k l. omega (arith, s.vertices, s.head_inside k l))
          (λ k l. omega (arith, s.vertices, s.head_outside k l));
      meets = all (λ a. new.head (new.reverse_dart (new.next a)) ≡ new.head a)
          (λ a l. ap new.head (clockwise_old a l) ∙ s.head_old (w.reverse_dart (w.next a)) (tied.reverse_dart_in (w.next a) (tied.next_in a l))
          ∙ m.meets a l ∙ sym (s.head_old a l))
          (λ k l. omega (arith, ap new.head (clockwise_inner k l), s.head_outside ((k + 1) % 4) (omega arith), s.head_inside k l))
          (λ k l. omega (arith, ap new.head (clockwise_outer k l), s.head_inside ((k + 3) % 4) (omega arith), s.head_outside k l));
      quarter = all (λ a. new.direction a < 4)
          (λ a l. omega (arith, s.direction_old a l, m.quarter a l))
          (λ k l. omega (arith, s.direction_inside k l))
          (λ k l. omega (arith, s.direction_outside k l));
      turns = all (λ a. (new.direction (new.reverse_dart (new.next a)) + new.angle a) % 4 ≡ new.direction a)
          (λ a l. omega (
            arith,
            ap new.direction (clockwise_old a l),
            s.direction_old (w.reverse_dart (w.next a)) (tied.reverse_dart_in (w.next a) (tied.next_in a l)),
            s.angle_old a l,
            s.direction_old a l,
            m.turns a l,
          ))
          (λ k l. omega (arith, ap new.direction (clockwise_inner k l), s.direction_outside ((k + 1) % 4) (omega arith), s.angle_inside k l, s.direction_inside k l))
          (λ k l. omega (arith, ap new.direction (clockwise_outer k l), s.direction_inside ((k + 3) % 4) (omega arith), s.angle_outside k l, s.direction_outside k l));
      some = all (λ a. 1 ≤ new.angle a)
          (λ a l. omega (arith, s.angle_old a l, m.some a l))
          (λ k l. omega (arith, s.angle_inside k l))
          (λ k l. omega (arith, s.angle_outside k l));
      most = all (λ a. new.angle a ≤ 4)
          (λ a l. omega (arith, s.angle_old a l, m.most a l))
          (λ k l. omega (arith, s.angle_inside k l))
          (λ k l. omega (arith, s.angle_outside k l));
      whole = surround_whole w new s m;
    }

pub surround_straight : (w new : DartMap) → IsSurrounded w new → IsTied w → IsStraight w → IsStraight new
surround_straight w new s tied straight = λ a l.
    by_side w.darts (λ a. new.direction (new.reverse_dart a) ≡ (new.direction a + 2) % 4)
    (λ a l. omega (
      arith,
      ap new.direction (s.reverse_dart_old a l),
      s.direction_old (w.reverse_dart a) (tied.reverse_dart_in a l),
      s.direction_old a l,
      straight a l,
    ))
    (λ k l. omega (arith, ap new.direction (s.reverse_dart_inside k l), s.direction_outside k l, s.direction_inside k l))
    (λ k l. omega (arith, ap new.direction (s.reverse_dart_outside k l), s.direction_outside k l, s.direction_inside k l))
    a (omega (arith, s.darts, l))

pub surround_sound : (w new : DartMap) → IsSurrounded w new → IsSound w → IsSound new
surround_sound w new s sound = record {
  tied = surround_tied w new s sound.tied;
  meeting = surround_meeting w new s sound.tied sound.meeting;
  straight = surround_straight w new s sound.tied sound.straight;
}

-- the rectangle brings four right turns, on its outside
pub surround_reflex_turns : (w new : DartMap) → IsSurrounded w new → reflex_turns new ≡ reflex_turns w + 4
surround_reflex_turns w new s =
    let n : ℕ = w.darts in
    let all = ap (λ (k : ℕ). sum_below k (λ a. new.angle a - 2)) s.darts ∙ sum_below-split n 8 (λ a. new.angle a - 2) in
    let same : sum_below n (λ a. new.angle a - 2) ≡ reflex_turns w =
    sum_below-same n (λ a. new.angle a - 2) (λ a. w.angle a - 2) (λ a l. ap (λ (k : ℕ). k - 2) (s.angle_old a l)) in
    omega (
      arith,
      all,
      same,
      s.angle_inside 0 (omega arith),
      s.angle_inside 1 (omega arith),
      s.angle_inside 2 (omega arith),
      s.angle_inside 3 (omega arith),
      at 0 (omega arith),
      at 1 (omega arith),
      at 2 (omega arith),
      at 3 (omega arith),
    )
  where
    at : (k : ℕ) → k < 4 → new.angle (w.darts + (4 + k)) ≡ 3
    at k l = let e : w.darts + (4 + k) ≡ w.darts + 4 + k = omega arith in ap new.angle e ∙ s.angle_outside k l
