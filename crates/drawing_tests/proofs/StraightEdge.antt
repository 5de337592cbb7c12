-- A map of one straight edge, as the tests make it.
use Rattle.std.proofs.Common.{◌≡◌, ◌≢◌, ℕ, ◌+◌, ◌%◌, ◌<◌, ◌≤◌, ◌∙◌, true, List, get_or, arith, subst, sym, ap, refl, inl, inr}
use Rattle.std.proofs.lemmas.Bool.{cases_eq}
use Rattle.dissect.specs.DartMaps.{DartMap, IsTied, IsMeeting, IsSound, around, reflex_turns}
use Rattle.dissect.specs.FaceNumbers.{HasTurns}
use Rattle.dissect.proofs.Making.{dart_map_from}

-- what holds of 0 and 1 holds of each number below 2
by_two : (P : ℕ → Type 0) → P 0 → P 1 → (k : ℕ) → k < 2 → P k
by_two P p0 p1 k l =
    elim (cases_eq k 0) [
      | inl e ↦ subst P (sym e) p0
      | inr n0 ↦ let e : k ≡ 1 = omega arith in subst P (sym e) p1
    ]

-- the lists' first two numbers
pub record IsEdge (N P T H D A : List ℕ) : Type 0 where
  pub next_0 : get_or N 0 0 ≡ 1
  pub next_1 : get_or N 1 0 ≡ 0
  pub prev_0 : get_or P 0 0 ≡ 1
  pub prev_1 : get_or P 1 0 ≡ 0
  pub reverse_dart_0 : get_or T 0 0 ≡ 1
  pub reverse_dart_1 : get_or T 1 0 ≡ 0
  pub head_0 : get_or H 0 0 ≡ 1
  pub head_1 : get_or H 1 0 ≡ 0
  pub direction_0 : get_or D 0 0 ≡ 0
  pub direction_1 : get_or D 1 0 ≡ 2
  pub angle_0 : get_or A 0 0 ≡ 4
  pub angle_1 : get_or A 1 0 ≡ 4

pub edge_sound : (N P T H D A B : List ℕ) → IsEdge N P T H D A → IsSound (dart_map_from 2 2 N P T H D A B)
edge_sound N P T H D A B e =
    let w : DartMap = dart_map_from 2 2 N P T H D A B in
    let clockwise_0 : w.reverse_dart (w.next 0) ≡ 0 = ap w.reverse_dart e.next_0 ∙ e.reverse_dart_1 in
    let clockwise_1 : w.reverse_dart (w.next 1) ≡ 1 = ap w.reverse_dart e.next_1 ∙ e.reverse_dart_0 in
    let tied : IsTied w = record {
      next_in = by_two (λ a. w.next a < 2) (omega (arith, e.next_0)) (omega (arith, e.next_1));
      prev_in = by_two (λ a. w.prev a < 2) (omega (arith, e.prev_0)) (omega (arith, e.prev_1));
      next_back = by_two (λ a. w.prev (w.next a) ≡ a) (ap w.prev e.next_0 ∙ e.prev_1) (ap w.prev e.next_1 ∙ e.prev_0);
      prev_back = by_two (λ a. w.next (w.prev a) ≡ a) (ap w.next e.prev_0 ∙ e.next_1) (ap w.next e.prev_1 ∙ e.next_0);
      reverse_dart_in = by_two (λ a. w.reverse_dart a < 2) (omega (arith, e.reverse_dart_0)) (omega (arith, e.reverse_dart_1));
      reverse_dart_back = by_two (λ a. w.reverse_dart (w.reverse_dart a) ≡ a) (ap w.reverse_dart e.reverse_dart_0 ∙ e.reverse_dart_1) (ap w.reverse_dart e.reverse_dart_1 ∙ e.reverse_dart_0);
      reverse_dart_apart = by_two (λ a. w.reverse_dart a ≢ a) (λ h. omega (arith, h, e.reverse_dart_0)) (λ h. omega (arith, h, e.reverse_dart_1));
    } in
    let meeting : IsMeeting w = record {
      head_in = by_two (λ a. w.head a < 2) (omega (arith, e.head_0)) (omega (arith, e.head_1));
      meets = by_two (λ a. w.head (w.reverse_dart (w.next a)) ≡ w.head a) (ap w.head clockwise_0) (ap w.head clockwise_1);
      quarter = by_two (λ a. w.direction a < 4) (omega (arith, e.direction_0)) (omega (arith, e.direction_1));
      turns = by_two (λ a. (w.direction (w.reverse_dart (w.next a)) + w.angle a) % 4 ≡ w.direction a)
          (omega (arith, ap w.direction clockwise_0, e.angle_0, e.direction_0))
          (omega (arith, ap w.direction clockwise_1, e.angle_1, e.direction_1));
      some = by_two (λ a. 1 ≤ w.angle a) (omega (arith, e.angle_0)) (omega (arith, e.angle_1));
      most = by_two (λ a. w.angle a ≤ 4) (omega (arith, e.angle_0)) (omega (arith, e.angle_1));
      whole = by_two (λ u. around w u ≡ 4) (rw (e.head_0, e.head_1) (omega (arith, e.angle_1))) (rw (e.head_0, e.head_1) (omega (arith, e.angle_0)));
    } in
    record {
      tied = tied;
      meeting = meeting;
      straight = by_two (λ a. w.direction (w.reverse_dart a) ≡ (w.direction a + 2) % 4)
          (omega (arith, ap w.direction e.reverse_dart_0, e.direction_0, e.direction_1))
          (omega (arith, ap w.direction e.reverse_dart_1, e.direction_0, e.direction_1));
    }

pub edge_turns : (N P T H D A B : List ℕ) → IsEdge N P T H D A → HasTurns (dart_map_from 2 2 N P T H D A B) (λ _. 0) 0
edge_turns N P T H D A B e =
    let w : DartMap = dart_map_from 2 2 N P T H D A B in
    record {
      face_numbers = record {
        stays = λ a l. refl;
        least = λ s shut a b la lb same here.
            let other : s (w.next a) ≡ true = shut a la here in
            elim (cases_eq a b) [
              | inl same ↦ subst (λ (x : ℕ). s x ≡ true) same here
              | inr apart ↦ subst (λ (x : ℕ). s x ≡ true) (reach a b la lb apart) other
            ];
      };
      inner = λ a l ne. absurd (ne refl);
      outer_turns = omega (arith, e.angle_0, e.angle_1);
    }
  where
    reach : (a b : ℕ) → a < 2 → b < 2 → a ≢ b → get_or N a 0 ≡ b
    reach a b la lb apart =
        by_two (λ a. b < 2 → a ≢ b → get_or N a 0 ≡ b) (λ lb ne. omega (arith, e.next_0, ne, lb)) (λ lb ne. omega (arith, e.next_1, ne, lb)) a la lb apart

pub edge_reflex_turns : (N P T H D A B : List ℕ) → IsEdge N P T H D A → reflex_turns (dart_map_from 2 2 N P T H D A B) ≡ 4
edge_reflex_turns N P T H D A B e = omega (arith, e.angle_0, e.angle_1)
