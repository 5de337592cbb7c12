-- Why the cutting of a face at each right turn followed by two left turns ends with four left turns.
use Rattle.std.proofs.Common.{◌≡◌, ◌⊎◌, ℕ, ◌+◌, ◌*◌, ◌<◌, ◌≤◌, List, [], ◌∷◌, length, arith, subst, refl, inl, inr}
use Rattle.std.proofs.lemmas.Bool.{cases_eq, cases_lt}
use Rattle.dissect.specs.Turning.{total, Rising, Hopeful, HasNoHook, AreCornerAngles, AreLefts}

-- a corner turns left or right
pub left_or_right : (x : ℕ) → 1 ≤ x → x ≤ 4 → (x ≡ 2 → ⊥) → (x ≡ 1) ⊎ (2 < x)
left_or_right x some most turns =
    elim (cases_lt 2 x) [ inl right ↦ inr right | inr low ↦ inl (pick x some turns low) ]
  where
    pick : (x : ℕ) → 1 ≤ x → (x ≡ 2 → ⊥) → x ≤ 2 → x ≡ 1
    pick x some turns low = elim (cases_eq x 2) [ inl two ↦ absurd (turns two) | inr other ↦ omega arith ]

-- with nothing unread, a stack whose rights are made good for and hardly covered has only lefts
pub all_left : (lefts : ℕ) (st : List ℕ) → AreCornerAngles st → Hopeful lefts lefts st → HasNoHook lefts st → AreLefts st
all_left lefts [] turns hopeful hookless = tt
all_left lefts (x ∷ st) turns hopeful hookless =
    elim (left_or_right x turns.0 turns.1 turns.2) [
      | inl left ↦ (
        left,
        all_left (lefts + 1) st turns.3
            (subst (λ (k : ℕ). Hopeful (lefts + k) (lefts + 1) st) left hopeful.1) (hookless.1 left),
      )
      | inr right ↦ absurd (omega (arith, hopeful.0 right, (hookless.0 right).0, right))
    ]

pub lefts_total : (st : List ℕ) → AreLefts st → total st ≡ length st
lefts_total [] lefts = refl
lefts_total (x ∷ st) lefts = omega (arith, lefts.0, lefts_total st lefts.1)

-- lefts alone that turn once round are four
pub four_lefts : (st : List ℕ) → AreLefts st → total st + 4 ≡ 2 * length st → length st ≡ 4
four_lefts st lefts whole = omega (arith, lefts_total st lefts, whole)

-- only the turns above matter
pub hopeful_shift : (sum count sum' count' : ℕ) (st : List ℕ) → sum + 2 * count' ≡ sum' + 2 * count →
    Hopeful sum count st → Hopeful sum' count' st
hopeful_shift sum count sum' count' [] same hopeful = tt
hopeful_shift sum count sum' count' (x ∷ st) same hopeful = (
  λ right. omega (arith, hopeful.0 right, same),
  hopeful_shift (sum + x) (count + 1) (sum' + x) (count' + 1) st (omega (arith, same)) hopeful.1,
)

-- two lefts above a hookless list cover no right, so a third does no harm
pub hookless_more : (lefts : ℕ) (st : List ℕ) → 2 ≤ lefts → AreCornerAngles st → HasNoHook lefts st → HasNoHook (lefts + 1) st
hookless_more lefts [] two turns hookless = tt
hookless_more lefts (x ∷ st) two turns hookless = (
  λ right. absurd (omega (arith, (hookless.0 right).0, two)),
  λ left. hookless_more (lefts + 1) st (omega (arith, two)) turns.3 (hookless.1 left),
)

-- a right on a hookless stack leaves it hookless
pub hookless_right : (x : ℕ) (st : List ℕ) → 2 < x → HasNoHook 0 st → HasNoHook 0 (x ∷ st)
hookless_right x st right hookless = (λ _. (omega arith, hookless), λ left. absurd (omega (arith, left, right)))

-- and so does a left, unless a left on a right is below it
pub hookless_left : (x : ℕ) (st : List ℕ) → x ≡ 1 → AreCornerAngles st → HasNoHook 0 st →
    ((y z : ℕ) (rest : List ℕ) → st ≡ y ∷ z ∷ rest → y ≡ 1 → 2 < z → ⊥) → HasNoHook 0 (x ∷ st)
hookless_left x [] left turns hookless no_hook = (λ right. absurd (omega (arith, left, right)), λ _. tt)
hookless_left x (y ∷ []) left turns hookless no_hook =
    (λ right. absurd (omega (arith, left, right)), λ _. (λ right. (omega arith, tt), λ _. tt))
hookless_left x (y ∷ z ∷ rest) left turns hookless no_hook = (
  λ right. absurd (omega (arith, left, right)),
  λ _. (
    λ right. (omega arith, (hookless.0 right).1),
    λ left_y. (
      λ right_z. absurd (no_hook y z rest refl left_y right_z),
      λ left_z. hookless_more 2 rest (omega arith) turns.3.3 ((hookless.1 left_y).1 left_z),
    ),
  ),
)

-- reading one more corner changes nothing
pub hopeful_reads : (x : ℕ) (unread st : List ℕ) → Hopeful (total (x ∷ unread)) (length (x ∷ unread)) st →
    Rising (x ∷ unread) → Hopeful (total unread) (length unread) (x ∷ st)
hopeful_reads x unread st hopeful rising = (
  λ right. omega (arith, rising.0 right),
  hopeful_shift (x + total unread) (length unread + 1) (total unread + x) (length unread + 1) st (omega arith)
      (subst (λ (k : ℕ). Hopeful (x + total unread) k st) (omega arith) hopeful),
)

-- a cut of a right that becomes straight
pub hopeful_cut_straight : (sum count d : ℕ) (st : List ℕ) → d ≡ 3 → Hopeful sum count (1 ∷ 1 ∷ d ∷ st) →
    Hopeful sum count (1 ∷ st)
hopeful_cut_straight sum count d st right hopeful = (
  λ two. absurd (omega (arith, two)),
  hopeful_shift (sum + 1 + 1 + d) (count + 1 + 1 + 1) (sum + 1) (count + 1) st (omega (arith, right)) hopeful.1.1.1,
)

-- a cut of two rights that become one
pub hopeful_cut_turning : (sum count d e : ℕ) (st : List ℕ) → d ≡ 4 → e ≡ 3 → Hopeful sum count (1 ∷ 1 ∷ d ∷ st) →
    Hopeful sum count (1 ∷ e ∷ st)
hopeful_cut_turning sum count d e st two one hopeful = (
  λ h. absurd (omega (arith, h)),
  (
    λ right. omega (arith, hopeful.1.1.0 (omega (arith, two)), two, one),
    hopeful_shift (sum + 1 + 1 + d) (count + 1 + 1 + 1) (sum + 1 + e) (count + 1 + 1) st (omega (arith, two, one)) hopeful.1.1.1,
  ),
)
