-- Tests and steps on signed numbers, as the code makes them.
use Rattle.std.proofs.Common.{◌≡◌, ◌⊎◌, true, false, refl, sym, ◌∙◌, ap, subst, arith}
use Rattle.std.specs.Prelude.{ℤ, ◌+ℤ◌, ◌-ℤ◌, ◌≤ℤ◌, ◌<ℤ◌}
use Rattle.std.proofs.lemmas.Int.{ints, clamps, to_z-of_z}
use lib.Signed.{lt_z}
use Rattle.std.specs.Int.{int_min}
use mir.Syntax.{w16, w32}
use mir.Val.{SFits, of_z, to_z}
use Rattle.min_cost_flow.specs.Search.{IsArcCost, IsWithinFar}

pub plain_lt : (a b : ℤ) → lt_z a b ≡ true → a <ℤ b
plain_lt a b h = grind (arith, ints)

pub plain_ge : (a b : ℤ) → lt_z a b ≡ false → b ≤ℤ a
plain_ge a b h = grind (arith, ints)

-- what is within the range of a label fits
pub fits_within : (z : ℤ) → IsWithinFar z → SFits w32 z
fits_within z (a, b) = grind (arith, ints)

pub label_fits : (z : ℤ) → IsWithinFar z → SFits w16 z
label_fits z (a, b) = grind (arith, ints)

pub is_less : (z k : ℤ) → SFits w32 z → lt_z (to_z w32 (of_z w32 z)) k ≡ true → z <ℤ k
is_less z k f h = plain_lt z k (subst (λ (t : ℤ). lt_z t k ≡ true) (to_z-of_z w32 z f) h)

-- the same of labels
pub label_under : (z a k : ℤ) → to_z w16 (of_z w16 z) ≡ a → SFits w16 k → lt_z (to_z w16 (of_z w16 z)) (to_z w16 (of_z w16 k)) ≡ true → a <ℤ k
label_under z a k e g h = plain_lt a k (rw (e, to_z-of_z w16 k g) at h)

pub label_over : (z a k : ℤ) → to_z w16 (of_z w16 z) ≡ a → SFits w16 k → lt_z (to_z w16 (of_z w16 z)) (to_z w16 (of_z w16 k)) ≡ false → k ≤ℤ a
label_over z a k e g h = plain_ge a k (rw (e, to_z-of_z w16 k g) at h)

pub label_passed : (a b z : ℤ) → SFits w16 z → (a ≤ℤ z) × (z ≤ℤ b) → (a ≤ℤ to_z w16 (of_z w16 z)) × (to_z w16 (of_z w16 z) ≤ℤ b)
label_passed a b z f h = subst (λ (t : ℤ). (a ≤ℤ t) × (t ≤ℤ b)) (sym (to_z-of_z w16 z f)) h

-- a number passed is the number
pub passed_within : (a b z : ℤ) → SFits w32 z → (a ≤ℤ z) × (z ≤ℤ b) → (a ≤ℤ to_z w32 (of_z w32 z)) × (to_z w32 (of_z w32 z) ≤ℤ b)
passed_within a b z f h = subst (λ (t : ℤ). (a ≤ℤ t) × (t ≤ℤ b)) (sym (to_z-of_z w32 z f)) h

pub difference_is : (r a b : ℤ) → SFits w16 a → SFits w32 b → r ≡ to_z w16 (of_z w16 a) -ℤ to_z w32 (of_z w32 b) → r ≡ a -ℤ b
difference_is r a b f g h = rw (to_z-of_z w16 a f, to_z-of_z w32 b g) at h

pub same_from_bits : (a b : ℤ) → SFits w32 a → SFits w32 b → of_z w32 a ≡ of_z w32 b → a ≡ b
same_from_bits a b f g h = sym (to_z-of_z w32 a f) ∙ ap (to_z w32) h ∙ to_z-of_z w32 b g

pub passed_is : (a z : ℤ) → SFits w32 z → a ≡ to_z w32 (of_z w32 z) → a ≡ z
passed_is a z f h = h ∙ to_z-of_z w32 z f

pub passed_under : (a z : ℤ) → SFits w32 z → a ≤ℤ to_z w32 (of_z w32 z) → a ≤ℤ z
passed_under a z f h = subst (λ (t : ℤ). a ≤ℤ t) (to_z-of_z w32 z f) h

-- a label, and the cost of a residual arc added to it, as they are computed
abbrev pub added : ℤ → ℤ → ℤ
added q k = to_z w16 (of_z w16 q) +ℤ to_z w16 (of_z w16 k)

cost_fits : (k : ℤ) → IsArcCost k → SFits w16 k
cost_fits k h = grind (arith, ints)

sum_fits : (q k : ℤ) → IsWithinFar q → IsArcCost k → SFits w16 (q +ℤ k)
sum_fits q k (a, b) h = grind (arith, ints)

pub added_fits : (q k : ℤ) → IsWithinFar q → IsArcCost k → SFits w16 (added q k)
added_fits q k a b = rw (to_z-of_z w16 q (label_fits q a), to_z-of_z w16 k (cost_fits k b)) (sum_fits q k a b)

pub added_is : (q k : ℤ) → IsWithinFar q → IsArcCost k → to_z w16 (of_z w16 (added q k)) ≡ q +ℤ k
added_is q k a b = to_z-of_z w16 (added q k) (added_fits q k a b) ∙ (rw (to_z-of_z w16 q (label_fits q a), to_z-of_z w16 k (cost_fits k b)) refl)

-- the lesser of two numbers is one of them
pub lesser_either : (r a b : ℤ) → r ≡ int_min a b → (r ≡ a) ⊎ (r ≡ b)
lesser_either r a b h = grind (arith, ints, clamps)
