-- Whether one signed number is more than another, as tests of the code say.
use Rattle.std.proofs.Common.{◌≡◌, Bool, true, false, refl, subst, arith}
use Rattle.std.specs.Prelude.{ℤ, ◌≤ℤ◌, ◌<ℤ◌}
use Rattle.std.proofs.lemmas.Int.{ints, to_z-of_z}
use lib.Signed.{lt_z}
use mathlib.Core.Bool.{not}
use mir.Syntax.{w32}
use mir.Val.{SFits, of_z, to_z}
use Rattle.min_cost_flow.proofs.Signs.{plain_lt, plain_ge}

pub lt_true : (a b : ℤ) → a <ℤ b → lt_z a b ≡ true
lt_true a b h = grind (arith, ints)

pub is_more : (z k : ℤ) → SFits w32 z → lt_z k (to_z w32 (of_z w32 z)) ≡ true → k <ℤ z
is_more z k f h = plain_lt k z (subst (λ (t : ℤ). lt_z k t ≡ true) (to_z-of_z w32 z f) h)

pub is_no_more : (z k : ℤ) → SFits w32 z → lt_z k (to_z w32 (of_z w32 z)) ≡ false → z ≤ℤ k
is_no_more z k f h = plain_ge k z (subst (λ (t : ℤ). lt_z k t ≡ false) (to_z-of_z w32 z f) h)

pub not_true : (b : Bool) → not b ≡ true → b ≡ false
not_true true h = cc
not_true false h = refl

pub not_false : (b : Bool) → not b ≡ false → b ≡ true
not_false true h = refl
not_false false h = cc
