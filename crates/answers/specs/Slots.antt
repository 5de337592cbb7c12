-- What a holder holds.
use Rattle.std.specs.Prelude.{◌≡◌, Bool, true, false}
use mathlib.Core.Bool.{false≢true}
use Rattle.answers.specs.declared.holder.Slot.{Slot}
use Rattle.answers.specs.declared.holder.Slot.TheVariants.{Empty, Full, Spent}

-- whether it is a value that goes on to the next stage
abbrev pub is_full : {T : Type 0} → Slot T → Bool
is_full Empty = false
is_full (Full value) = true
is_full (Spent spent) = false

-- that value
abbrev pub value_in : {T : Type 0} (slot : Slot T) → is_full slot ≡ true → T
value_in Empty full = absurd (false≢true full)
value_in (Full value) full = value
value_in (Spent spent) full = absurd (false≢true full)
