-- The state of a tap that has no byte to give. A tap whose bytes are not known claims nothing.
use Rattle.std.specs.Prelude.{◌≡◌, ℕ, Bool, true, false, List, [], Option, None, Some, ⊤}

-- no byte is to come, and the tap ends
abbrev pub IsAtItsEnd : Option (List ℕ) → Bool → Type 0
IsAtItsEnd None fails = ⊤
IsAtItsEnd (Some bytes) fails = (bytes ≡ []) × (fails ≡ false)

-- no byte is to come, and the tap fails
abbrev pub IsAtItsFailure : Option (List ℕ) → Bool → Type 0
IsAtItsFailure None fails = ⊤
IsAtItsFailure (Some bytes) fails = (bytes ≡ []) × (fails ≡ true)
