-- What an amount sent along a residual arc changes.
use Rattle.std.specs.Prelude.{ℕ, ◌+◌, ◌≡◌, Bool, true, false}

-- an amount along an arc, or back along it
abbrev pub IsMoved : Bool → ℕ → ℕ → ℕ → Type 0
IsMoved false was amount is = is ≡ was + amount
IsMoved true was amount is = was ≡ is + amount
