-- The reasons that messages give.
use Rattle.std.specs.Prelude.{◌≡◌, ◌⊎◌, ℕ, true, nat_eq, List, [], Contains, codes}
use Rattle.std.specs.List.{starts_with}

-- why a file failed, in one line after ': '; nothing if that is not known
abbrev pub IsWhy : List ℕ → Type 0
IsWhy text = (text ≡ []) ⊎ ((starts_with nat_eq text (codes ": ") ≡ true) × (¬ Contains text 10))
