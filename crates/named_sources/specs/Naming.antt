-- The meaning of file names.
use Rattle.std.specs.Prelude.{ℕ, Bool, List, Option, None, Some, bytes_eq, codes, slice_get}
use Rattle.std.specs.Borrow.{Bor}
use Rattle.lanes.specs.Opening.{Meaning, Unopened}

-- the name stands for standard input
abbrev pub is_input : List ℕ → Bool
is_input name = bytes_eq name (codes "-")

-- the meaning of the file with a number, which is the index of its name in this list
abbrev pub meaning_at : (List ℕ → Meaning) → Option (Bor (List ℕ)) → Meaning
meaning_at files None = Unopened
meaning_at files (Some name) = files name.now

abbrev pub meanings_in : (List ℕ → Meaning) → List (Bor (List ℕ)) → ℕ → Meaning
meanings_in files names file = meaning_at files (slice_get names file)
