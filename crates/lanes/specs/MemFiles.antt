-- The meaning of files in memory.
use Rattle.std.specs.Prelude.{ℕ, zero, suc, false, List, [], ◌∷◌, Vec}
use Rattle.std.specs.declared.alloc.Global.{Global}
use Rattle.lanes.specs.Opening.{Meaning, Unopened, Opened}

-- the bytes of the list with this index
abbrev pub bytes_at : List (Vec ℕ Global) → ℕ → List ℕ
bytes_at [] k = []
bytes_at (bytes ∷ files) zero = bytes.items
bytes_at (bytes ∷ files) (suc k) = bytes_at files k

-- one file for each list, and no others
abbrev pub meaning_in : List (Vec ℕ Global) → ℕ → Meaning
meaning_in [] k = Unopened
meaning_in (bytes ∷ files) zero = Opened bytes.items false
meaning_in (bytes ∷ files) (suc k) = meaning_in files k
