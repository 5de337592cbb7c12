-- A record that was begun, and how much of it was read.
use Rattle.std.specs.Prelude.{◌≡◌, ◌≢◌, ◌⊎◌, ℕ, ◌+◌, ◌<◌, ◌≤◌, List, [], ◌∷◌, ◌++◌, length, All}
use Rattle.std.specs.List.{flat_map}
use Rattle.planar_code.specs.declared.TheConstants.{MAX_LIST}
use Rattle.planar_code.specs.Stream.{IsEntry, IsList, ended, NoRecordFirst}
use Rattle.planar_code.specs.Split.{BeginsWithZero}

-- the bytes begin a record: whole lists, and then some entries of the next. This many lists remain, including the
-- partial one, and the partial one has this many entries
pub record IsStarted (bytes : List ℕ) (remaining entries : ℕ) : Type 0 where
  pub lists : List (List ℕ)
  pub current : List ℕ
  pub spelt : bytes ≡ (length lists + remaining) ∷ (flat_map ended lists ++ current)
  pub each : All IsList lists
  pub current_each : All IsEntry current
  pub counted : length current ≡ entries
  pub short : entries ≤ MAX_LIST
  pub some : 0 < remaining
  pub few : length lists + remaining < 256

-- in place of a record the bytes begin with one that has a list of more than 254 entries, however they go on
pub record IsOversize (bytes : List ℕ) : Type 0 where
  pub some : bytes ≢ []
  pub nonzero : BeginsWithZero bytes → ⊥
  pub never : (more : List ℕ) → NoRecordFirst (bytes ++ more)

-- no byte of a record was read, or it is begun
abbrev pub HasBegun : List ℕ → ℕ → ℕ → Type 0
HasBegun bytes remaining entries = (bytes ≡ []) ⊎ IsStarted bytes remaining entries
