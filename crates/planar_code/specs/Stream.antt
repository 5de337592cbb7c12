-- What one record of a planar_code stream is, and which lists its bytes hold.
use Rattle.std.specs.Prelude.{◌≡◌, ◌≢◌, ℕ, zero, suc, ◌<◌, ◌≤◌, List, [], ◌∷◌, ◌++◌, length, All}
use Rattle.std.specs.List.{flat_map}
use Rattle.planar_code.specs.declared.TheConstants.{MAX_LIST}

-- an entry of a neighbour list: a byte other than 0
abbrev pub IsEntry : ℕ → Type 0
IsEntry x = (0 < x) × (x < 256)

-- one neighbour list: at most 254 entries
pub record IsList (entries : List ℕ) : Type 0 where
  pub each : All IsEntry entries
  pub short : length entries ≤ MAX_LIST

-- a list as it is written: its entries, followed by one byte 0
abbrev pub ended : List ℕ → List ℕ
ended entries = entries ++ 0 ∷ []

-- the bytes are one record: the number of lists, 1 to 255, followed by each list, ended
pub record IsRecord (bytes : List ℕ) : Type 0 where
  pub lists : List (List ℕ)
  pub spelt : bytes ≡ length lists ∷ flat_map ended lists
  pub each : All IsList lists
  pub some : 0 < length lists
  pub few : length lists < 256

-- the lists, with the entry put before the first of them, if there is one
abbrev pub before_first : ℕ → List (List ℕ) → List (List ℕ)
before_first x [] = []
before_first x (entries ∷ lists) = (x ∷ entries) ∷ lists

-- the lists that the bytes hold, each up to its 0; what follows the last 0 is no list
abbrev pub lists_in : List ℕ → List (List ℕ)
lists_in [] = []
lists_in (zero ∷ bytes) = [] ∷ lists_in bytes
lists_in (suc x ∷ bytes) = before_first (suc x) (lists_in bytes)

-- the neighbour lists of a record's bytes: those after its first byte
abbrev pub lists_of : List ℕ → List (List ℕ)
lists_of [] = []
lists_of (order ∷ bytes) = lists_in bytes

-- bytes that begin a record and are not yet the whole of it; no bytes at all begin one
pub record IsUnfinished (bytes : List ℕ) : Type 0 where
  pub missing : List ℕ
  pub more : missing ≢ []
  pub whole : IsRecord (bytes ++ missing)

-- no prefix of the bytes is a record
abbrev pub NoRecordFirst : List ℕ → Type 0
NoRecordFirst bytes = (first rest : List ℕ) → IsRecord first → bytes ≡ first ++ rest → ⊥

-- the bytes hold 255 entries in a row somewhere
pub record HasLongList (bytes : List ℕ) : Type 0 where
  pub front : List ℕ
  pub entries : List ℕ
  pub back : List ℕ
  pub parts : bytes ≡ front ++ (entries ++ back)
  pub each : All IsEntry entries
  pub long : length entries ≡ 255
