-- What a wide record is: a record whose entries have 16 bits.
use Rattle.std.specs.Prelude.{◌≡◌, ℕ, ◌<◌, ◌≤◌, List, [], ◌∷◌, length, All}
use Rattle.std.specs.List.{flat_map}
use Rattle.common.specs.declared.parameters.TheConstants.{MAX_VERTICES}
use Rattle.embedding.specs.declared.wide_record.TheConstants.{MAX_ENTRIES}
use Rattle.embedding.specs.declared.wide_record.WideFault.{WideFault}
use Rattle.embedding.specs.declared.wide_record.WideFault.TheVariants as fault
use Rattle.planar_code.specs.Stream.{ended}

-- an entry of a neighbour list: a 16-bit number other than 0
abbrev pub IsWideEntry : ℕ → Type 0
IsWideEntry x = (0 < x) × (x < 65536)

-- one neighbour list
abbrev pub IsWideList : List ℕ → Type 0
IsWideList entries = All IsWideEntry entries

-- the entries are one wide record: the number of lists, 1 to 1,200, followed by each list, ended; at most 65,535 in all
pub record IsWideRecord (entries : List ℕ) : Type 0 where
  pub lists : List (List ℕ)
  pub spelt : entries ≡ length lists ∷ flat_map ended lists
  pub each : All IsWideList lists
  pub some : 0 < length lists
  pub few : length lists ≤ MAX_VERTICES
  pub short : length entries ≤ MAX_ENTRIES

-- the first entry is above the maximum number of vertices
abbrev pub BeginsAboveLimit : List ℕ → Type 0
BeginsAboveLimit [] = ⊥
BeginsAboveLimit (order ∷ entries) = MAX_VERTICES < order

-- the fault of the entries
abbrev pub IsWideFault : List ℕ → WideFault → Type 0
IsWideFault entries fault.Large = BeginsAboveLimit entries
IsWideFault entries fault.Record = (BeginsAboveLimit entries → ⊥) × (IsWideRecord entries → ⊥)

-- the entries are this many lists, one after another, each ended
pub record AreLists (entries : List ℕ) (count : ℕ) : Type 0 where
  pub lists : List (List ℕ)
  pub spelt : entries ≡ flat_map ended lists
  pub each : All IsWideList lists
  pub counted : length lists ≡ count
