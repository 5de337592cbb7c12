-- The places of the records of a source.
use Rattle.std.specs.Prelude.{◌≡◌, ℕ, ◌+◌, List, [], ◌∷◌, ◌++◌, length, Option, None, Some, ⊤}
use Rattle.planar_code.specs.declared.partial_record.Ending.{Ending}
use Rattle.planar_code.specs.Split.{IsSplit}

-- the record has this place in the list, from 0
pub record IsAt (all : List (List ℕ)) (place : ℕ) (bytes : List ℕ) : Type 0 where
  pub front : List (List ℕ)
  pub rest : List (List ℕ)
  pub parts : all ≡ front ++ bytes ∷ rest
  pub before : length front ≡ place

-- the record has this place among those of a source's known bytes; if none are known nothing is said
abbrev pub IsPlaced : Option (List ℕ) → ℕ → List ℕ → Type 0
IsPlaced None place bytes = ⊤
IsPlaced (Some known) place bytes = (all : List (List ℕ)) (end : Ending) → IsSplit known all end → IsAt all place bytes

-- this holds for each record and its place; the first has this one
abbrev pub EachAt : (ℕ → List ℕ → Type 0) → ℕ → List (List ℕ) → Type 0
EachAt fits first [] = ⊤
EachAt fits first (bytes ∷ records) = fits first bytes × EachAt fits (first + 1) records

-- the records have consecutive places among those of a source's known bytes
abbrev pub ArePlaced : Option (List ℕ) → ℕ → List (List ℕ) → Type 0
ArePlaced known first records = EachAt (IsPlaced known) first records
