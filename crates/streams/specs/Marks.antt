-- The records and the mark of a source that gives these bytes and then ends or fails.
use Rattle.std.specs.Prelude.{◌≡◌, ℕ, Bool, true, List, ◌++◌}
use Rattle.planar_code.specs.declared.partial_record.Ending.{Ending}
use Rattle.planar_code.specs.declared.partial_record.Ending.TheVariants as ending
use Rattle.planar_code.specs.Split.{IsSplit, MayGoOn}
use Rattle.streams.specs.declared.frames.Mark.{Mark}
use Rattle.streams.specs.declared.frames.Mark.TheVariants.{Ended, Io}

-- it fails at a place where more bytes could have come: in the header, after a record, or in one
abbrev pub IsInterrupted : List ℕ → Bool → Type 0
IsInterrupted bytes fails = (fails ≡ true) × MayGoOn bytes

-- the records are a prefix of all
abbrev pub IsBeginningOf : List (List ℕ) → List (List ℕ) → Type 0
IsBeginningOf records all = (rest : List (List ℕ)) × (all ≡ records ++ rest)

-- A source that is cut short is marked `Io`, and has the records of its bytes. Any other has the records and the ending
-- of its bytes. If memory ran out, it has a prefix of the records.
abbrev pub IsMarked : List ℕ → Bool → List (List ℕ) → Mark → Type 0
IsMarked bytes fails records Io = IsInterrupted bytes fails × ((end : Ending) × IsSplit bytes records end)
IsMarked bytes fails records (Ended ending.Memory) = (all : List (List ℕ)) (end : Ending) → IsSplit bytes all end → IsBeginningOf records all
IsMarked bytes fails records (Ended end) = (IsInterrupted bytes fails → ⊥) × IsSplit bytes records end
