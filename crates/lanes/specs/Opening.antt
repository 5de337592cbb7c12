-- What is known in advance of a file that an opener opens.
use Rattle.std.specs.Prelude.{◌≡◌, ℕ, Bool, true, false, List, [], Option, None, Some, Result, Ok, Err, length, ⊤}
use Rattle.streams.specs.declared.frames.Mark.{Mark}
use Rattle.streams.specs.Reading.{IsFoundIn}
use Rattle.streams.specs.Placing.{IsPlaced}
use Rattle.lanes.specs.declared.run.OpenFault.{OpenFault}
use Rattle.lanes.specs.declared.run.OpenFault.TheVariants.{Io, Memory}

-- nothing is known of it; or it does not open; or it opens, gives these bytes, and then fails or ends
pub data Meaning : Type 0 where
  Silent : Meaning
  Unopened : Meaning
  Opened : List ℕ → Bool → Meaning

-- the bytes that are known of it: a file that does not open gives none and fails
abbrev pub known_of : Meaning → Option (List ℕ)
known_of Silent = None
known_of Unopened = Some []
known_of (Opened bytes fails) = Some bytes

abbrev pub fails_of : Meaning → Bool
fails_of Silent = false
fails_of Unopened = true
fails_of (Opened bytes fails) = fails

-- a source that was opened means what the file means; only one that does not open is refused by `Io`
abbrev pub Opens : {S : Type 0} → (S → Option (List ℕ)) → (S → Bool) → Meaning → Result S OpenFault → Type 0
Opens to_come fails Silent result = ⊤
Opens to_come fails Unopened (Ok source) = ⊥
Opens to_come fails Unopened (Err fault) = ⊤
Opens to_come fails (Opened bytes f) (Ok source) = (to_come source ≡ Some bytes) × (fails source ≡ f)
Opens to_come fails (Opened bytes f) (Err Io) = ⊥
Opens to_come fails (Opened bytes f) (Err Memory) = ⊤

-- these records and this mark are those of a file that means this
abbrev pub IsFoundAt : Meaning → List (List ℕ) → Mark → Type 0
IsFoundAt meaning records mark = IsFoundIn (known_of meaning) (fails_of meaning) records mark

-- the record has this place in a file that means this
abbrev pub IsPlacedAt : Meaning → ℕ → List ℕ → Type 0
IsPlacedAt meaning place bytes = IsPlaced (known_of meaning) place bytes

-- a file that means this has this mark and this many records
pub record IsEndAt (meaning : Meaning) (count : ℕ) (mark : Mark) : Type 0 where
  pub records : List (List ℕ)
  pub counted : length records ≡ count
  pub found : IsFoundAt meaning records mark
