-- What is kept of a file that is read.
use Rattle.std.specs.Prelude.{◌≡◌, ℕ, Bool, List, ◌++◌, Option, map, length}
use Rattle.streams.specs.declared.frames.Mark.{Mark}
use Rattle.streams.specs.Reading.{IsFoundIn}
use Rattle.common.specs.declared.parameters.Choice.{Choice}
use Rattle.lanes.specs.Notes.{Note, numbered, Item}
use Rattle.lanes.specs.Opening.{Meaning, IsFoundAt}

-- of a file that means this, the records were kept in order, numbered from 0 and with this choice, after what was kept before; they, their
-- number and the mark are those of the file
pub record KeepsFile (choice : Choice) (meaning : Meaning) (file : ℕ) (before after : List Note) (count : ℕ) (mark : Mark) : Type 0 where
  pub records : List (List ℕ)
  pub counted : length records ≡ count
  pub kept : after ≡ before ++ map Item (numbered choice file 0 records)
  pub found : IsFoundAt meaning records mark

-- of a source of which this is known, the records were kept in order, numbered from 0 and with this choice, after what
-- was kept before; they, their number and the mark are those of the source
pub record KeepsSource (choice : Choice) (known : Option (List ℕ)) (fails : Bool) (file : ℕ) (before after : List Note) (count : ℕ) (mark : Mark) : Type 0 where
  pub records : List (List ℕ)
  pub counted : length records ≡ count
  pub kept : after ≡ before ++ map Item (numbered choice file 0 records)
  pub found : IsFoundIn known fails records mark
