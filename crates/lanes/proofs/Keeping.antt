-- What is kept of a file that was not opened, or was read as its source.
use Rattle.std.proofs.Common.{◌≡◌, ℕ, Bool, true, false, List, [], Option, None, Some, Ok, Err, refl, sym, subst, append-nil}
use Rattle.planar_code.specs.declared.partial_record.Ending.TheVariants as ending
use Rattle.planar_code.specs.FramerState.{Early}
use Rattle.streams.specs.declared.frames.Mark.{Mark}
use Rattle.streams.specs.declared.frames.Mark.TheVariants.{Ended}
use Rattle.streams.specs.declared.frames.Mark.TheVariants as mark
use Rattle.streams.specs.Reading.{IsFoundIn}
use Rattle.streams.proofs.Pieces.{nothing_read, found_failed, found_nothing}
use Rattle.common.specs.declared.parameters.Choice.{Choice}
use Rattle.lanes.specs.declared.run.OpenFault.{OpenFault}
use Rattle.lanes.specs.declared.run.OpenFault.TheVariants.{Io}
use Rattle.lanes.specs.Notes.{Note}
use Rattle.lanes.specs.Opening.{Meaning, Silent, Unopened, Opened, Opens, IsFoundAt, known_of, fails_of}
use Rattle.lanes.specs.Keeping.{KeepsFile, KeepsSource}

-- what is found in a source is found where nothing is known
found_silent : (told : Option (List ℕ)) (fails : Bool) (records : List (List ℕ)) (mark : Mark) → IsFoundIn told fails records mark → IsFoundIn None false records mark
found_silent told fails records mark f = record { bytes = f.bytes; fails = f.fails; gave = tt; marked = f.marked }

-- what is found in the source that was opened is found in the file
found_opened : {S : Type 0} (to_come : S → Option (List ℕ)) (fails : S → Bool) (meaning : Meaning) (source : S) (records : List (List ℕ)) (mark : Mark)
    → Opens to_come fails meaning (Ok source) → IsFoundIn (to_come source) (fails source) records mark → IsFoundAt meaning records mark
found_opened to_come fails Silent source records mark opens f = found_silent (to_come source) (fails source) records mark f
found_opened to_come fails Unopened source records mark opens f = absurd opens
found_opened to_come fails (Opened bytes failing) source records mark opens f =
    subst (λ b. IsFoundIn (Some bytes) b records mark) opens.1 (subst (λ t. IsFoundIn t (fails source) records mark) opens.0 f)

-- so is what is kept
pub keeps_opened : {S : Type 0} (choice : Choice) (to_come : S → Option (List ℕ)) (fails : S → Bool) (meaning : Meaning) (source : S) (file : ℕ) (before after : List Note) (count : ℕ) (mark : Mark)
    → Opens to_come fails meaning (Ok source) → KeepsSource choice (to_come source) (fails source) file before after count mark → KeepsFile choice meaning file before after count mark
keeps_opened choice to_come fails meaning source file before after count mark opens k = record {
  records = k.records;
  counted = k.counted;
  kept = k.kept;
  found = found_opened to_come fails meaning source k.records mark opens k.found;
}

-- a file that could not be opened
found_unopened : {S : Type 0} (to_come : S → Option (List ℕ)) (fails : S → Bool) (meaning : Meaning) → Opens to_come fails meaning (Err Io) → IsFoundAt meaning [] mark.Io
found_unopened to_come fails Silent opens = found_failed None None false false 0 [] (Early []) (nothing_read None false [] (Early []) refl refl) tt
found_unopened to_come fails Unopened opens = found_failed (Some []) (Some []) true true 0 [] (Early []) (nothing_read (Some []) true [] (Early []) refl refl) (refl, refl)
found_unopened to_come fails (Opened bytes failing) opens = absurd opens

pub keeps_unopened : {S : Type 0} (choice : Choice) (to_come : S → Option (List ℕ)) (fails : S → Bool) (meaning : Meaning) (fault : OpenFault) (file : ℕ) (before : List Note)
    → Opens to_come fails meaning (Err fault) → fault ≡ Io → KeepsFile choice meaning file before before 0 mark.Io
keeps_unopened choice to_come fails meaning fault file before opens is = record {
  records = [];
  counted = refl;
  kept = sym (append-nil before);
  found = found_unopened to_come fails meaning (subst (λ f. Opens to_come fails meaning (Err f)) is opens);
}

-- a file for which there was no memory
pub keeps_wanting : (choice : Choice) (meaning : Meaning) (file : ℕ) (before : List Note) → KeepsFile choice meaning file before before 0 (Ended ending.Memory)
keeps_wanting choice meaning file before = record { records = []; counted = refl; kept = sym (append-nil before); found = found_nothing (known_of meaning) (fails_of meaning) [] refl }
