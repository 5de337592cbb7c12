-- How a source is read, piece by piece.
use Rattle.std.specs.Prelude.{◌≡◌, ℕ, ◌≤◌, Bool, List, length, Option, None, Some, ⊤}
use Rattle.std.specs.Io.KnownBytes.{Consumes}
use Rattle.planar_code.specs.FramerState.{FramerState, StandsAt, HasNotFailed}
use Rattle.streams.specs.declared.frames.Mark.{Mark}
use Rattle.streams.specs.Marks.{IsMarked}

-- what is known beforehand of a source is true of these bytes and of this failing; one of which nothing is known may have given any
abbrev pub IsKnownOf : Option (List ℕ) → Bool → List ℕ → Bool → Type 0
IsKnownOf None known_fails bytes fails = ⊤
IsKnownOf (Some known) known_fails bytes fails = (known ≡ bytes) × (known_fails ≡ fails)

-- the records and the mark are those of bytes that the source may have given, and where its bytes are known, of these
pub record IsFoundIn (known : Option (List ℕ)) (known_fails : Bool) (records : List (List ℕ)) (found : Mark) : Type 0 where
  pub bytes : List ℕ
  pub fails : Bool
  pub gave : IsKnownOf known known_fails bytes fails
  pub marked : IsMarked bytes fails records found

-- the bytes that were read of the source in this many rounds led to these records and to this state; the others are to
-- come. Each round read at least one byte
pub record IsBeingRead (known : Option (List ℕ)) (known_fails : Bool) (rounds : ℕ) (to_come : Option (List ℕ)) (fails : Bool) (records : List (List ℕ)) (state : FramerState) : Type 0 where
  pub read : List ℕ
  pub took : Consumes known to_come read
  pub same : fails ≡ known_fails
  pub stands : StandsAt read records state
  pub running : HasNotFailed state
  pub went : rounds ≤ length read
