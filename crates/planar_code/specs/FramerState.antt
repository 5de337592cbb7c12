-- How the state of a framer relates to its stream, and what it does with the next piece.
use Rattle.std.specs.Prelude.{◌≡◌, ◌≢◌, ◌⊎◌, ℕ, List, [], ◌∷◌, ◌++◌, length, drop, Result, Ok, Err}
use Rattle.planar_code.specs.declared.TheConstants.{HEADER, MAX_RECORDS}
use Rattle.planar_code.specs.declared.partial_record.Ending.{Ending}
use Rattle.planar_code.specs.declared.partial_record.FeedFault.{FeedFault}
use Rattle.planar_code.specs.declared.partial_record.FeedFault.TheVariants as fault
use Rattle.planar_code.specs.Stream.{IsUnfinished}
use Rattle.planar_code.specs.Split.{IsDivided, IsSplit, ending_of}

-- all that a framer keeps of its stream: a prefix of the header; after the header the number of records so far and the
-- bytes of the partial one; or its fault
pub data FramerState : Type 0 where
  Early : List ℕ → FramerState
  After : ℕ → List ℕ → FramerState
  Failed : FeedFault → FramerState

-- so far the stream is a prefix of the header, not the whole of it
pub record StandsEarly (stream : List ℕ) (records : List (List ℕ)) (front : List ℕ) : Type 0 where
  pub none : records ≡ []
  pub same : stream ≡ front
  pub missing : List ℕ
  pub more : missing ≢ []
  pub whole : front ++ missing ≡ HEADER

-- so far the stream is the header, that many records, and the beginning of one more; no byte follows the last of
-- 1,000,000 records
pub record StandsAfter (stream : List ℕ) (records : List (List ℕ)) (count : ℕ) (rest : List ℕ) : Type 0 where
  pub body : List ℕ
  pub with_header : stream ≡ HEADER ++ body
  pub divided : IsDivided body records rest
  pub counted : length records ≡ count
  pub partial_record : IsUnfinished rest
  pub full : count ≡ MAX_RECORDS → rest ≡ []

-- a stream that has these records so far has led to the state; to a fault if, however the stream goes on, it has
-- exactly these records and ends as the fault says
abbrev pub StandsAt : List ℕ → List (List ℕ) → FramerState → Type 0
StandsAt stream records (Early front) = StandsEarly stream records front
StandsAt stream records (After count rest) = StandsAfter stream records count rest
StandsAt stream records (Failed f) = (more : List ℕ) → IsSplit (stream ++ more) records (ending_of f)

-- whatever stream led to the old state: followed by the piece, it leads to the new state, and adds these records to
-- those that it had
abbrev pub Goes : FramerState → List ℕ → List (List ℕ) → FramerState → Type 0
Goes old piece added new = (stream : List ℕ) (records : List (List ℕ)) → StandsAt stream records old → StandsAt (stream ++ piece) (records ++ added) new

-- the framer has not failed
abbrev pub HasNotFailed : FramerState → Type 0
HasNotFailed state = (f : FeedFault) → state ≢ Failed f

-- a prefix of the piece has the added records and one more, for which there was no memory
pub record LosesRecord (old : FramerState) (piece : List ℕ) (added : List (List ℕ)) : Type 0 where
  pub front : List ℕ
  pub back : List ℕ
  pub parts : piece ≡ front ++ back
  pub lost : List ℕ
  pub next : FramerState
  pub goes : Goes old front (added ++ lost ∷ []) next

-- what a piece leads to: the added records are those that it has beyond the earlier ones, and a fault is that of the
-- stream. If memory runs out, it is for one more record, or it ran out before
abbrev pub Reads : FramerState → List ℕ → List (List ℕ) → FramerState → Result Unit FeedFault → Type 0
Reads old piece added new (Ok _) = HasNotFailed new × Goes old piece added new
Reads old piece added new (Err fault.Memory) = (new ≡ Failed fault.Memory) × (((old ≡ Failed fault.Memory) × (added ≡ [])) ⊎ LosesRecord old piece added)
Reads old piece added new (Err f) = (new ≡ Failed f) × Goes old piece added new

-- a framer is fed a piece: the added records follow those that the list had before
pub record Feeds (old : FramerState) (piece : List ℕ) (before after : List (List ℕ)) (new : FramerState) (result : Result Unit FeedFault) : Type 0 where
  pub added : List (List ℕ)
  pub appended : after ≡ before ++ added
  pub reads : Reads old piece added new result

-- the records of `after` that follow those of `before`, its prefix
abbrev pub beyond : List (List ℕ) → List (List ℕ) → List (List ℕ)
beyond before after = drop (length before) after

-- however the stream goes on, these are a prefix of its records, and not all of them
abbrev pub HasMore : List ℕ → List (List ℕ) → Type 0
HasMore stream records = (more : List ℕ) (all : List (List ℕ)) (end : Ending) → IsSplit (stream ++ more) all end → (later : List (List ℕ)) × (later ≢ []) × (all ≡ records ++ later)
