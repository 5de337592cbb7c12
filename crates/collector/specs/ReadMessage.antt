-- The content of the messages of a reader.
use Rattle.std.specs.Prelude.{◌≡◌, ℕ, Bool, List, [], ◌∷◌, ◌++◌, Option, None, Some, IfSome, ⊤}
use Rattle.ruled_lanes.specs.declared.link_channel.Giver.{Giver}
use Rattle.ruled_lanes.specs.LinkEnds.{given, GivesToSame}
use Rattle.streams.specs.declared.frames.Mark.{Mark}
use Rattle.collector.specs.declared.frames_run.ReadMessage.{ReadMessage}
use Rattle.collector.specs.declared.frames_run.ReadMessage.TheVariants.{Records, End, Stop}
use Rattle.streams.specs.Reading.{IsFoundIn}

-- the messages give these records in order, and nothing else
abbrev pub GiveRecords : List (List ℕ) → List ReadMessage → Type 0
GiveRecords records [] = records ≡ []
GiveRecords records (Records batch ∷ messages) = (rest : List (List ℕ)) × (records ≡ batch.items ++ rest) × GiveRecords rest messages
GiveRecords records (_ ∷ messages) = ⊥

-- all messages of a reader: these records in order, then this one mark, then one stop
abbrev pub IsTold : List (List ℕ) → Mark → List ReadMessage → Type 0
IsTold records mark messages = (front : List ReadMessage) × (messages ≡ front ++ End mark ∷ Stop ∷ []) × GiveRecords records front

-- all messages of the reader of a source of which this is known
abbrev pub TellsOf : Option (List ℕ) → Bool → List ReadMessage → Type 0
TellsOf known fails messages = (records : List (List ℕ)) × (mark : Mark) × IsTold records mark messages × IsFoundIn known fails records mark

-- the giver that a reader returns gave all messages to the link that it had
abbrev pub GivesBack : Option (List ℕ) → Bool → Giver ReadMessage → Option (Giver ReadMessage) → Type 0
GivesBack known fails giver result = IfSome result (λ after. GivesToSame giver after × TellsOf known fails (given after))

-- there is no stop among the messages
abbrev pub GoOn : List ReadMessage → Type 0
GoOn [] = ⊤
GoOn (Stop ∷ messages) = ⊥
GoOn (_ ∷ messages) = GoOn messages

-- the records in all messages, in order
abbrev pub records_in : List ReadMessage → List (List ℕ)
records_in [] = []
records_in (Records batch ∷ messages) = batch.items ++ records_in messages
records_in (_ ∷ messages) = records_in messages

-- the mark of the last message that has one, or else this one
abbrev pub mark_after : Option Mark → List ReadMessage → Option Mark
mark_after mark [] = mark
mark_after mark (End later ∷ messages) = mark_after (Some later) messages
mark_after mark (_ ∷ messages) = mark_after mark messages

-- the messages go on, and these are their records and their mark
pub record Gathers (records : List (List ℕ)) (mark : Option Mark) (messages : List ReadMessage) : Type 0 where
  pub going : GoOn messages
  pub same : records ≡ records_in messages
  pub marked : mark ≡ mark_after None messages

-- all messages up to the stop were gathered
abbrev pub GathersAll : List (List ℕ) → Option Mark → List ReadMessage → Type 0
GathersAll records mark messages = (front : List ReadMessage) × (messages ≡ front ++ Stop ∷ []) × Gathers records mark front
