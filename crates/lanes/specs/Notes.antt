-- The content of the messages of a lane: which record each is about, which file has ended, and the stop.
use Rattle.std.specs.Prelude.{◌≡◌, ℕ, ◌+◌, ◌==◌, Bool, false, List, [], ◌∷◌, ◌++◌, map, flat_map, ⊤}
use Rattle.std.specs.List.{filter}
use Rattle.streams.specs.declared.frames.Mark.{Mark}
use Rattle.common.specs.declared.parameters.Choice.{Choice}
use Rattle.lanes.specs.declared.message.Message.{Message}
use Rattle.lanes.specs.declared.message.Message.TheVariants as message

-- a record: of which file it is, its place there, its bytes, and how the outer face of its plane is chosen
pub record About : Type 0 where
  pub file : ℕ
  pub ordinal : ℕ
  pub bytes : List ℕ
  pub choice : Choice

-- a record; or a file that has ended, and its mark; or the stop
pub data Note : Type 0 where
  Item : About → Note
  End : ℕ → Mark → Note
  Stop : Note

-- the records of these items, in order, if `about` says which record an item is about
abbrev pub notes_of_items : {A : Type 0} → (A → About) → List A → List Note
notes_of_items {A} about items = map (λ (item : A). Item (about item)) items

module _ {A M : Type 0} where
  -- the content of a message: its records in order, or one end, or the stop
  abbrev pub notes_of : (A → About) → Message A M → List Note
  notes_of about (message.Item item) = Item (about item) ∷ []
  notes_of about (message.Items batch) = notes_of_items about batch.items.items
  notes_of about (message.End file mark known) = End file mark ∷ []
  notes_of about message.Stop = Stop ∷ []

  -- the content of messages, in order
  abbrev pub notes : (A → About) → List (Message A M) → List Note
  notes about messages = flat_map (notes_of about) messages

-- the records of a file under one choice, the first of which has this place there
abbrev pub numbered : Choice → ℕ → ℕ → List (List ℕ) → List About
numbered choice file ordinal [] = []
numbered choice file ordinal (bytes ∷ records) =
    record { file = file; ordinal = ordinal; bytes = bytes; choice = choice } ∷ numbered choice file (ordinal + 1) records

-- the note belongs to this file
abbrev pub is_of : ℕ → Note → Bool
is_of file (Item about) = about.file == file
is_of file (End other mark) = other == file
is_of file Stop = false

-- the notes of one file, in order
abbrev pub of_file : ℕ → List Note → List Note
of_file file ns = filter (is_of file) ns

-- all notes of a file with these records and this mark, under one choice
abbrev pub file_notes : Choice → ℕ → List (List ℕ) → Mark → List Note
file_notes choice file records mark = map Item (numbered choice file 0 records) ++ End file mark ∷ []

-- there is no stop among the notes
abbrev pub GoOn : List Note → Type 0
GoOn [] = ⊤
GoOn (Stop ∷ ns) = ⊥
GoOn (_ ∷ ns) = GoOn ns

-- the last note is a stop, and it is the only one
abbrev pub IsStopped : List Note → Type 0
IsStopped ns = (front : List Note) × (ns ≡ front ++ Stop ∷ []) × GoOn front
