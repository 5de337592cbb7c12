-- The content of a lane's messages about its files.
use Rattle.std.specs.Prelude.{◌≡◌, ℕ, ◌+◌, ◌<◌, List, [], ◌∷◌, Some, ⊤}
use Rattle.ruled_lanes.specs.TicketProtocol.{times}
use Rattle.streams.specs.declared.frames.Mark.{Mark}
use Rattle.common.specs.declared.parameters.Choice.{Choice}
use Rattle.lanes.specs.declared.message.Message.{Message}
use Rattle.lanes.specs.declared.gathering.Draft.{Draft}
use Rattle.lanes.specs.Notes.{About, Note, notes, of_file, file_notes, IsStopped}
use Rattle.lanes.specs.Opening.{Meaning, IsFoundAt}
use Rattle.lanes.specs.Drafts.{IsWhole}

-- the notes of the file are its records, in order and under this choice, followed by its one mark
pub record HasFile (choice : Choice) (meaning : Meaning) (file : ℕ) (ns : List Note) : Type 0 where
  pub records : List (List ℕ)
  pub mark : Mark
  pub told : of_file file ns ≡ file_notes choice file records mark
  pub found : IsFoundAt meaning records mark

-- this holds for each file below this number
abbrev pub AreToldWhole : Choice → (ℕ → Meaning) → ℕ → List Note → Type 0
AreToldWhole choice meaning files ns = (file : ℕ) → file < files → HasFile choice (meaning file) file ns

-- the notes say all of each file that was drawn once, and nothing of one that was not drawn
pub record HasDrawn (choice : Choice) (meaning : ℕ → Meaning) (drawn : List ℕ) (ns : List Note) : Type 0 where
  pub own : (file : ℕ) → times file drawn ≡ 1 → HasFile choice (meaning file) file ns
  pub others : (file : ℕ) → times file drawn ≡ 0 → of_file file ns ≡ []

module _ {A M : Type 0} where
  -- the messages say all of the files that were drawn, up to one stop
  pub record TellsDrawn (about : A → About) (choice : Choice) (meaning : ℕ → Meaning) (drawn : List ℕ) (gave : List (Message A M)) : Type 0 where
    pub stopped : IsStopped (notes about gave)
    pub told : HasDrawn choice meaning drawn (notes about gave)

module _ {A : Type 0} where
  -- the draft has a mark, and is all of its file
  pub record IsWholeDraft (about : A → About) (choice : Choice) (meaning : Meaning) (file : ℕ) (draft : Draft A) : Type 0 where
    pub mark : Mark
    pub marked : draft.mark ≡ Some mark
    pub whole : IsWhole about choice meaning file draft.entries.items mark

  -- this holds for the drafts of consecutive files, the first of which has this number
  abbrev pub AreReady : (A → About) → Choice → (ℕ → Meaning) → ℕ → List (Draft A) → Type 0
  AreReady about choice meaning file [] = ⊤
  AreReady about choice meaning file (draft ∷ drafts) = IsWholeDraft about choice (meaning file) file draft × AreReady about choice meaning (file + 1) drafts
