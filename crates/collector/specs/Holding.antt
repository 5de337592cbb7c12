-- How the lines of a run relate to its notes.
use Rattle.std.specs.Prelude.{◌≡◌, ◌↔◌, ◌⊎◌, ℕ, ◌<◌, Bool, true, List, [], ◌∷◌, ◌++◌, Option, None, length}
use Rattle.common.specs.declared.parameters.Choice.{Choice}
use Rattle.lanes.specs.Notes.{Note}
use Rattle.lanes.specs.Opening.{Meaning}
use Rattle.streams.specs.declared.frames.Form.{Form}
use Rattle.file_order.specs.declared.chunks.Waiting.{Waiting}
use Rattle.collector.specs.declared.texts.Lines.{Lines}
use Rattle.collector.specs.Came.{Came, IsToldByNotes, IsFlawlessSoFar}
use Rattle.collector.specs.Orders.{IsInOrder}
use Rattle.collector.specs.Written.{AreWritten, IsPartialText}

-- What the notes say of each file, which means this, is in order, and is written or buffered. The current file, the
-- first that has not ended, has no mark. And it is known whether all is flawless so far.
pub record HoldsNotes (choice : Choice) (meaning : ℕ → Meaning) (form : Form) (start now : Option (List ℕ)) (buffer : List ℕ) (current : ℕ) (waiting : List Waiting) (flawless : Bool) (ns : List Note) : Type 0 where
  pub came : ℕ → Came
  pub told : (file : ℕ) → file < length waiting → IsToldByNotes file ns (came file)
  pub ordered : (file : ℕ) → file < length waiting → IsInOrder choice (meaning file) file (came file)
  pub written : AreWritten form start now buffer current waiting came
  pub unended : current < length waiting → (came current).mark ≡ None
  pub all_flawless : (flawless ≡ true) ↔ ((file : ℕ) → file < length waiting → IsFlawlessSoFar (came file))

-- What the notes say of each of this many files, which means this, is in order, and a part of its text was added.
pub record ArePartialNotes (choice : Choice) (meaning : ℕ → Meaning) (form : Form) (files : ℕ) (start now : Option (List ℕ)) (ns : List Note) : Type 0 where
  pub came : ℕ → Came
  pub told : (file : ℕ) → file < files → IsToldByNotes file ns (came file)
  pub ordered : (file : ℕ) → file < files → IsInOrder choice (meaning file) file (came file)
  pub text : IsPartialText form start now files came

-- the format of the text, the choice of outer faces, and the number of files of the run
abbrev pub form_of : Lines → Form
form_of lines = lines.form

abbrev pub choice_of : Lines → Choice
choice_of lines = lines.choice

abbrev pub files_of : Lines → ℕ
files_of lines = length lines.order.waiting

-- no text is in transit to the sink
abbrev pub IsFlushed : Lines → Type 0
IsFlushed lines = lines.order.buffer ≡ []

-- what has arrived of the files is written or buffered, for a sink that had taken `start` and has now taken `now`
abbrev pub LinesWrite : Option (List ℕ) → Option (List ℕ) → Lines → (ℕ → Came) → Type 0
LinesWrite start now lines came = AreWritten lines.form start now lines.order.buffer lines.order.current lines.order.waiting came

-- what the notes say of files that mean this is written or buffered
abbrev pub LinesHold : (ℕ → Meaning) → Option (List ℕ) → Option (List ℕ) → Lines → List Note → Type 0
LinesHold meaning start now lines ns = HoldsNotes lines.choice meaning lines.form start now lines.order.buffer lines.order.current lines.order.waiting lines.flawless ns

-- a part of the text of what the notes say was added
abbrev pub ArePartialLines : (ℕ → Meaning) → Option (List ℕ) → Option (List ℕ) → Lines → List Note → Type 0
ArePartialLines meaning start now lines ns = ArePartialNotes lines.choice meaning lines.form (length lines.order.waiting) start now ns

-- a part of that text was added, with or without the note that came last
abbrev pub ArePartialLinesAt : (ℕ → Meaning) → Option (List ℕ) → Option (List ℕ) → Lines → List Note → Note → Type 0
ArePartialLinesAt meaning start now lines ns note =
    ArePartialLines meaning start now lines ns ⊎ ArePartialLines meaning start now lines (ns ++ note ∷ [])

-- the format, the choice and the number of files are unchanged
pub record AreLinesOf (before after : Lines) : Type 0 where
  pub form : after.form ≡ before.form
  pub choice : after.choice ≡ before.choice
  pub files : length after.order.waiting ≡ length before.order.waiting
