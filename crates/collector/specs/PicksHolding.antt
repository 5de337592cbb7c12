-- How picked records relate to the notes of a run.
use Rattle.std.specs.Prelude.{◌≡◌, ℕ, suc, ◌<◌, ◌≤◌, List, [], ◌++◌, Option, None, length, slice_index_or}
use Rattle.planar_code.specs.declared.TheConstants.{HEADER}
use Rattle.streams.specs.Sink.{AppendsPrefix, IsInTransit}
use Rattle.common.specs.declared.parameters.Choice.{Choice}
use Rattle.lanes.specs.Notes.{Note}
use Rattle.lanes.specs.Opening.{Meaning}
use Rattle.file_order.specs.declared.chunks.Waiting.{Waiting}
use Rattle.collector.specs.Came.{IsToldByNotes}
use Rattle.collector.specs.Orders.{IsInOrder}
use Rattle.collector.specs.Written.{IsCounted}
use Rattle.graph_facts.specs.declared.selection.Selection.{Selection}
use Rattle.collector.specs.declared.find_facts.Flaws.{Flaws}
use Rattle.collector.specs.declared.picking.Picks.{Picks}
use Rattle.collector.specs.FactBooks.{flaws_of}
use Rattle.collector.specs.Picked.{picked_in}
use Rattle.collector.specs.Arrived.{Arrived, none_arrived, book_so_far, records_of, picked_up_to}

-- a prefix was added of the header and the chosen records of this many files
abbrev pub IsPartOfPicked : Selection → Option (List ℕ) → Option (List ℕ) → ℕ → (ℕ → Arrived) → Type 0
IsPartOfPicked selection start now files arrived = AppendsPrefix start now (HEADER ++ picked_up_to selection arrived files)

-- The header and the chosen records of the files up to the current file are in transit. Those of the files after it are
-- buffered. Nothing has arrived of other files.
pub record ArePicked (selection : Selection) (start now : Option (List ℕ)) (buffer : List ℕ) (current : ℕ) (waiting : List Waiting) (arrived : ℕ → Arrived) : Type 0 where
  pub within : current ≤ length waiting
  pub counted : (file : ℕ) (other : Waiting) → file < length waiting → IsCounted (slice_index_or waiting file other) (records_of (arrived file))
  pub lines : (file : ℕ) (other : Waiting) → current < file → file < length waiting
      → (slice_index_or waiting file other).lines ≡ picked_in selection (arrived file).entries
  pub none : (file : ℕ) → length waiting ≤ file → arrived file ≡ none_arrived
  pub text : IsInTransit start now buffer (HEADER ++ picked_up_to selection arrived (suc current))

-- What the notes say of each of this many files, which means this, is in order, and the flaws are those of what has
-- arrived.
pub record AreArrived (choice : Choice) (meaning : ℕ → Meaning) (files : ℕ) (flaws : List Flaws) (ns : List Note) (arrived : ℕ → Arrived) : Type 0 where
  pub told : (file : ℕ) → file < files → IsToldByNotes file ns (records_of (arrived file))
  pub ordered : (file : ℕ) → file < files → IsInOrder choice (meaning file) file (records_of (arrived file))
  pub flaws_count : length flaws ≡ files
  pub flaws_are : (file : ℕ) (other : Flaws) → file < files → slice_index_or flaws file other ≡ flaws_of (book_so_far (arrived file))

-- What the notes say is in order, and what is chosen of it is in transit or buffered. The current file, the first that
-- has not ended, has no mark.
pub record PicksHold (meaning : ℕ → Meaning) (start now : Option (List ℕ)) (picks : Picks) (ns : List Note) : Type 0 where
  pub arrived : ℕ → Arrived
  pub are : AreArrived picks.choice meaning (length picks.order.waiting) picks.flaws.items ns arrived
  pub picked : ArePicked picks.selection start now picks.order.buffer picks.order.current picks.order.waiting arrived
  pub unended : picks.order.current < length picks.order.waiting → (arrived picks.order.current).mark ≡ None

-- what is chosen of what has arrived is in transit or buffered
abbrev pub PicksWrite : Option (List ℕ) → Option (List ℕ) → Picks → (ℕ → Arrived) → Type 0
PicksWrite start now picks arrived = ArePicked picks.selection start now picks.order.buffer picks.order.current picks.order.waiting arrived

-- of files that mean this some records are in order, and a prefix of what is chosen of them was added
pub record IsPartlyPicked (selection : Selection) (choice : Choice) (meaning : ℕ → Meaning) (files : ℕ) (start now : Option (List ℕ)) : Type 0 where
  pub arrived : ℕ → Arrived
  pub ordered : (file : ℕ) → file < files → IsInOrder choice (meaning file) file (records_of (arrived file))
  pub text : IsPartOfPicked selection start now files arrived

abbrev pub files_of : Picks → ℕ
files_of picks = length picks.order.waiting

abbrev pub flaws_in : Picks → ℕ
flaws_in picks = length picks.flaws.items

-- a prefix was added of what is chosen of some records of the files
abbrev pub PicksPartly : (ℕ → Meaning) → Option (List ℕ) → Option (List ℕ) → Picks → Type 0
PicksPartly meaning start now picks = IsPartlyPicked picks.selection picks.choice meaning (files_of picks) start now

-- no text is in transit to the sink
abbrev pub IsFlushed : Picks → Type 0
IsFlushed picks = picks.order.buffer ≡ []

-- the selection, the choice and the number of files are unchanged
pub record ArePicksOf (before after : Picks) : Type 0 where
  pub selection : after.selection ≡ before.selection
  pub choice : after.choice ≡ before.choice
  pub files : length after.order.waiting ≡ length before.order.waiting
