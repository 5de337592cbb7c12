-- The meaning of the program's exit status.
use Rattle.std.specs.Prelude.{◌≡◌, ◌≢◌, ◌<◌, ◌≤◌, ◌↔◌, ◌⊎◌, ℕ, Bool, true, false, String, Vec, List, Option, Some, All, map, codes, vec_len, ⊤}
use Rattle.std.specs.Borrow.{Bor}
use Rattle.std.specs.Io.KnownBytes.{Appends}
use Rattle.std.specs.declared.alloc.Global.{Global}
use Rattle.planar_code.specs.declared.partial_record.Ending.{Ending}
use Rattle.streams.specs.declared.frames.Mark.{Mark}
use Rattle.streams.specs.FramesModel.{FramesModel}
use Rattle.streams.specs.Marks.{IsMarked}
use Rattle.streams.specs.Sink.{AppendsPrefix}
use Rattle.streams.specs.Text.{frames_text}
use Rattle.common.specs.declared.parameters.Choice.{Choice}
use Rattle.lanes.specs.Opening.{Meaning, known_of, fails_of}
use Rattle.reports.specs.Books.{BookModel}
use Rattle.reports.specs.AllBooks.{AreAllBooks}
use Rattle.streams.specs.declared.frames.Form.{Form}
use Rattle.reports.specs.Forms.{text_in}
use Rattle.reports.specs.FlawlessBooks.{IsFlawlessBook}
use Rattle.checking.specs.Runs.{IsTextOfVerdicts, IsBegunTextOfVerdicts}
use Rattle.checking.specs.declared.run.CheckOptions.{CheckOptions}
use Rattle.commands.specs.TextRuns.{IsBegun}
use Rattle.named_sources.specs.Naming.{meanings_in}
use Rattle.command_line.specs.Requests.{IsAskedBy, AsksCheck, asks_in}
use Rattle.command_line.specs.Helps.{help_in}
use Rattle.command_line.specs.declared.reading.Keyword.{Keyword}
use Rattle.reports.specs.declared.book.TheConstants.{MAX_FILES}
use Rattle.ruled_lanes.specs.declared.channel.TheConstants.{LANES}
use Rattle.command_line.specs.declared.request.Request.{Request}
use Rattle.command_line.specs.declared.request.Request.TheVariants.{Frames, Layout, Check, Pick, Count}
use Rattle.command_line.specs.declared.request.CheckRequest.{CheckRequest}
use Rattle.command_line.specs.declared.request.PickRequest.{PickRequest}
use Rattle.command_line.specs.declared.request.CountRequest.{CountRequest}
use Rattle.graph_facts.specs.declared.table.Columns.{Columns}
use Rattle.graph_facts.specs.declared.selection.Selection.{Selection}
use Rattle.collector.specs.declared.find_facts.Flaws.{Flaws}
use Rattle.collector.specs.FactBooks.{FactBook, AreAllFactBooks, IsFlawlessFacts, flaws_of}
use Rattle.collector.specs.Picked.{IsAllPicked, IsPickBegun, picked_text, chosen_in}
use Rattle.collector.specs.Counted.{IsAllCounted}
use Rattle.graph_facts.specs.Tables.{IsTable, TableModel, table_text}
use Rattle.commands.specs.FlawLines.{IsTold}

-- the output of '--version'
abbrev pub version_text : List ℕ
version_text = codes "planarbend 2.0.0\ntoolchain rattle-kit-13 logic dac8208d650f15bf\n"

-- this text and nothing else was added to the output, with status 0; or the output failed, with a prefix of it and
-- status 1
abbrev pub IsPrinted : List ℕ → Option (List ℕ) → Option (List ℕ) → Bool → ℕ → Type 0
IsPrinted text old new failed status =
    ((status ≡ 0) × (failed ≡ false) × Appends old new text) ⊎ ((status ≡ 1) × (failed ≡ true) × AppendsPrefix old new text)

-- the help that the arguments ask for, and nothing else, was added to the output; or the output failed, with a prefix
-- of it and status 1
abbrev pub IsHelped : List (String Global) → Option (List ℕ) → Option (List ℕ) → Bool → ℕ → Type 0
IsHelped words = IsPrinted (help_in words)

-- the file ended complete
abbrev pub IsComplete : FramesModel → Type 0
IsComplete found = found.mark ≡ Mark.Ended Ending.Complete

-- The whole text of the records of a file that means this was added to the output, and the status says how the file
-- ended. The records and the mark are those of some bytes, after which it ends or fails, and if the file's bytes are
-- known, of these.
pub record IsTextOfRecords (meaning : Meaning) (old new : Option (List ℕ)) (failed : Bool) (status : ℕ) : Type 0 where
  pub found : FramesModel
  pub bytes : List ℕ
  pub fails : Bool
  pub marked : IsMarked bytes fails found.records found.mark
  pub known : (all : List ℕ) → known_of meaning ≡ Some all → IsMarked all (fails_of meaning) found.records found.mark
  pub text : Appends old new (frames_text found)
  pub written : failed ≡ false
  pub complete : IsComplete found ↔ (status ≡ 0)
  pub other : status ≢ 0 → status ≡ 3

-- The whole text of the books of this many files, which mean this, under this choice and in this format, was added to
-- the output, and the status says whether each book is flawless.
pub record IsTextOfBooks (choice : Choice) (form : Form) (meaning : ℕ → Meaning) (files : ℕ) (old new : Option (List ℕ)) (failed : Bool) (status : ℕ) : Type 0 where
  pub books : List BookModel
  pub of_files : AreAllBooks choice meaning files books
  pub text : Appends old new (text_in form books)
  pub written : failed ≡ false
  pub flawless : All IsFlawlessBook books ↔ (status ≡ 0)
  pub other : status ≢ 0 → status ≡ 3

-- A prefix of the text of the books of the first of this many files, which mean this, was added to the output, or of it
-- and the lines of the next one, which has no last line, under this choice and in this format.
abbrev pub IsBegunTextOfBooks : Choice → Form → (ℕ → Meaning) → ℕ → Option (List ℕ) → Option (List ℕ) → Type 0
IsBegunTextOfBooks choice form meaning files old new = ∥ IsBegun choice meaning form files old new ∥₁

-- A prefix of the text of the records of a file that means this was added to the output. The records and the mark are
-- those of some bytes, as in a whole text.
pub record IsBegunTextOfRecords (meaning : Meaning) (old new : Option (List ℕ)) : Type 0 where
  pub found : FramesModel
  pub bytes : List ℕ
  pub fails : Bool
  pub marked : IsMarked bytes fails found.records found.mark
  pub known : (all : List ℕ) → known_of meaning ≡ Some all → IsMarked all (fails_of meaning) found.records found.mark
  pub text : AppendsPrefix old new (frames_text found)

-- the options of a request for verdicts
abbrev pub options_of : CheckRequest → CheckOptions
options_of asked = record { form = asked.form; faces = asked.faces }

-- The whole text of the verdicts that a request asks for, where the file with a name means what `files` says, was added
-- to the output, and the status says what they are.
abbrev pub IsTextOfChecked : (List ℕ → Meaning) → CheckRequest → Option (List ℕ) → Option (List ℕ) → Bool → ℕ → Type 0
IsTextOfChecked files asked old new failed status =
    IsTextOfVerdicts (options_of asked) (known_of (files asked.graphs.now)) (fails_of (files asked.graphs.now))
    (known_of (files asked.lines.now)) (fails_of (files asked.lines.now)) old new failed status

-- a prefix of such a text was added
abbrev pub IsBegunTextOfChecked : (List ℕ → Meaning) → CheckRequest → Option (List ℕ) → Option (List ℕ) → Type 0
IsBegunTextOfChecked files asked old new =
    IsBegunTextOfVerdicts (options_of asked) (known_of (files asked.graphs.now)) (fails_of (files asked.graphs.now))
    (known_of (files asked.lines.now)) (fails_of (files asked.lines.now)) old new

-- What is known of standard error: these bytes were taken before and now, and whether it has failed.
pub record ErrorOutput : Type 0 where
  pub old : Option (List ℕ)
  pub new : Option (List ℕ)
  pub failed : Bool

abbrev pub error_output : Option (List ℕ) → Option (List ℕ) → Bool → ErrorOutput
error_output old new failed = record { old = old; new = new; failed = failed }

-- If standard error has not failed, a line was added to it for each of the files with these names that does not end
-- complete, and for each in which memory ran out for graphs; this is lacking in the files.
abbrev pub TellsFlaws : ErrorOutput → List (Bor (List ℕ)) → List Flaws → Type 0
TellsFlaws err names flaws = err.failed ≡ false → IsTold (map (λ name. name.now) names) flaws err.old err.new

-- The header and the records of the selected graphs of all files, where the file with a name means what `files` says,
-- were added to the output; and the status says whether each file ended complete and memory ran out for no graph.
-- Standard error tells what is lacking.
pub record IsTextOfPicked (files : List ℕ → Meaning) (asked : PickRequest) (err : ErrorOutput) (old new : Option (List ℕ)) (failed : Bool) (status : ℕ) : Type 0 where
  pub books : List FactBook
  pub of_files : AreAllFactBooks asked.run.choice (meanings_in files asked.run.names.items) (vec_len asked.run.names) books
  pub text : Appends old new (picked_text asked.selection books)
  pub written : failed ≡ false
  pub flawless : All IsFlawlessFacts books ↔ (status ≡ 0)
  pub other : status ≢ 0 → status ≡ 3
  pub told : TellsFlaws err asked.run.names.items (map flaws_of books)

-- a prefix of such a text was added, where each file may also end `memory`
abbrev pub IsBegunTextOfPicked : (List ℕ → Meaning) → PickRequest → Option (List ℕ) → Option (List ℕ) → Type 0
IsBegunTextOfPicked files asked old new = ∥ IsPickBegun asked.selection asked.run.choice (meanings_in files asked.run.names.items) (vec_len asked.run.names) old new ∥₁

-- The text of the table of the selected graphs of all files was added to the output, where the file with a name means
-- what `files` says; and the status says whether each file ended complete and memory ran out for no graph. Standard error
-- tells what is lacking.
pub record IsTextOfCounted (files : List ℕ → Meaning) (asked : CountRequest) (err : ErrorOutput) (old new : Option (List ℕ)) (failed : Bool) (status : ℕ) : Type 0 where
  pub books : List FactBook
  pub of_files : AreAllFactBooks asked.run.choice (meanings_in files asked.run.names.items) (vec_len asked.run.names) books
  pub table : TableModel
  pub columns : table.columns ≡ asked.columns
  pub counted : IsTable (chosen_in asked.selection books) table
  pub text : Appends old new (table_text table)
  pub written : failed ≡ false
  pub flawless : All IsFlawlessFacts books ↔ (status ≡ 0)
  pub other : status ≢ 0 → status ≡ 3
  pub told : TellsFlaws err asked.run.names.items (map flaws_of books)

-- the table of the selected graphs of this many files, which mean this, was added; this is lacking in them
abbrev pub AreCountsWritten : Selection → Columns → Choice → (ℕ → Meaning) → ℕ → Option (List ℕ) → Option (List ℕ) → List Flaws → Type 0
AreCountsWritten selection columns choice meaning files old new flaws =
    (table : TableModel) × IsAllCounted selection columns choice meaning files flaws table × Appends old new (table_text table)

-- a prefix of the text of such a table was added
pub record AreCountsBegun (selection : Selection) (columns : Columns) (choice : Choice) (meaning : ℕ → Meaning) (files : ℕ) (old new : Option (List ℕ)) : Type 0 where
  pub books : List FactBook
  pub of_files : AreAllFactBooks choice meaning files books
  pub table : TableModel
  pub columns_are : table.columns ≡ columns
  pub counted : IsTable (chosen_in selection books) table
  pub text : AppendsPrefix old new (table_text table)

abbrev pub IsBegunTextOfCounted : (List ℕ → Meaning) → CountRequest → Option (List ℕ) → Option (List ℕ) → Type 0
IsBegunTextOfCounted files asked old new =
    AreCountsBegun asked.selection asked.columns asked.run.choice (meanings_in files asked.run.names.items) (vec_len asked.run.names) old new

-- the whole text that a request asks for, where the file with a name means what `files` says, was added to the output,
-- with this status and this standard error
abbrev pub IsDone : (List ℕ → Meaning) → Request → ErrorOutput → Option (List ℕ) → Option (List ℕ) → Bool → ℕ → Type 0
IsDone files (Frames name) err old new failed status = IsTextOfRecords (files name.now) old new failed status
IsDone files (Layout asked) err old new failed status =
    IsTextOfBooks asked.run.choice asked.style.form (meanings_in files asked.run.names.items) (vec_len asked.run.names) old new failed status
IsDone files (Check asked) err old new failed status = IsTextOfChecked files asked old new failed status
IsDone files (Pick asked) err old new failed status = IsTextOfPicked files asked err old new failed status
IsDone files (Count asked) err old new failed status = IsTextOfCounted files asked err old new failed status

-- the whole text of the verdicts that a request asks for was added to the output, with status 4
abbrev pub IsJudged : (List ℕ → Meaning) → Request → Option (List ℕ) → Option (List ℕ) → Bool → Type 0
IsJudged files (Check asked) old new failed = IsTextOfChecked files asked old new failed 4
IsJudged files _ old new failed = ⊥

-- a prefix of the text that a request asks for, where the file with a name means what `files` says, was added to the
-- output
abbrev pub IsBegunToBeDone : (List ℕ → Meaning) → Request → Option (List ℕ) → Option (List ℕ) → Type 0
IsBegunToBeDone files (Frames name) old new = IsBegunTextOfRecords (files name.now) old new
IsBegunToBeDone files (Layout asked) old new =
    IsBegunTextOfBooks asked.run.choice asked.style.form (meanings_in files asked.run.names.items) (vec_len asked.run.names) old new
IsBegunToBeDone files (Check asked) old new = IsBegunTextOfChecked files asked old new
IsBegunToBeDone files (Pick asked) old new = IsBegunTextOfPicked files asked old new
IsBegunToBeDone files (Count asked) old new = IsBegunTextOfCounted files asked old new

-- The meaning of status 0 or 3: the version was asked for, with status 0; or help was, and its text was added to the
-- output, with status 0; or the text of all files that the arguments name was added, as they ask for it. Arguments that
-- ask for help make no request.
abbrev pub IsDoneFor : (List ℕ → Meaning) → List (String Global) → ErrorOutput → Option (List ℕ) → Option (List ℕ) → Bool → ℕ → Type 0
IsDoneFor files words err old new failed status =
    ((status ≡ 0) × (asks_in Keyword.Version words ≡ true))
    ⊎ (((status ≡ 0) × (asks_in Keyword.Help words ≡ true) × Appends old new (help_in words))
    ⊎ ((request : Request) × IsAskedBy words request × IsDone files request err old new failed status))

-- The meaning of status 4: the command line asks for verdicts on two files, and their whole text was added to the
-- output, as it is asked for, with this status.
abbrev pub IsJudgedFor : (List ℕ → Meaning) → List (String Global) → Option (List ℕ) → Option (List ℕ) → Bool → Type 0
IsJudgedFor files words old new failed =
    (asked : CheckRequest) × AsksCheck words asked.graphs.now asked.lines.now asked.form asked.faces
    × IsTextOfChecked files asked old new failed 4

-- a request asks for records
abbrev pub IsOfRecords : Request → Type 0
IsOfRecords (Pick asked) = ⊤
IsOfRecords _ = ⊥

-- there are too many files, or no lanes or too many
abbrev pub IsTooMuch : ℕ → ℕ → Type 0
IsTooMuch files lanes = (MAX_FILES < files) ⊎ ((lanes ≡ 0) ⊎ (LANES < lanes))

-- a request is refused: it names too many files, or no lanes or too many; or it asks for records, and the output is a
-- terminal
abbrev pub IsRefusable : Bool → Request → Type 0
IsRefusable terminal (Frames name) = ⊥
IsRefusable terminal (Check asked) = ⊥
IsRefusable terminal (Layout asked) = IsTooMuch (vec_len asked.run.names) asked.run.lanes
IsRefusable terminal (Pick asked) = (terminal ≡ true) ⊎ IsTooMuch (vec_len asked.run.names) asked.run.lanes
IsRefusable terminal (Count asked) = IsTooMuch (vec_len asked.run.names) asked.run.lanes

-- The outcome of a command line, where the file with a name means what `files` says: the output was `old` and is `new`,
-- of which these bytes are taken and which may have failed, and may be a terminal; this is known of standard error, and the
-- program ends with this status.
pub record IsOutcome {S : Type 0} (files : List ℕ → Meaning) (words : List (String Global)) (terminal : Bool) (err : ErrorOutput) (taken : S → Option (List ℕ)) (failed : S → Bool) (old new : S) (status : ℕ) : Type 0 where
  pub in_range : status ≤ 4
  pub failed_write : failed new ≡ true → status ≡ 1
  pub refused : status ≡ 2 → new ≡ old
  pub refusable : status ≡ 2 → (request : Request) → IsAskedBy words request → IsRefusable terminal request
  pub too_much : (request : Request) → IsAskedBy words request → IsRefusable terminal request → (new ≡ old) × ((status ≡ 1) ⊎ (status ≡ 2))
  pub for_terminal : terminal ≡ true → asks_in Keyword.Pick words ≡ true → asks_in Keyword.Help words ≡ false
      → (new ≡ old) × ((status ≡ 1) ⊎ (status ≡ 2))
  pub version : asks_in Keyword.Version words ≡ true → IsPrinted version_text (taken old) (taken new) (failed new) status
  pub help : asks_in Keyword.Version words ≡ false → asks_in Keyword.Help words ≡ true
      → IsHelped words (taken old) (taken new) (failed new) status ⊎ ((new ≡ old) × ((status ≡ 1) ⊎ (status ≡ 2)))
  pub done : (status ≡ 0) ⊎ (status ≡ 3) → IsDoneFor files words err (taken old) (taken new) (failed new) status
  pub judged : status ≡ 4 → IsJudgedFor files words (taken old) (taken new) (failed new)
  pub begun : status ≡ 1 → asks_in Keyword.Version words ≡ false → asks_in Keyword.Help words ≡ false
      → (new ≡ old) ⊎ ((request : Request) × IsAskedBy words request × IsBegunToBeDone files request (taken old) (taken new))
