-- What has been written of what has arrived, and what is buffered.
use Rattle.std.specs.Prelude.{◌≡◌, ℕ, zero, suc, ◌+◌, ◌<◌, ◌≤◌, ◌⊎◌, List, [], ◌++◌, length, Option, None, Some, slice_index_or}
use Rattle.streams.specs.declared.frames.Mark.{Mark}
use Rattle.streams.specs.Sink.{AppendsPrefix, IsInTransit}
use Rattle.streams.specs.declared.frames.Form.{Form}
use Rattle.collector.specs.FormLines.{preamble_in, lines_in, end_in}
use Rattle.file_order.specs.declared.chunks.Waiting.{Waiting}
use Rattle.collector.specs.Came.{Came, HasMark}

-- the text before the lines of this file, counted from 0, and its lines so far
abbrev pub begun : Form → ℕ → Came → List ℕ
begun form file came = preamble_in form (file + 1) ++ lines_in form came.entries

-- the last line of a file with this number, once it has a mark
abbrev pub last_in : Form → ℕ → Option Mark → ℕ → List ℕ
last_in form number None count = []
last_in form number (Some mark) count = end_in form number mark count

-- the text of this file, counted from 0
abbrev pub ended : Form → ℕ → Came → List ℕ
ended form file came = begun form file came ++ last_in form (file + 1) came.mark (length came.entries)

-- the texts of the first files, one after another
abbrev pub ended_texts : Form → (ℕ → Came) → ℕ → List ℕ
ended_texts form came zero = []
ended_texts form came (suc file) = ended_texts form came file ++ ended form file (came file)

-- Of this many files the first have ended, and a prefix was added of their texts, or of these and what has arrived of
-- the next file.
pub record IsPartialText (form : Form) (start now : Option (List ℕ)) (files : ℕ) (came : ℕ → Came) : Type 0 where
  pub current : ℕ
  pub within : current ≤ files
  pub marked : (file : ℕ) → file < current → HasMark (came file)
  pub text : AppendsPrefix start now (ended_texts form came current)
      ⊎ ((current < files) × AppendsPrefix start now (ended_texts form came current ++ begun form current (came current)))

-- the entries are counted and the mark is kept
pub record IsCounted (waiting : Waiting) (came : Came) : Type 0 where
  pub count : waiting.count ≡ length came.entries
  pub mark : waiting.mark ≡ came.mark

-- The texts of the files before the current file are in transit, followed by what has arrived of the current file. What
-- has arrived of the files after it is buffered.
pub record AreWritten (form : Form) (start now : Option (List ℕ)) (buffer : List ℕ) (current : ℕ) (waiting : List Waiting) (came : ℕ → Came) : Type 0 where
  pub within : current ≤ length waiting
  pub marked : (file : ℕ) → file < current → HasMark (came file)
  pub counted : (file : ℕ) (other : Waiting) → current ≤ file → file < length waiting → IsCounted (slice_index_or waiting file other) (came file)
  pub lines : (file : ℕ) (other : Waiting) → current < file → file < length waiting
      → (slice_index_or waiting file other).lines ≡ lines_in form (came file).entries
  pub going : current < length waiting → IsInTransit start now buffer (ended_texts form came current ++ begun form current (came current))
  pub over : length waiting ≤ current → IsInTransit start now buffer (ended_texts form came current)
