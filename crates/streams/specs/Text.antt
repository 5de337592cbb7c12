-- The text output for what a run found.
use Rattle.std.specs.Prelude.{ℕ, ◌+◌, List, [], ◌∷◌, ◌++◌, length, slice_index, codes, decimal}
use Rattle.planar_code.specs.declared.partial_record.Ending.TheVariants as ending
use Rattle.streams.specs.declared.frames.Mark.{Mark}
use Rattle.streams.specs.declared.frames.Mark.TheVariants.{Ended, Io}
use Rattle.streams.specs.FramesModel.{FramesModel}

-- the line of one record: its number, its first byte, and the number of its bytes
abbrev pub record_line : ℕ → List ℕ → List ℕ
record_line number bytes =
    codes "record " ++ decimal number ++ codes " n=" ++ decimal (slice_index bytes 0) ++ codes " bytes=" ++ decimal (length bytes) ++ codes "\n"

-- a line for each record, the first of which has this number
abbrev pub record_lines : ℕ → List (List ℕ) → List ℕ
record_lines number [] = []
record_lines number (bytes ∷ records) = record_line number bytes ++ record_lines (number + 1) records

-- the word of a mark
abbrev pub word_of : Mark → List ℕ
word_of (Ended ending.Complete) = codes "complete"
word_of (Ended ending.Truncated) = codes "truncated"
word_of (Ended ending.Header) = codes "header"
word_of (Ended ending.Large) = codes "large"
word_of (Ended ending.Oversize) = codes "oversize"
word_of (Ended ending.Many) = codes "many"
word_of (Ended ending.Memory) = codes "memory"
word_of Io = codes "io"

-- the last line: the mark, and the number of records
abbrev pub frames_end_line : Mark → ℕ → List ℕ
frames_end_line mark count = codes "end " ++ word_of mark ++ codes " records=" ++ decimal count ++ codes "\n"

-- a line for each record, numbered from 1, and the last line
abbrev pub frames_text : FramesModel → List ℕ
frames_text found = record_lines 1 found.records ++ frames_end_line found.mark (length found.records)
