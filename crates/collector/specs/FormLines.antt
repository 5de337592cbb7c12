-- The text of a run in each format, line by line.
use Rattle.std.specs.Prelude.{◌≡◌, ◌≢◌, ℕ, ◌+◌, List, [], ◌∷◌, ◌++◌, length, Option, IfSome}
use Rattle.streams.specs.declared.frames.Mark.{Mark}
use Rattle.reports.specs.declared.answer.Answer.{Answer}
use Rattle.reports.specs.declared.answer.Entry.{Entry}
use Rattle.reports.specs.Books.{BookModel}
use Rattle.streams.specs.declared.frames.Form.{Form}
use Rattle.streams.specs.declared.frames.Form.TheVariants.{Report, Json}
use Rattle.reports.specs.Report.{file_line, entry_line, end_line}
use Rattle.reports.specs.Json.{entry_json, end_json}

-- the line of an entry; files and entries are numbered from 1
abbrev pub line_in : Form → Entry → List ℕ
line_in Report entry = entry_line (entry.ordinal + 1) entry
line_in Json entry = entry_json (entry.file + 1) (entry.ordinal + 1) entry

-- the text before the lines of the file with this number
abbrev pub preamble_in : Form → ℕ → List ℕ
preamble_in Report number = file_line number
preamble_in Json number = []

-- the last line of the file with this number: its mark, and the number of entries
abbrev pub end_in : Form → ℕ → Mark → ℕ → List ℕ
end_in Report number mark count = end_line mark count
end_in Json number mark count = end_json number mark count

-- if there is a line, it is the entry's, and the entry has an answer
abbrev pub IsLineOf : Form → Entry → Option (List ℕ) → Type 0
IsLineOf form entry line = IfSome line (λ text. (entry.answer ≢ Answer.NoMemory) × (text ≡ line_in form entry))

-- the lines of these entries, one after another
abbrev pub lines_in : Form → List Entry → List ℕ
lines_in form [] = []
lines_in form (entry ∷ entries) = line_in form entry ++ lines_in form entries

-- all lines of the file with this number, these entries and this mark
abbrev pub whole_in : Form → ℕ → List Entry → Mark → List ℕ
whole_in form number entries mark = preamble_in form number ++ lines_in form entries ++ end_in form number mark (length entries)

-- all lines of a book with this number
abbrev pub book_in : Form → ℕ → BookModel → List ℕ
book_in form number book = whole_in form number book.entries book.mark
