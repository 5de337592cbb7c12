-- The text of a batch as JSON lines.
use Rattle.std.specs.Prelude.{ℕ, List, ◌++◌, length}
use Rattle.streams.specs.declared.frames.Mark.{Mark}
use Rattle.streams.specs.Text as marks
use Rattle.reports.specs.declared.answer.Entry.{Entry}
use Rattle.reports.specs.LineData.{answer_data, end_data, line_of}
use Rattle.reports.specs.Books.{BookModel}
use Rattle.reports.specs.Report.{numbered_texts}

-- the line of the entry with the second number, of the file with the first
abbrev pub entry_json : ℕ → ℕ → Entry → List ℕ
entry_json file graph entry = line_of (answer_data file graph entry.answer)

-- the line of a file's mark and its number of entries
abbrev pub end_json : ℕ → Mark → ℕ → List ℕ
end_json file mark count = line_of (end_data file (marks.word_of mark) count)

-- the lines of the file with this number; its entries are numbered from 1
abbrev pub book_json : ℕ → BookModel → List ℕ
book_json file book = numbered_texts (entry_json file) 1 book.entries ++ end_json file book.mark (length book.entries)

-- the lines of all files, numbered from 1
abbrev pub json_text : List BookModel → List ℕ
json_text books = numbered_texts book_json 1 books
