-- The text of a report.
use Rattle.std.specs.Prelude.{ℕ, ◌+◌, ◌/◌, List, [], ◌∷◌, ◌++◌, length, codes, decimal, Result, Ok, Err}
use Rattle.streams.specs.declared.frames.Mark.{Mark}
use Rattle.streams.specs.Text as marks
use Rattle.embedding.specs.Words as rules
use Rattle.faces.specs.Planes.{PlaneModel, vertices, darts}
use Rattle.ortho_rep.specs.Shapes.{ShapeModel, turns_at}
use Rattle.ortho_rep.specs.Points.{PointsModel}
use Rattle.ortho_rep.specs.Representation.{bends_of}
use Rattle.reports.specs.declared.answer.Cause.{Cause}
use Rattle.reports.specs.declared.answer.Answer.{Answer}
use Rattle.reports.specs.declared.answer.Answer.TheVariants.{Laid, Refused, NoMemory}
use Rattle.reports.specs.declared.answer.Entry.{Entry}
use Rattle.reports.specs.CauseWords as causes
use Rattle.reports.specs.Books.{BookModel}

-- the texts of several things, one after another, of which the first has this number
abbrev pub numbered_texts : {A : Type 0} → (ℕ → A → List ℕ) → ℕ → List A → List ℕ
numbered_texts text number [] = []
numbered_texts text number (x ∷ xs) = text number x ++ numbered_texts text (number + 1) xs

-- the numbers of vertices, edges and faces of a plane, and of the bends of its shape
abbrev pub sizes_text : PlaneModel → ShapeModel → List ℕ
sizes_text plane shape =
    codes " n=" ++ decimal (vertices plane) ++ codes " m=" ++ decimal (darts plane / 2) ++ codes " f=" ++ decimal plane.faces
    ++ codes " bends=" ++ decimal (bends_of (length shape.strings) (turns_at shape))

-- the text that there is no drawing, with the word of the cause
abbrev pub cause_text : Cause → List ℕ
cause_text cause = codes " drawn=no cause=" ++ causes.word_of cause

-- whether there is a drawing, and the cause if there is none
abbrev pub drawn_text : Result PointsModel Cause → List ℕ
drawn_text (Ok points) = codes " drawn=yes"
drawn_text (Err cause) = cause_text cause

-- the text of an answer, with the sizes of a shape or the word of a rule
abbrev pub answer_text : Answer → List ℕ
answer_text (Laid plane shape prices drawing) = codes " ok" ++ sizes_text plane shape ++ drawn_text drawing
answer_text (Refused rule) = codes " refused " ++ rules.word_of rule
answer_text NoMemory = codes " memory"

-- the line of the graph with this number and this answer
abbrev pub graph_line : ℕ → Answer → List ℕ
graph_line number answer = codes "graph " ++ decimal number ++ answer_text answer ++ codes "\n"

-- the line of the entry with this number
abbrev pub entry_line : ℕ → Entry → List ℕ
entry_line number entry = graph_line number entry.answer

-- the first line of the file with this number
abbrev pub file_line : ℕ → List ℕ
file_line number = codes "file " ++ decimal number ++ codes "\n"

-- the last line of a file: its mark, and the number of entries
abbrev pub end_line : Mark → ℕ → List ℕ
end_line mark count = codes "end " ++ marks.word_of mark ++ codes " graphs=" ++ decimal count ++ codes "\n"

-- the lines of the file with this number; its entries are numbered from 1
abbrev pub book_text : ℕ → BookModel → List ℕ
book_text number book = file_line number ++ numbered_texts entry_line 1 book.entries ++ end_line book.mark (length book.entries)

-- the lines of all files, numbered from 1
abbrev pub report_text : List BookModel → List ℕ
report_text books = numbered_texts book_text 1 books
