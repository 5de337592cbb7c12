-- The lines of verdicts, as a report or as JSON objects.
use Rattle.std.specs.Prelude.{ℕ, ◌+◌, List, [], ◌∷◌, ◌++◌, codes, decimal}
use Rattle.referee.specs.declared.judge.Fault.{Fault}
use Rattle.referee.specs.declared.judge.Fault.TheVariants as fault
use Rattle.streams.specs.declared.frames.Form.{Form}
use Rattle.streams.specs.declared.frames.Form.TheVariants.{Report, Json}
use Rattle.streams.specs.declared.frames.Mark.{Mark}
use Rattle.streams.specs.Text as marks
use Rattle.checking.specs.declared.judging.Verdict.{Verdict}
use Rattle.checking.specs.declared.judging.Verdict.TheVariants as verdict
use Rattle.checking.specs.Words.{word_of}

-- a number with its key, after others
abbrev pub count_text : Form → List ℕ → ℕ → List ℕ
count_text Report key number = codes " " ++ key ++ codes "=" ++ decimal number
count_text Json key number = codes ",\"" ++ key ++ codes "\":" ++ decimal number

-- where a drawing is wrong
abbrev pub place_text : Form → Fault → List ℕ
place_text form (fault.Long edge) = count_text form (codes "edge") edge
place_text form (fault.VertexOutOfGrid vertex) = count_text form (codes "vertex") vertex
place_text form (fault.CornerOutOfGrid edge corner) = count_text form (codes "edge") edge ++ count_text form (codes "corner") corner
place_text form (fault.NotAxis edge part) = count_text form (codes "edge") edge ++ count_text form (codes "part") part
place_text form (fault.NoTurn edge corner) = count_text form (codes "edge") edge ++ count_text form (codes "corner") corner
place_text form (fault.Embedding vertex) = count_text form (codes "vertex") vertex
place_text form _ = []

abbrev pub counts_text : Form → Verdict → List ℕ
counts_text form (verdict.Ok bends fewest) = count_text form (codes "bends") bends ++ count_text form (codes "fewest") fewest
counts_text form (verdict.Drawn f) = place_text form f
counts_text form _ = []

abbrev pub result_text : Form → Verdict → List ℕ
result_text Report v = codes " " ++ word_of v
result_text Json (verdict.Ok bends fewest) = codes ",\"ok\":true"
result_text Json v = codes ",\"ok\":false,\"fault\":\"" ++ word_of v ++ codes "\""

abbrev pub head_text : Form → ℕ → List ℕ
head_text Report number = codes "graph " ++ decimal number
head_text Json number = codes "{\"graph\":" ++ decimal number

abbrev pub tail_text : Form → List ℕ
tail_text Report = codes "\n"
tail_text Json = codes "}\n"

-- the line of the graph with this number
abbrev pub verdict_line : Form → ℕ → Verdict → List ℕ
verdict_line form number v = head_text form number ++ result_text form v ++ counts_text form v ++ tail_text form

-- a line for each verdict, the first of which has this number
abbrev pub verdict_lines : Form → ℕ → List Verdict → List ℕ
verdict_lines form number [] = []
verdict_lines form number (v ∷ vs) = verdict_line form number v ++ verdict_lines form (number + 1) vs

abbrev pub mark_text : Form → Mark → List ℕ
mark_text Report mark = codes "end " ++ marks.word_of mark
mark_text Json mark = codes "{\"end\":\"" ++ marks.word_of mark ++ codes "\""

-- the last line: how the graph file ended, its graphs, and the lines that belong to none of them
abbrev pub last_line : Form → Mark → ℕ → ℕ → List ℕ
last_line form mark graphs surplus =
    mark_text form mark ++ count_text form (codes "graphs") graphs ++ count_text form (codes "surplus") surplus ++ tail_text form
