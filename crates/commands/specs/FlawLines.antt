-- The lines on standard error about files of which something is lacking.
use Rattle.std.specs.Prelude.{◌≡◌, ◌++◌, ◌+◌, ℕ, nat_eq, List, [], ◌∷◌, Option, if◌then◌else◌, codes, decimal}
use Rattle.std.specs.List.{concat}
use Rattle.std.specs.Io.KnownBytes.{Appends}
use Rattle.planar_code.specs.declared.partial_record.Ending.{Ending}
use Rattle.planar_code.specs.declared.partial_record.Ending.TheVariants.{Complete}
use Rattle.streams.specs.declared.frames.Mark.{Mark}
use Rattle.streams.specs.declared.frames.Mark.TheVariants.{Ended, Io}
use Rattle.streams.specs.Text.{word_of}
use Rattle.collector.specs.declared.find_facts.Flaws.{Flaws}
use Rattle.named_sources.specs.Reasons.{IsWhy}

-- the line about a file with this name that does not end complete, but with this word, for this reason, which may be empty
abbrev pub mark_line : List ℕ → List ℕ → List ℕ → List ℕ
mark_line name word why =
    concat (codes "planarbend: " ∷ name ∷ codes ": not complete (" ∷ word ∷ codes ")" ∷ why ∷ codes "\n" ∷ [])

-- nothing if it ends complete
abbrev pub incomplete_line : List ℕ → Mark → List ℕ → List ℕ
incomplete_line name (Ended Complete) why = []
incomplete_line name (Ended ending) why = mark_line name (word_of (Ended ending)) why
incomplete_line name Io why = mark_line name (word_of Io) why

-- the line about the graphs of a file for which memory ran out: their number, and the number of the first, from 1;
-- nothing if there are none
abbrev pub memory_line : List ℕ → Flaws → List ℕ
memory_line name flaws =
    if nat_eq flaws.unanswered 0 then []
    else concat (codes "planarbend: " ∷ name ∷ codes ": graphs for which memory ran out: " ∷ decimal flaws.unanswered
    ∷ codes ", the first is graph " ∷ decimal (flaws.first + 1) ∷ codes "\n" ∷ [])

-- the lines about one file
abbrev pub lines_of_file : List ℕ → Flaws → List ℕ → List ℕ
lines_of_file name flaws why = incomplete_line name flaws.mark why ++ memory_line name flaws

-- the text is that of the lines about files with these names, of which this is lacking, each for some reason or none
abbrev pub AreFlawLines : List (List ℕ) → List Flaws → List ℕ → Type 0
AreFlawLines (name ∷ names) (flaws ∷ more) text =
    (why : List ℕ) × IsWhy why × (rest : List ℕ) × (text ≡ lines_of_file name flaws why ++ rest) × AreFlawLines names more rest
AreFlawLines _ _ text = text ≡ []

-- these lines were added to standard error
abbrev pub IsTold : List (List ℕ) → List Flaws → Option (List ℕ) → Option (List ℕ) → Type 0
IsTold names flaws old new = (text : List ℕ) × AreFlawLines names flaws text × Appends old new text
