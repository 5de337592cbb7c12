-- The text of a run, and its status.
use Rattle.std.specs.Prelude.{◌≡◌, ◌≢◌, ◌↔◌, ◌⊎◌, ℕ, Bool, false, List, ◌++◌, length, Option, Some, All, ⊤}
use Rattle.std.specs.Io.KnownBytes.{Appends}
use Rattle.planar_code.specs.declared.partial_record.Ending.{Ending}
use Rattle.streams.specs.declared.frames.Form.{Form}
use Rattle.streams.specs.declared.frames.Mark.{Mark}
use Rattle.streams.specs.Marks.{IsMarked}
use Rattle.streams.specs.Sink.{AppendsPrefix}
use Rattle.checking.specs.Lines.{lines_of}
use Rattle.checking.specs.declared.judging.Verdict.{Verdict}
use Rattle.checking.specs.declared.judging.Verdict.TheVariants as verdict
use Rattle.checking.specs.Text.{verdict_lines, last_line}
use Rattle.checking.specs.declared.run.CheckOptions.{CheckOptions}
use Rattle.checking.specs.Pairs.{KeepsAllBut, AreVerdicts, AreSurplus}

abbrev pub IsOk : Verdict → Type 0
IsOk (verdict.Ok bends fewest) = ⊤
IsOk _ = ⊥

-- all was read: the file of graphs ended complete, no read of the lines failed, and memory sufficed for each record
pub record IsWhole (mark : Mark) (lines_failed : Bool) (verdicts : List Verdict) : Type 0 where
  pub complete : mark ≡ Mark.Ended Ending.Complete
  pub lines : lines_failed ≡ false
  pub memory : All (λ v. v ≢ verdict.Memory) verdicts

-- the text of all verdicts and of the last line
abbrev pub verdicts_text : Form → List Verdict → Mark → ℕ → List ℕ
verdicts_text form verdicts mark surplus = verdict_lines form 1 verdicts ++ last_line form mark (length verdicts) surplus

-- The whole text of a run was added to the output, and the status says how it went. The records and the mark are those of
-- some bytes, after which the file of graphs ends or fails, and of its bytes where they are known; likewise the lines.
pub record IsTextOfVerdicts (options : CheckOptions) (known : Option (List ℕ)) (fails : Bool) (known_lines : Option (List ℕ)) (lines_fail : Bool) (old new : Option (List ℕ)) (failed : Bool) (status : ℕ) : Type 0 where
  pub bytes : List ℕ
  pub cut : Bool
  pub records : List (List ℕ)
  pub mark : Mark
  pub marked : IsMarked bytes cut records mark
  pub known_bytes : (all : List ℕ) → known ≡ Some all → (all ≡ bytes) × (fails ≡ cut)
  pub line_bytes : List ℕ
  pub lines_cut : Bool
  pub known_line_bytes : (all : List ℕ) → known_lines ≡ Some all → (all ≡ line_bytes) × (lines_fail ≡ lines_cut)
  pub kept : List (List ℕ)
  pub keeps : KeepsAllBut (lines_of line_bytes lines_cut) kept
  pub verdicts : List Verdict
  pub each : AreVerdicts options.faces lines_cut records kept verdicts
  pub surplus : ℕ
  pub behind : AreSurplus (length records) kept surplus
  pub text : Appends old new (verdicts_text options.form verdicts mark surplus)
  pub written : failed ≡ false
  pub ok : (IsWhole mark lines_cut verdicts × All IsOk verdicts × (surplus ≡ 0)) ↔ (status ≡ 0)
  pub not_whole : (¬ IsWhole mark lines_cut verdicts) ↔ (status ≡ 3)
  pub other : status ≢ 0 → status ≢ 3 → status ≡ 4

-- A prefix of the text of a run was added to the output. The records and the mark are those of some bytes, and the lines
-- those of some bytes, as in a whole text; if memory ran out, the file of graphs may have more records. The last line has
-- the number of lines that are left, or no byte of it was added.
pub record IsBegunTextOfVerdicts (options : CheckOptions) (known : Option (List ℕ)) (fails : Bool) (known_lines : Option (List ℕ)) (lines_fail : Bool) (old new : Option (List ℕ)) : Type 0 where
  pub bytes : List ℕ
  pub cut : Bool
  pub records : List (List ℕ)
  pub mark : Mark
  pub marked : IsMarked bytes cut records mark
  pub known_bytes : (all : List ℕ) → known ≡ Some all → (all ≡ bytes) × (fails ≡ cut)
  pub line_bytes : List ℕ
  pub lines_cut : Bool
  pub known_line_bytes : (all : List ℕ) → known_lines ≡ Some all → (all ≡ line_bytes) × (lines_fail ≡ lines_cut)
  pub kept : List (List ℕ)
  pub keeps : KeepsAllBut (lines_of line_bytes lines_cut) kept
  pub verdicts : List Verdict
  pub each : AreVerdicts options.faces lines_cut records kept verdicts
  pub surplus : ℕ
  pub behind : AreSurplus (length records) kept surplus ⊎ AppendsPrefix old new (verdict_lines options.form 1 verdicts)
  pub text : AppendsPrefix old new (verdicts_text options.form verdicts mark surplus)
