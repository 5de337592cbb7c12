-- The verdicts on records, each with the next line that is no end of a run.
use Rattle.std.specs.Prelude.{◌≡◌, ◌≢◌, ◌⊎◌, ◌<◌, ◌≤◌, ◌-◌, ◌^◌, min, ℕ, Bool, true, false, List, [], ◌∷◌, length, drop, Option, Some, None, All, ⊤}
use Rattle.planar_code.specs.Stream.{lists_of}
use Rattle.checking.specs.declared.line_buffer.TheConstants.{MAX_LINE}
use Rattle.checking.specs.declared.json.LineFault.{LineFault}
use Rattle.checking.specs.declared.json.LineFault.TheVariants as line
use Rattle.checking.specs.LineContents.{IsEndLine, SaysDrawing, SaysNothing, IsWrongLine}
use Rattle.checking.specs.Verdicts.{IsVerdict}
use Rattle.checking.specs.declared.line_content.DrawingInput.{DrawingInput}
use Rattle.checking.specs.declared.line_content.DrawingInput.TheVariants as given
use Rattle.checking.specs.declared.judging.Verdict.{Verdict}
use Rattle.checking.specs.declared.judging.Verdict.TheVariants as verdict

-- a line is the end of a run: its value has a field `end`, and it is not too long to be read
pub record EndsRun (line : List ℕ) : Type 0 where
  pub short : length line ≤ MAX_LINE
  pub says : IsEndLine line

-- the lines without some that are the end of a run
abbrev pub KeepsAllBut : List (List ℕ) → List (List ℕ) → Type 0
KeepsAllBut [] kept = kept ≡ []
KeepsAllBut (line ∷ lines) kept = (EndsRun line × KeepsAllBut lines kept) ⊎ ((rest : List (List ℕ)) × (kept ≡ line ∷ rest) × KeepsAllBut lines rest)

-- a line gives no drawing: it says none, and the fault is that of its first wrong field; or it is too long to be read
abbrev pub GivesNone : List ℕ → LineFault → Type 0
GivesNone bytes fault = ((length bytes ≤ MAX_LINE) × SaysNothing bytes × IsWrongLine bytes fault) ⊎ ((MAX_LINE < length bytes) × (fault ≡ line.Malformed))

-- what is given tells of a line, or that there is none: the source ended, or a read failed. Want of memory tells nothing
abbrev pub TellsOf : Bool → Option (List ℕ) → DrawingInput → Type 0
TellsOf failed (Some bytes) (given.Drawing said) = (length bytes ≤ MAX_LINE) × SaysDrawing bytes said.points said.claims
TellsOf failed (Some bytes) (given.Fault fault) = fault ≢ line.Memory → GivesNone bytes fault
TellsOf failed (Some bytes) _ = ⊥
TellsOf failed None given.Missing = failed ≡ false
TellsOf failed None given.Unread = failed ≡ true
TellsOf failed None _ = ⊥

-- it is not the end of a run, if it is a line
abbrev pub GoesOn : Option (List ℕ) → Type 0
GoesOn (Some bytes) = ¬ EndsRun bytes
GoesOn None = ⊤

-- A verdict on a record and its line, or on a record for which there is none. Unless it is that memory ran out, the line
-- is not the end of a run.
pub record IsVerdictOf (faces failed : Bool) (bytes : List ℕ) (line : Option (List ℕ)) (v : Verdict) : Type 0 where
  pub given : DrawingInput
  pub tells : TellsOf failed line given
  pub holds : IsVerdict faces (lists_of bytes) given v
  pub goes_on : v ≢ verdict.Memory → GoesOn line

-- one verdict a record, in order, each with its line as long as there are lines
abbrev pub AreVerdicts : Bool → Bool → List (List ℕ) → List (List ℕ) → List Verdict → Type 0
AreVerdicts faces failed [] lines [] = ⊤
AreVerdicts faces failed [] lines (v ∷ vs) = ⊥
AreVerdicts faces failed (bytes ∷ records) lines [] = ⊥
AreVerdicts faces failed (bytes ∷ records) [] (v ∷ vs) = IsVerdictOf faces failed bytes None v × AreVerdicts faces failed records [] vs
AreVerdicts faces failed (bytes ∷ records) (line ∷ lines) (v ∷ vs) = IsVerdictOf faces failed bytes (Some line) v × AreVerdicts faces failed records lines vs

-- the lines after those of this many records, none of which is the end of a run; as a number of 64 bits
pub record AreSurplus (records : ℕ) (lines : List (List ℕ)) (surplus : ℕ) : Type 0 where
  pub counted : surplus ≡ min (length (drop records lines)) (2 ^ 64 - 1)
  pub each : All (λ line. ¬ EndsRun line) (drop records lines)
