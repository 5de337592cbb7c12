-- A run under way: what was said of the records so far. Only private contracts speak of it.
use Rattle.std.specs.Prelude.{◌≡◌, ◌≢◌, ◌↔◌, ◌⊎◌, ◌≤◌, ◌-◌, ◌^◌, min, ℕ, Bool, true, false, List, [], ◌∷◌, ◌++◌, length, Option, Some, All, ⊤}
use Rattle.checking.specs.declared.line_reader.Lines.{Lines}
use Rattle.checking.specs.declared.line_reader.SourceState.{SourceState}
use Rattle.checking.specs.declared.line_reader.SourceState.TheVariants as state
use Rattle.checking.specs.Lines.{HasGiven, lines_of, state_in, rest_in, fails_in}
use Rattle.streams.specs.declared.frames.Mark.{Mark}
use Rattle.streams.specs.Marks.{IsBeginningOf}
use Rattle.streams.specs.Reading.{IsKnownOf}
use Rattle.streams.specs.Sink.{AppendsPrefix, IsInTransit}
use Rattle.checking.specs.declared.json.LineFault.TheVariants as fault
use Rattle.checking.specs.declared.line_content.DrawingInput.{DrawingInput}
use Rattle.checking.specs.declared.line_content.DrawingInput.TheVariants as given
use Rattle.checking.specs.declared.judging.Verdict.{Verdict}
use Rattle.checking.specs.declared.judging.Verdict.TheVariants as verdict
use Rattle.checking.specs.Text.{verdict_lines}
use Rattle.checking.specs.declared.run.Checker.{Checker}
use Rattle.checking.specs.declared.line_content.Trailing.{Trailing}
use Rattle.checking.specs.declared.line_content.Trailing.TheVariants as behind
use Rattle.checking.specs.declared.line_content.TrailingLines.{TrailingLines}
use Rattle.checking.specs.declared.run.CheckOptions.{CheckOptions}
use Rattle.checking.specs.Pairs.{EndsRun, KeepsAllBut, TellsOf, AreVerdicts, AreSurplus}
use Rattle.checking.specs.Runs.{IsOk, verdicts_text}

-- whether a read of the lines fails, as far as it is known by now
abbrev pub MayFail : SourceState → Bool → Type 0
MayFail state.Open failed = ⊤
MayFail state.Ended failed = failed ≡ false
MayFail state.Failed failed = failed ≡ true

-- the state of a reader that has read all: a read failed, or the source ended
abbrev pub closed : Bool → SourceState
closed true = state.Failed
closed false = state.Ended

-- as many lines as records, as long as there are more
abbrev pub Keeps : SourceState → ℕ → ℕ → Type 0
Keeps state.Open kept records = kept ≡ records
Keeps _ kept records = kept ≤ records

-- of a source of which this is known, a reader has given these lines, and others that are the end of a run
pub record HasKept {L : Type 0} (to_come : L → Option (List ℕ)) (fails : L → Bool) (known : Option (List ℕ)) (known_fails : Bool) (lines : Lines L) (kept : List (List ℕ)) : Type 0 where
  pub given : List (List ℕ)
  pub has_given : HasGiven known known_fails (state_in lines) (rest_in to_come lines) (fails_in fails lines) given
  pub keeps : KeepsAllBut given kept

-- a reader that had given the lines in `kept` gives no more, since the source ended or a read failed
pub record KeepsNoMore {L : Type 0} (to_come : L → Option (List ℕ)) (fails : L → Bool) (known : Option (List ℕ)) (known_fails failed : Bool) (before : SourceState) (lines : Lines L) (kept : List (List ℕ)) : Type 0 where
  pub ended : state_in lines ≡ closed failed
  pub may_fail : MayFail before failed
  pub has_kept : HasKept to_come fails known known_fails lines kept

-- it gives one more, of which this is told
pub record KeepsOneMore {L : Type 0} (to_come : L → Option (List ℕ)) (fails : L → Bool) (known : Option (List ℕ)) (known_fails : Bool) (before : SourceState) (lines : Lines L) (kept : List (List ℕ)) (told : DrawingInput) : Type 0 where
  pub line : List ℕ
  pub opened : before ≡ state.Open
  pub tells : TellsOf false (Some line) told
  pub has_kept : HasKept to_come fails known known_fails lines (kept ++ line ∷ [])

abbrev pub KeepsNext : {L : Type 0} → (L → Option (List ℕ)) → (L → Bool) → Option (List ℕ) → Bool → SourceState → Lines L → List (List ℕ) → DrawingInput → Type 0
KeepsNext to_come fails known known_fails before lines kept given.Missing = KeepsNoMore to_come fails known known_fails false before lines kept
KeepsNext to_come fails known known_fails before lines kept given.Unread = KeepsNoMore to_come fails known known_fails true before lines kept
KeepsNext to_come fails known known_fails before lines kept told = KeepsOneMore to_come fails known known_fails before lines kept told

-- what is given after the last record
abbrev pub trailing_of : DrawingInput → Trailing
trailing_of (given.Drawing said) = behind.Line
trailing_of (given.Fault fault.Memory) = behind.OutOfMemory
trailing_of (given.Fault other) = behind.Line
trailing_of given.Missing = behind.End false
trailing_of given.Unread = behind.End true

-- a reader that had given the lines in `kept` has given some more, none of which is the end of a run
pub record KeepsMore {L : Type 0} (to_come : L → Option (List ℕ)) (fails : L → Bool) (known : Option (List ℕ)) (known_fails : Bool) (before : SourceState) (lines : Lines L) (kept : List (List ℕ)) (surplus : ℕ) : Type 0 where
  pub more : List (List ℕ)
  pub has_kept : HasKept to_come fails known known_fails lines (kept ++ more)
  pub each : All (λ line. ¬ EndsRun line) more
  pub counted : surplus ≡ min (length more) (2 ^ 64 - 1)
  pub opened : (before ≡ state.Open) ⊎ ((state_in lines ≡ before) × (more ≡ []))

-- it has given all that there are
pub record KeepsRest {L : Type 0} (to_come : L → Option (List ℕ)) (fails : L → Bool) (known : Option (List ℕ)) (known_fails : Bool) (before : SourceState) (lines : Lines L) (kept : List (List ℕ)) (rest : TrailingLines) : Type 0 where
  pub all : KeepsMore to_come fails known known_fails before lines kept rest.surplus
  pub ended : state_in lines ≡ closed rest.failed
  pub may_fail : MayFail before rest.failed

-- Of a source of lines of which this is known, the checker has taken those that belong to these records; the lines of their
-- verdicts were added to the output from `start` on, or wait.
pub record IsUnderWay {L : Type 0} (to_come : L → Option (List ℕ)) (fails : L → Bool) (known : Option (List ℕ)) (known_fails : Bool) (start now : Option (List ℕ)) (checker : Checker L) (records : List (List ℕ)) : Type 0 where
  pub kept : List (List ℕ)
  pub has_kept : HasKept to_come fails known known_fails checker.lines kept
  pub as_many : Keeps (state_in checker.lines) (length kept) (length records)
  pub verdicts : List Verdict
  pub each : (failed : Bool) → MayFail (state_in checker.lines) failed → AreVerdicts checker.options.faces failed records kept verdicts
  pub text : IsInTransit start now checker.text (verdict_lines checker.options.form 1 verdicts)
  pub oks : (checker.all_ok ≡ true) ↔ All IsOk verdicts
  pub wants : (checker.wants_memory ≡ false) ↔ All (λ v. v ≢ verdict.Memory) verdicts

-- Of a source of lines of which this is known, some belong to these records, and of the text of their verdicts and a last
-- line with this mark and this number of lines, a prefix was added to the output. That is the number of the lines that
-- are left, or no byte of the last line was added.
pub record IsCutShort (options : CheckOptions) (known : Option (List ℕ)) (known_fails : Bool) (start now : Option (List ℕ)) (mark : Mark) (surplus : ℕ) (records : List (List ℕ)) : Type 0 where
  pub line_bytes : List ℕ
  pub lines_cut : Bool
  pub gave : IsKnownOf known known_fails line_bytes lines_cut
  pub kept : List (List ℕ)
  pub keeps : KeepsAllBut (lines_of line_bytes lines_cut) kept
  pub verdicts : List Verdict
  pub each : AreVerdicts options.faces lines_cut records kept verdicts
  pub behind : AreSurplus (length records) kept surplus ⊎ AppendsPrefix start now (verdict_lines options.form 1 verdicts)
  pub text : AppendsPrefix start now (verdicts_text options.form verdicts mark surplus)

-- so it is of some of these records, the first ones
pub record IsCutShortWithin (options : CheckOptions) (known : Option (List ℕ)) (known_fails : Bool) (start now : Option (List ℕ)) (mark : Mark) (surplus : ℕ) (records : List (List ℕ)) : Type 0 where
  pub judged : List (List ℕ)
  pub first : IsBeginningOf judged records
  pub short : IsCutShort options known known_fails start now mark surplus judged

-- A checker that had checked as many records as `first` says has checked these ones too. The output was `old_out` and is
-- `new_out`.
abbrev pub GoesOnBy : {L : Type 0} → (L → Option (List ℕ)) → (L → Bool) → ℕ → List (List ℕ) → Option (List ℕ) → Option (List ℕ) → Checker L → Checker L → Type 0
GoesOnBy to_come fails first records old_out new_out old new =
    (known : Option (List ℕ)) (known_fails : Bool) (start : Option (List ℕ)) (earlier : List (List ℕ)) → length earlier ≡ first
    → IsUnderWay to_come fails known known_fails start old_out old earlier
    → IsUnderWay to_come fails known known_fails start new_out new (earlier ++ records)

-- it has checked some of these ones, and the text is then cut short
abbrev pub IsCutShortBy : {L : Type 0} → (L → Option (List ℕ)) → (L → Bool) → ℕ → List (List ℕ) → Option (List ℕ) → Option (List ℕ) → Checker L → Type 0
IsCutShortBy to_come fails first records old_out new_out old =
    (known : Option (List ℕ)) (known_fails : Bool) (start : Option (List ℕ)) (earlier : List (List ℕ)) (mark : Mark) (surplus : ℕ) → length earlier ≡ first
    → IsUnderWay to_come fails known known_fails start old_out old earlier
    → IsCutShortWithin old.options known known_fails start new_out mark surplus (earlier ++ records)
