-- What is told of a line tells whether it is the end of a run, unless memory ran out.
use Rattle.std.proofs.Common.{◌≡◌, ◌≢◌, ℕ, Bool, List, Option, None, Some, inl, inr, ap, subst, arith}
use Rattle.planar_code.specs.Stream.{lists_of}
use Rattle.checking.specs.declared.json.LineFault.{LineFault}
use Rattle.checking.specs.declared.json.LineFault.TheVariants.{Memory}
use Rattle.checking.specs.LineContents.{IsEndLine, SaysDrawing, Says}
use Rattle.checking.specs.Verdicts.{IsVerdict}
use Rattle.checking.specs.declared.line_content.DrawingInput.{DrawingInput}
use Rattle.checking.specs.declared.line_content.DrawingInput.TheVariants as given
use Rattle.checking.specs.declared.line_content.LineContent.{LineContent}
use Rattle.checking.specs.declared.line_content.LineContent.TheVariants as said
use Rattle.checking.specs.declared.line_content.ClaimedDrawing.{ClaimedDrawing}
use Rattle.checking.specs.declared.judging.Verdict.{Verdict}
use Rattle.checking.specs.declared.judging.Verdict.TheVariants as verdict
use Rattle.checking.specs.Pairs.{EndsRun, GivesNone, TellsOf, GoesOn, IsVerdictOf}

-- no line is a drawing and the end of a run
drawing_goes_on : (bytes : List ℕ) (it : ClaimedDrawing) → SaysDrawing bytes it.points it.claims → IsEndLine bytes → ⊥
drawing_goes_on bytes it drawing end =
    let one = drawing.text.text in
    let other = end.text.text in
    let same : drawing.value ≡ end.value = cc in
    end.named (rw same at drawing.goes_on)

pub says_drawing : (line other : List ℕ) (says : LineContent) (drawing : ClaimedDrawing) → line ≡ other → says ≡ said.Drawing drawing → Says line says
    → SaysDrawing other drawing.points drawing.claims
says_drawing line other says drawing same is holds =
    subst (λ (l : List ℕ). SaysDrawing l drawing.points drawing.claims) same (subst (Says line) is holds)

pub says_end : (line other : List ℕ) (says : LineContent) → line ≡ other → says ≡ said.End → Says line says → IsEndLine other
says_end line other says same is holds = subst IsEndLine same (subst (Says line) is holds)

-- nor is one that says none, or is too long
pub none_goes_on : (bytes : List ℕ) (fault : LineFault) → GivesNone bytes fault → EndsRun bytes → ⊥
none_goes_on bytes fault none end = elim none [
  | inl says ↦ says.1.no_end end.says
  | inr long ↦ let short = end.short in let more = long.0 in absurd (omega arith)
]

pub told_goes_on : (failed : Bool) (line : Option (List ℕ)) (told : DrawingInput) → TellsOf failed line told → told ≢ given.Fault Memory → GoesOn line
told_goes_on failed (Some bytes) (given.Drawing it) tells known = λ end. drawing_goes_on bytes it tells.1 end.says
told_goes_on failed (Some bytes) (given.Fault fault) tells known = none_goes_on bytes fault (tells (λ e. known (ap given.Fault e)))
told_goes_on failed (Some bytes) given.Missing tells known = absurd tells
told_goes_on failed (Some bytes) given.Unread tells known = absurd tells
told_goes_on failed None told tells known = tt

-- a verdict where memory that runs out for the line is told
pub judged_as : (faces failed : Bool) (bytes : List ℕ) (line : Option (List ℕ)) (v : Verdict) (told : DrawingInput) → TellsOf failed line told → IsVerdict faces (lists_of bytes) told v
    → (told ≡ given.Fault Memory → v ≡ verdict.Memory) → IsVerdictOf faces failed bytes line v
judged_as faces failed bytes line v told tells holds memory = record {
  given = told;
  tells = tells;
  holds = holds;
  goes_on = λ other. told_goes_on failed line told tells (λ e. other (memory e));
}
