-- The lines of a source to its end, where a reader has given some.
use Rattle.std.proofs.Common.{◌≡◌, ℕ, Bool, true, false, List, [], ◌++◌, Option, None, Some, length, inr, refl, ap, sym, subst, ◌∙◌, append_assoc}
use Rattle.std.specs.Prelude.{All}
use Rattle.std.specs.List.{flat_map}
use Rattle.std.specs.Io.KnownBytes.{Consumes}
use Rattle.std.proofs.KnownBytes.{Consumes-nil}
use Rattle.streams.specs.declared.frames.Mark.{Mark}
use Rattle.streams.specs.Sink.{AppendsPrefix}
use Rattle.streams.specs.Reading.{IsKnownOf}
use Rattle.streams.proofs.Sinks.{added_none}
use Rattle.checking.specs.declared.line_reader.Lines.{Lines}
use Rattle.checking.specs.declared.line_reader.SourceState.{SourceState}
use Rattle.checking.specs.declared.line_reader.SourceState.TheVariants as state
use Rattle.checking.specs.Lines.{IsNoEnd, IsOpenAfter, HasGivenAll, HasGiven, lines_of, ended_line, state_in, rest_in, fails_in}
use Rattle.checking.proofs.Dividing.{lines-given, ended_lines-given}
use Rattle.checking.specs.declared.judging.Verdict.{Verdict}
use Rattle.checking.specs.Text.{verdict_lines, last_line}
use Rattle.checking.specs.declared.run.CheckOptions.{CheckOptions}
use Rattle.checking.specs.Pairs.{KeepsAllBut, AreVerdicts}
use Rattle.checking.specs.Runs.{verdicts_text}
use Rattle.checking.specs.UnderWay.{MayFail, Keeps, HasKept, IsCutShort}
use Rattle.checking.proofs.Pairing.{all_kept, rest_kept, more_lines}

-- the lines of a source of which this is known, each with the record at its place
pub record AreSettled (known : Option (List ℕ)) (known_fails faces : Bool) (records : List (List ℕ)) (verdicts : List Verdict) : Type 0 where
  pub line_bytes : List ℕ
  pub lines_cut : Bool
  pub gave : IsKnownOf known known_fails line_bytes lines_cut
  pub kept : List (List ℕ)
  pub keeps : KeepsAllBut (lines_of line_bytes lines_cut) kept
  pub each : AreVerdicts faces lines_cut records kept verdicts

-- lines that were given come first
given_first : (given : List (List ℕ)) (left : List ℕ) (cut : Bool) → All IsNoEnd given → lines_of (flat_map ended_line given ++ left) cut ≡ given ++ lines_of left cut
given_first given left true each = ended_lines-given given left each
given_first given left false each = lines-given given left each

-- the bytes that are left, and whether the source then fails
left_of : (known rest : Option (List ℕ)) (known_fails : Bool) (given : List ℕ) → Consumes known rest given
    → (left : List ℕ) × (cut : Bool) × IsKnownOf known known_fails (given ++ left) cut
left_of None rest known_fails given took = ([], false, tt)
left_of (Some all) None known_fails given took = absurd took
left_of (Some all) (Some left) known_fails given took = (left, known_fails, (took, refl))

settled_open : (known rest : Option (List ℕ)) (known_fails fails faces : Bool) (given kept records : List (List ℕ)) (verdicts : List Verdict)
    → IsOpenAfter known known_fails rest fails given → KeepsAllBut given kept → length kept ≡ length records
    → ((failed : Bool) → AreVerdicts faces failed records kept verdicts) → AreSettled known known_fails faces records verdicts
settled_open known rest known_fails fails faces given kept records verdicts opened keeps same each =
    let left = left_of known rest known_fails (flat_map ended_line given) opened.took in
    let later = lines_of left.0 left.1 in
    record {
      line_bytes = flat_map ended_line given ++ left.0;
      lines_cut = left.1;
      gave = left.2;
      kept = kept ++ later;
      keeps = subst (λ (l : List (List ℕ)). KeepsAllBut l (kept ++ later)) (sym (given_first given left.0 left.1 opened.each)) (rest_kept given kept later keeps);
      each = more_lines faces left.1 records kept later verdicts same (each left.1);
    }

settled_closed : (known : Option (List ℕ)) (known_fails failed faces : Bool) (given kept records : List (List ℕ)) (verdicts : List Verdict)
    → HasGivenAll known known_fails failed given → KeepsAllBut given kept → AreVerdicts faces failed records kept verdicts
    → AreSettled known known_fails faces records verdicts
settled_closed known known_fails failed faces given kept records verdicts all keeps each = record {
  line_bytes = all.bytes;
  lines_cut = failed;
  gave = all.gave;
  kept = kept;
  keeps = subst (λ (l : List (List ℕ)). KeepsAllBut l kept) all.all keeps;
  each = each;
}

settled_in : (s : SourceState) (known rest : Option (List ℕ)) (known_fails fails faces : Bool) (given kept records : List (List ℕ)) (verdicts : List Verdict)
    → HasGiven known known_fails s rest fails given → KeepsAllBut given kept → Keeps s (length kept) (length records)
    → ((failed : Bool) → MayFail s failed → AreVerdicts faces failed records kept verdicts) → AreSettled known known_fails faces records verdicts
settled_in state.Open known rest known_fails fails faces given kept records verdicts has keeps many each =
    settled_open known rest known_fails fails faces given kept records verdicts has keeps many (λ failed. each failed tt)
settled_in state.Ended known rest known_fails fails faces given kept records verdicts has keeps many each =
    settled_closed known known_fails false faces given kept records verdicts has keeps (each false refl)
settled_in state.Failed known rest known_fails fails faces given kept records verdicts has keeps many each =
    settled_closed known known_fails true faces given kept records verdicts has keeps (each true refl)

pub settled : {L : Type 0} (to_come : L → Option (List ℕ)) (fails : L → Bool) (known : Option (List ℕ)) (known_fails faces : Bool) (lines : Lines L) (kept records : List (List ℕ)) (verdicts : List Verdict)
    → HasKept to_come fails known known_fails lines kept → Keeps (state_in lines) (length kept) (length records)
    → ((failed : Bool) → MayFail (state_in lines) failed → AreVerdicts faces failed records kept verdicts) → AreSettled known known_fails faces records verdicts
settled to_come fails known known_fails faces lines kept records verdicts has many each =
    settled_in (state_in lines) known (rest_in to_come lines) known_fails (fails_in fails lines) faces has.given kept records verdicts has.has_given has.keeps many each

-- a prefix of a text is one of what goes on from it
longer : (start now : Option (List ℕ)) (text more whole : List ℕ) → whole ≡ text ++ more → AppendsPrefix start now text → AppendsPrefix start now whole
longer start now text more whole is prefix =
    (prefix.0, prefix.1 ++ more, is ∙ ap (λ (l : List ℕ). l ++ more) prefix.2 ∙ append_assoc prefix.0 prefix.1 more, prefix.3)

-- a prefix of the lines of verdicts was added
pub cut_short : (options : CheckOptions) (known : Option (List ℕ)) (known_fails : Bool) (start now : Option (List ℕ)) (mark : Mark) (surplus : ℕ) (records : List (List ℕ)) (verdicts : List Verdict)
    → AreSettled known known_fails options.faces records verdicts → AppendsPrefix start now (verdict_lines options.form 1 verdicts)
    → IsCutShort options known known_fails start now mark surplus records
cut_short options known known_fails start now mark surplus records verdicts is text = record {
  line_bytes = is.line_bytes;
  lines_cut = is.lines_cut;
  gave = is.gave;
  kept = is.kept;
  keeps = is.keeps;
  verdicts = verdicts;
  each = is.each;
  behind = inr text;
  text = longer start now (verdict_lines options.form 1 verdicts) (last_line options.form mark (length verdicts) surplus) (verdicts_text options.form verdicts mark surplus) refl text;
}

-- nothing was judged
pub nothing_judged : (options : CheckOptions) (known : Option (List ℕ)) (known_fails : Bool) (start : Option (List ℕ)) (mark : Mark) (surplus : ℕ) → IsCutShort options known known_fails start start mark surplus []
nothing_judged options known known_fails start mark surplus =
    let left = left_of known known known_fails [] (Consumes-nil known) in
    record {
      line_bytes = left.0;
      lines_cut = left.1;
      gave = left.2;
      kept = lines_of left.0 left.1;
      keeps = all_kept (lines_of left.0 left.1);
      verdicts = [];
      each = tt;
      behind = inr ([], [], refl, added_none start);
      text = ([], verdicts_text options.form [] mark surplus, refl, added_none start);
    }
