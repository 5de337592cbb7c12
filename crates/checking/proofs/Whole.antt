-- A whole run, or one that is cut short.
use Rattle.std.proofs.Common.{◌≡◌, ◌≢◌, ◌↔◌, ◌≤◌, ◌-◌, ◌^◌, min, Result, Ok, Err, ℕ, Bool, true, false, List, [], ◌++◌, Option, None, Some, length, drop, inl, inr, refl, ap, sym, subst, ◌∙◌, append_assoc, append-nil}
use Rattle.std.specs.Prelude.{All, IfOk, OnErr}
use Rattle.std.proofs.Math.Seq.{drop-append_seam}
use Rattle.std.proofs.lemmas.List.{drop_all}
use Rattle.std.proofs.lemmas.List.Elements.{All-nil}
use Rattle.std.specs.Io.KnownBytes.{Appends}
use Rattle.planar_code.specs.declared.partial_record.Ending.{Ending}
use Rattle.planar_code.specs.declared.partial_record.Ending.TheVariants as ending
use Rattle.streams.specs.declared.frames.Mark.{Mark}
use Rattle.streams.specs.declared.frames.Mark.TheVariants as mark
use Rattle.streams.specs.Marks.{IsBeginningOf}
use Rattle.streams.specs.declared.source.SourceEnd.{SourceEnd}
use Rattle.streams.specs.Reading.{IsKnownOf, IsFoundIn}
use Rattle.streams.specs.Sink.{AppendsPrefix}
use Rattle.checking.specs.declared.line_reader.Lines.{Lines}
use Rattle.checking.specs.declared.line_reader.SourceState.{SourceState}
use Rattle.checking.specs.Lines.{HasGivenAll, HasGiven, lines_of, rest_in, fails_in}
use Rattle.checking.specs.declared.judging.Verdict.{Verdict}
use Rattle.checking.specs.declared.judging.Verdict.TheVariants as verdict
use Rattle.checking.specs.declared.run.CheckOptions.{CheckOptions}
use Rattle.streams.specs.declared.output.WriteFault.{WriteFault}
use Rattle.checking.specs.declared.run.CheckOutcome.{CheckOutcome}
use Rattle.checking.specs.declared.run.Checker.{Checker}
use Rattle.checking.specs.declared.line_content.TrailingLines.{TrailingLines}
use Rattle.checking.specs.Pairs.{EndsRun, KeepsAllBut, AreVerdicts, AreSurplus}
use Rattle.checking.specs.Runs.{IsOk, IsWhole, verdicts_text, IsTextOfVerdicts, IsBegunTextOfVerdicts}
use Rattle.checking.specs.UnderWay.{MayFail, closed, Keeps, KeepsRest, IsUnderWay, IsCutShort}
use Rattle.checking.proofs.Pairing.{more_lines}
use Rattle.checking.proofs.Reading.{at_most}

-- ---- what is known of a source

told_bytes : (known : Option (List ℕ)) (fails : Bool) (bytes : List ℕ) (cut : Bool) → IsKnownOf known fails bytes cut
    → (all : List ℕ) → known ≡ Some all → (all ≡ bytes) × (fails ≡ cut)
told_bytes None fails bytes cut gave all is = cc
told_bytes (Some known) fails bytes cut gave all is = let same : all ≡ known = cc in (same ∙ gave.0, gave.1)

-- records that are found if memory then runs out: so are the first of them
pub found_first : (known : Option (List ℕ)) (known_fails : Bool) (judged records : List (List ℕ)) → IsFoundIn known known_fails records (mark.Ended ending.Memory)
    → IsBeginningOf judged records → IsFoundIn known known_fails judged (mark.Ended ending.Memory)
found_first known known_fails judged records found first = record {
  bytes = found.bytes;
  fails = found.fails;
  gave = found.gave;
  marked = λ all end split.
      let more = found.marked all end split in
      (first.0 ++ more.0, more.1 ∙ ap (λ (l : List (List ℕ)). l ++ more.0) first.1 ∙ append_assoc judged first.0 more.0);
}

-- a run that is cut short
pub begun : (options : CheckOptions) (graphs : Option (List ℕ)) (cut : Bool) (known : Option (List ℕ)) (known_fails : Bool) (start now : Option (List ℕ)) (found : Mark) (surplus : ℕ) (records : List (List ℕ))
    → IsFoundIn graphs cut records found → IsCutShort options known known_fails start now found surplus records → IsBegunTextOfVerdicts options graphs cut known known_fails start now
begun options graphs cut known known_fails start now found surplus records is short = record {
  bytes = is.bytes;
  cut = is.fails;
  records = records;
  mark = found;
  marked = is.marked;
  known_bytes = told_bytes graphs cut is.bytes is.fails is.gave;
  line_bytes = short.line_bytes;
  lines_cut = short.lines_cut;
  known_line_bytes = told_bytes known known_fails short.line_bytes short.lines_cut short.gave;
  kept = short.kept;
  keeps = short.keeps;
  verdicts = short.verdicts;
  each = short.each;
  surplus = surplus;
  behind = short.behind;
  text = short.text;
}

-- ---- all lines of a source

-- all lines of a source of which this is known, each with the record at its place, and those after the last record
pub record AreAll (known : Option (List ℕ)) (known_fails faces failed : Bool) (records : List (List ℕ)) (verdicts : List Verdict) (surplus : ℕ) : Type 0 where
  pub line_bytes : List ℕ
  pub gave : IsKnownOf known known_fails line_bytes failed
  pub kept : List (List ℕ)
  pub keeps : KeepsAllBut (lines_of line_bytes failed) kept
  pub each : AreVerdicts faces failed records kept verdicts
  pub behind : AreSurplus (length records) kept surplus

given_all : (failed : Bool) (known rest : Option (List ℕ)) (known_fails fails : Bool) (given : List (List ℕ)) → HasGiven known known_fails (closed failed) rest fails given
    → HasGivenAll known known_fails failed given
given_all true known rest known_fails fails given has = has
given_all false known rest known_fails fails given has = has

-- the lines after as many as there are records
behind_same : (kept more : List (List ℕ)) (records surplus : ℕ) → length kept ≡ records → All (λ line. ¬ EndsRun line) more → surplus ≡ min (length more) (2 ^ 64 - 1)
    → AreSurplus records (kept ++ more) surplus
behind_same kept more records surplus same each counted =
    let rest : drop records (kept ++ more) ≡ more = subst (λ (n : ℕ). drop n (kept ++ more) ≡ more) same (drop-append_seam kept more) in
    record {
      counted = counted ∙ ap (λ (l : List (List ℕ)). min (length l) (2 ^ 64 - 1)) (sym rest);
      each = subst (All (λ line. ¬ EndsRun line)) (sym rest) each;
    }

behind_none : (kept : List (List ℕ)) (records surplus : ℕ) → length kept ≤ records → surplus ≡ 0 → AreSurplus records kept surplus
behind_none kept records surplus few none =
    let rest : drop records kept ≡ [] = drop_all records kept few in
    record {
      counted = rw rest none;
      each = subst (All (λ line. ¬ EndsRun line)) (sym rest) (All-nil (λ line. ¬ EndsRun line));
    }

pub all_read : {L : Type 0} (to_come : L → Option (List ℕ)) (fails : L → Bool) (known : Option (List ℕ)) (known_fails faces : Bool) (before : SourceState) (lines : Lines L)
    (kept records : List (List ℕ)) (verdicts : List Verdict) (rest : TrailingLines) → Keeps before (length kept) (length records)
    → ((failed : Bool) → MayFail before failed → AreVerdicts faces failed records kept verdicts)
    → KeepsRest to_come fails known known_fails before lines kept rest → AreAll known known_fails faces rest.failed records verdicts rest.surplus
all_read to_come fails known known_fails faces before lines kept records verdicts rest many each is =
    let all = given_all rest.failed known (rest_in to_come lines) known_fails (fails_in fails lines) is.all.has_kept.given
    (subst (λ (s : SourceState). HasGiven known known_fails s (rest_in to_come lines) (fails_in fails lines) is.all.has_kept.given) is.ended is.all.has_kept.has_given) in
    let more = is.all.more in
    record {
      line_bytes = all.bytes;
      gave = all.gave;
      kept = kept ++ more;
      keeps = subst (λ (l : List (List ℕ)). KeepsAllBut l (kept ++ more)) all.all is.all.has_kept.keeps;
      each = elim is.all.opened [
        | inl opened ↦ more_lines faces rest.failed records kept more verdicts (subst (λ (s : SourceState). Keeps s (length kept) (length records)) opened many) (each rest.failed is.may_fail)
        | inr none ↦ subst (λ (l : List (List ℕ)). AreVerdicts faces rest.failed records l verdicts) (sym (ap (λ (l : List (List ℕ)). kept ++ l) none.1 ∙ append-nil kept)) (each rest.failed is.may_fail)
      ];
      behind = elim is.all.opened [
        | inl opened ↦ behind_same kept more (length records) rest.surplus (subst (λ (s : SourceState). Keeps s (length kept) (length records)) opened many) is.all.each is.all.counted
        | inr none ↦ subst (λ (l : List (List ℕ)). AreSurplus (length records) l rest.surplus) (sym (ap (λ (l : List (List ℕ)). kept ++ l) none.1 ∙ append-nil kept))
            (behind_none kept (length records) rest.surplus (at_most before (length kept) (length records) many) (is.all.counted ∙ ap (λ (l : List (List ℕ)). min (length l) (2 ^ 64 - 1)) none.1))
      ];
    }

-- a prefix of the whole text was added
pub all_cut_short : (options : CheckOptions) (known : Option (List ℕ)) (known_fails : Bool) (start now : Option (List ℕ)) (found : Mark) (failed : Bool) (records : List (List ℕ)) (verdicts : List Verdict) (surplus : ℕ)
    → AreAll known known_fails options.faces failed records verdicts surplus → AppendsPrefix start now (verdicts_text options.form verdicts found surplus)
    → IsCutShort options known known_fails start now found surplus records
all_cut_short options known known_fails start now found failed records verdicts surplus all text = record {
  line_bytes = all.line_bytes;
  lines_cut = failed;
  gave = all.gave;
  kept = all.kept;
  keeps = all.keeps;
  verdicts = verdicts;
  each = all.each;
  behind = inl all.behind;
  text = text;
}

-- ---- the status

-- whether all was read, and whether all is well
pub record IsStatus (mark : Mark) (failed : Bool) (verdicts : List Verdict) (surplus status : ℕ) : Type 0 where
  pub ok : (IsWhole mark failed verdicts × All IsOk verdicts × (surplus ≡ 0)) ↔ (status ≡ 0)
  pub not_whole : (¬ IsWhole mark failed verdicts) ↔ (status ≡ 3)
  pub other : status ≢ 0 → status ≢ 3 → status ≡ 4

pub status_is : (found : Mark) (failed whole all_ok wants : Bool) (verdicts : List Verdict) (surplus status : ℕ)
    → (all_ok ≡ true) ↔ All IsOk verdicts → (wants ≡ false) ↔ All (λ v. v ≢ verdict.Memory) verdicts
    → (whole ≡ true) ↔ ((found ≡ Mark.Ended Ending.Complete) × (failed ≡ false) × (wants ≡ false))
    → (whole ≡ false) ↔ (status ≡ 3) → ((whole ≡ true) × (all_ok ≡ true) × (surplus ≡ 0)) ↔ (status ≡ 0)
    → (status ≢ 0 → status ≢ 3 → status ≡ 4) → IsStatus found failed verdicts surplus status
status_is found failed whole all_ok wants verdicts surplus status oks wanted is_whole unread well other =
    let to : IsWhole found failed verdicts → whole ≡ true = λ is. is_whole.1 (is.complete, is.lines, wanted.1 is.memory) in
    let from : whole ≡ true → IsWhole found failed verdicts = λ is.
    let all = is_whole.0 is in record { complete = all.0; lines = all.1; memory = wanted.0 all.2 } in
    record {
      ok = (
        λ is. well.0 (to is.0, oks.1 is.1, is.2),
        λ is. let all = well.1 is in (from all.0, oks.0 all.1, all.2),
      );
      not_whole = (
        λ is. unread.0 (elim whole as (λ b. (whole ≡ b) → whole ≡ false) [ true ↦ λ e. absurd (is (from e)) | false ↦ λ e. e ] refl),
        λ is whole_is. let yes = to whole_is in let no = unread.1 is in let never : true ≡ false = sym yes ∙ no in cc,
      );
      other = other;
    }

pub whole_text : (options : CheckOptions) (graphs : Option (List ℕ)) (cut : Bool) (known : Option (List ℕ)) (known_fails : Bool) (start new : Option (List ℕ)) (written failed : Bool)
    (found : Mark) (records : List (List ℕ)) (verdicts : List Verdict) (surplus status : ℕ) → IsFoundIn graphs cut records found
    → AreAll known known_fails options.faces failed records verdicts surplus → Appends start new (verdicts_text options.form verdicts found surplus) → written ≡ false
    → IsStatus found failed verdicts surplus status → IsTextOfVerdicts options graphs cut known known_fails start new written status
whole_text options graphs cut known known_fails start new written failed found records verdicts surplus status is all text intact ends = record {
  bytes = is.bytes;
  cut = is.fails;
  records = records;
  mark = found;
  marked = is.marked;
  known_bytes = told_bytes graphs cut is.bytes is.fails is.gave;
  line_bytes = all.line_bytes;
  lines_cut = failed;
  known_line_bytes = told_bytes known known_fails all.line_bytes failed all.gave;
  kept = all.kept;
  keeps = all.keeps;
  verdicts = verdicts;
  each = all.each;
  surplus = surplus;
  behind = all.behind;
  text = text;
  written = intact;
  ok = ends.ok;
  not_whole = ends.not_whole;
  other = ends.other;
}

-- ---- the end of a run

module _ {L : Type 0} (to_come : L → Option (List ℕ)) (fails : L → Bool) (checker : Checker L) (options : CheckOptions) (end : SourceEnd) (graphs : Option (List ℕ)) (cut : Bool)
    (known : Option (List ℕ)) (known_fails : Bool) (start now new : Option (List ℕ)) (records : List (List ℕ)) where
  pub finished : (written : Bool) (r : Result CheckOutcome WriteFault) → checker.options ≡ options → end.count ≡ length records → IsFoundIn graphs cut records end.mark
      → IsUnderWay to_come fails known known_fails start now checker records
      → IfOk r (λ outcome. (graphs : Option (List ℕ)) (cut : Bool) (known : Option (List ℕ)) (known_fails : Bool) (start : Option (List ℕ)) (records : List (List ℕ))
      → end.count ≡ length records → IsFoundIn graphs cut records end.mark → IsUnderWay to_come fails known known_fails start now checker records
      → IsTextOfVerdicts checker.options graphs cut known known_fails start new written outcome.status)
      → IfOk r (λ outcome. IsTextOfVerdicts options graphs cut known known_fails start new written outcome.status)
  finished written (Ok outcome) same at is u whole =
      subst (λ (o : CheckOptions). IsTextOfVerdicts o graphs cut known known_fails start new written outcome.status) same (whole graphs cut known known_fails start records at is u)
  finished written (Err fault) same at is u whole = tt

  pub finished_short : (r : Result CheckOutcome WriteFault) → checker.options ≡ options → end.count ≡ length records → IsFoundIn graphs cut records end.mark
      → IsUnderWay to_come fails known known_fails start now checker records
      → OnErr r ((known : Option (List ℕ)) (known_fails : Bool) (start : Option (List ℕ)) (records : List (List ℕ))
      → end.count ≡ length records → IsUnderWay to_come fails known known_fails start now checker records
      → (surplus : ℕ) × IsCutShort checker.options known known_fails start new end.mark surplus records)
      → OnErr r (IsBegunTextOfVerdicts options graphs cut known known_fails start new)
  finished_short (Ok outcome) same at is u short = tt
  finished_short (Err fault) same at is u short =
      let cut_off = short known known_fails start records at u in
      subst (λ (o : CheckOptions). IsBegunTextOfVerdicts o graphs cut known known_fails start new) same
      (begun checker.options graphs cut known known_fails start new end.mark cut_off.0 records is cut_off.1)
