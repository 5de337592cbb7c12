-- Texts of verdicts, where less is known of the files by their names than of what was opened.
use Rattle.std.proofs.Common.{◌≡◌, ◌∙◌, ℕ, Bool, List, Option, Some, sym, subst}
use Rattle.checking.specs.declared.run.CheckOptions.{CheckOptions}
use Rattle.checking.specs.Runs.{IsTextOfVerdicts, IsBegunTextOfVerdicts}

abbrev pub KnowsMore : Option (List ℕ) → Bool → Option (List ℕ) → Bool → Type 0
KnowsMore known fails less less_fails = (bytes : List ℕ) → less ≡ Some bytes → (known ≡ Some bytes) × (fails ≡ less_fails)

known_less : (known less : Option (List ℕ)) (fails less_fails : Bool) (bytes : List ℕ) (cut : Bool) → KnowsMore known fails less less_fails
    → ((all : List ℕ) → known ≡ Some all → (all ≡ bytes) × (fails ≡ cut)) → (all : List ℕ) → less ≡ Some all → (all ≡ bytes) × (less_fails ≡ cut)
known_less known less fails less_fails bytes cut more knows all is =
    let same = more all is in
    let both = knows all same.0 in
    (both.0, sym same.1 ∙ both.1)

module _ (how asked : CheckOptions) (same : how ≡ asked) (known less : Option (List ℕ)) (fails less_fails : Bool) (known_lines less_lines : Option (List ℕ)) (lines_fail less_lines_fail : Bool)
    (old new : Option (List ℕ)) (more : KnowsMore known fails less less_fails) (more_lines : KnowsMore known_lines lines_fail less_lines less_lines_fail) where
  pub verdicts_less : (failed : Bool) (status : ℕ) → IsTextOfVerdicts how known fails known_lines lines_fail old new failed status
      → IsTextOfVerdicts asked less less_fails less_lines less_lines_fail old new failed status
  verdicts_less failed status is = subst (λ a. IsTextOfVerdicts a less less_fails less_lines less_lines_fail old new failed status) same (record {
    bytes = is.bytes;
    cut = is.cut;
    records = is.records;
    mark = is.mark;
    marked = is.marked;
    known_bytes = known_less known less fails less_fails is.bytes is.cut more is.known_bytes;
    line_bytes = is.line_bytes;
    lines_cut = is.lines_cut;
    known_line_bytes = known_less known_lines less_lines lines_fail less_lines_fail is.line_bytes is.lines_cut more_lines is.known_line_bytes;
    kept = is.kept;
    keeps = is.keeps;
    verdicts = is.verdicts;
    each = is.each;
    surplus = is.surplus;
    behind = is.behind;
    text = is.text;
    written = is.written;
    ok = is.ok;
    not_whole = is.not_whole;
    other = is.other;
  })

  pub begun_verdicts_less : IsBegunTextOfVerdicts how known fails known_lines lines_fail old new → IsBegunTextOfVerdicts asked less less_fails less_lines less_lines_fail old new
  begun_verdicts_less is = subst (λ a. IsBegunTextOfVerdicts a less less_fails less_lines less_lines_fail old new) same (record {
    bytes = is.bytes;
    cut = is.cut;
    records = is.records;
    mark = is.mark;
    marked = is.marked;
    known_bytes = known_less known less fails less_fails is.bytes is.cut more is.known_bytes;
    line_bytes = is.line_bytes;
    lines_cut = is.lines_cut;
    known_line_bytes = known_less known_lines less_lines lines_fail less_lines_fail is.line_bytes is.lines_cut more_lines is.known_line_bytes;
    kept = is.kept;
    keeps = is.keeps;
    verdicts = is.verdicts;
    each = is.each;
    surplus = is.surplus;
    behind = is.behind;
    text = is.text;
  })
