-- The line of a record that is drawn.
use Rattle.std.proofs.Common.{◌≡◌, ◌≢◌, ◌+◌, ◌∙◌, ℕ, List, Option, Some, Result, Ok, Err, IfOk, IfSome, ap, subst, sym}
use Rattle.std.specs.Result.{result_ok}
use Rattle.reports.specs.declared.answer.Answer.{Answer}
use Rattle.reports.specs.declared.answer.Answer.TheVariants.{NoMemory}
use Rattle.reports.specs.declared.answer.Entry.{Entry}
use Rattle.streams.specs.declared.frames.Form.{Form}
use Rattle.streams.specs.declared.frames.Form.TheVariants.{Report, Json}
use Rattle.reports.specs.Report.{graph_line}
use Rattle.reports.specs.LineData.{answer_data, line_of}
use Rattle.collector.specs.FormLines.{IsLineOf, line_in}

-- the line of a report with an entry's number and answer is the entry's
pub report_line : (form : Form) (entry : Entry) (number ordinal : ℕ) (answer : Answer) (line : List ℕ)
    → form ≡ Report → entry.ordinal ≡ ordinal → number ≡ ordinal → entry.answer ≡ answer → line ≡ graph_line (number + 1) answer → line ≡ line_in form entry
report_line form entry number ordinal answer line report at same is text =
    text ∙ ap (λ (a : Answer). graph_line (number + 1) a) (sym is) ∙ ap (λ (k : ℕ). graph_line (k + 1) entry.answer) (same ∙ sym at) ∙ ap (λ (f : Form). line_in f entry) (sym report)

-- a line that may have been made, of an entry with an answer
pub line_if_made : {E : Type 0} (form : Form) (entry : Entry) (made : Result (List ℕ) E) (line : Option (List ℕ)) → line ≡ result_ok made → entry.answer ≢ NoMemory
    → IfOk made (λ text. text ≡ line_in form entry) → IsLineOf form entry line
line_if_made form entry (Ok text) line is some same = subst (IsLineOf form entry) (sym is) (some, same)
line_if_made form entry (Err fault) line is some same = subst (IsLineOf form entry) (sym is) tt

-- the JSON line with an entry's numbers and answer is the entry's
pub json_line : (form : Form) (entry : Entry) (number graph file ordinal : ℕ) (answer : Answer) (line : List ℕ)
    → form ≡ Json → entry.file ≡ file → entry.ordinal ≡ ordinal → number ≡ file + 1 → graph ≡ ordinal → entry.answer ≡ answer
    → line ≡ line_of (answer_data number (graph + 1) answer) → line ≡ line_in form entry
json_line form entry number graph file ordinal answer line json in_file at next same is text =
    text ∙ ap (λ (a : Answer). line_of (answer_data number (graph + 1) a)) (sym is)
    ∙ ap (λ (k : ℕ). line_of (answer_data k (graph + 1) entry.answer)) (next ∙ ap (λ (k : ℕ). k + 1) (sym in_file))
    ∙ ap (λ (k : ℕ). line_of (answer_data (entry.file + 1) (k + 1) entry.answer)) (same ∙ sym at)
    ∙ ap (λ (f : Form). line_in f entry) (sym json)

some_if_ok : {A E : Type 0} (made : Result A E) (P : A → Type 0) → IfOk made P → IfSome (result_ok made) P
some_if_ok (Ok x) P holds = holds
some_if_ok (Err fault) P holds = tt

-- what is known of a value that was made
pub of_made : {A E : Type 0} (made : Result A E) (x : A) (P : A → Type 0) → Some x ≡ result_ok made → IfOk made P → P x
of_made made x P is holds = subst (λ o. IfSome o P) (sym is) (some_if_ok made P holds)
