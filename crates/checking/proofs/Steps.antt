-- A checker before and after one more record.
use Rattle.std.proofs.Common.{◌≡◌, ◌≢◌, ◌↔◌, ℕ, ◌+◌, Bool, true, false, List, [], ◌∷◌, ◌++◌, Option, Ok, length, refl, ap, sym, subst, ◌∙◌, arith}
use Rattle.std.specs.Prelude.{All}
use Rattle.std.proofs.lemmas.List.Elements.{All-nil, All-push}
use Rattle.planar_code.specs.Stream.{lists_of}
use Rattle.streams.specs.Sink.{AppendsPrefix, IsInTransit, StaysInTransit}
use Rattle.streams.specs.declared.frames.Mark.{Mark}
use Rattle.streams.proofs.Sinks.{added_none}
use Rattle.checking.specs.Lines.{HasGiven, state_in, rest_in, fails_in}
use Rattle.checking.specs.declared.json.LineFault.TheVariants.{Memory}
use Rattle.checking.specs.Verdicts.{IsVerdict}
use Rattle.checking.specs.Text.{verdict_line, verdict_lines, last_line}
use Rattle.checking.specs.declared.line_content.DrawingInput.{DrawingInput}
use Rattle.checking.specs.declared.line_content.DrawingInput.TheVariants as given
use Rattle.checking.specs.declared.judging.Verdict.{Verdict}
use Rattle.checking.specs.declared.judging.Verdict.TheVariants as verdict
use Rattle.checking.specs.declared.run.Checker.{Checker}
use Rattle.checking.specs.declared.run.CheckOptions.{CheckOptions}
use Rattle.checking.specs.Pairs.{AreVerdicts}
use Rattle.checking.specs.Runs.{IsOk, verdicts_text}
use Rattle.checking.specs.UnderWay.{KeepsNext, IsUnderWay, IsCutShort}
use Rattle.checking.proofs.Pairing.{as_many}
use Rattle.checking.proofs.Reading.{exactly, some_failing, pairs_next}
use Rattle.checking.proofs.Settled.{settled, cut_short}
use Rattle.checking.proofs.Texts.{verdict_lines-next, all_next, line_added}

-- a test that is true if it was so far and this holds
test_next : {X : Type 0} (P : X → Type 0) (now before : Bool) (known : Bool) (xs : List X) (x : X)
    → (before ≡ known) ↔ All P xs → (now ≡ known) ↔ ((before ≡ known) × P x) → (now ≡ known) ↔ All P (xs ++ x ∷ [])
test_next P now before known xs x so_far next = (
  λ is. let both = next.0 is in All-push P xs x (so_far.0 both.0) both.1,
  λ all. let both = all_next P xs x all in next.1 (so_far.1 both.0, both.1),
)

module _ {L : Type 0} (to_come : L → Option (List ℕ)) (fails : L → Bool) (known : Option (List ℕ)) (known_fails : Bool) where
  -- before the first record
  pub not_begun : (start : Option (List ℕ)) (checker : Checker L) → HasGiven known known_fails (state_in checker.lines) (rest_in to_come checker.lines) (fails_in fails checker.lines) []
      → checker.text ≡ [] → checker.all_ok ≡ true → checker.wants_memory ≡ false
      → IsUnderWay to_come fails known known_fails start start checker []
  not_begun start checker has none ok wants = record {
    kept = [];
    has_kept = record { given = []; has_given = has; keeps = refl };
    as_many = exactly (state_in checker.lines) 0 0 refl;
    verdicts = [];
    each = λ failed may. tt;
    text = record { sent = []; split = sym none; added = added_none start };
    oks = (λ is. All-nil IsOk, λ all. ok);
    wants = (λ is. All-nil (λ v. v ≢ verdict.Memory), λ all. wants);
  }

  -- there are as many verdicts as records
  pub as_many_as : (start now : Option (List ℕ)) (checker : Checker L) (records : List (List ℕ)) → (u : IsUnderWay to_come fails known known_fails start now checker records) → length u.verdicts ≡ length records
  as_many_as start now checker records u =
      let failing = some_failing (state_in checker.lines) in
      as_many checker.options.faces failing.0 records u.kept u.verdicts (u.each failing.0 failing.1)

  -- one more record
  pub under_way_next : (start old_out new_out : Option (List ℕ)) (checker next : Checker L) (records : List (List ℕ)) (bytes : List ℕ) (v : Verdict) (told : DrawingInput) (mid : List ℕ) (failed : Bool) (number : ℕ)
      → (u : IsUnderWay to_come fails known known_fails start old_out checker records)
      → KeepsNext to_come fails known known_fails (state_in checker.lines) next.lines u.kept told
      → IsVerdict checker.options.faces (lists_of bytes) told v → (told ≡ given.Fault Memory → v ≡ verdict.Memory)
      → next.options ≡ checker.options → number ≡ length records + 1
      → (next.all_ok ≡ true) ↔ ((checker.all_ok ≡ true) × IsOk v) → (next.wants_memory ≡ false) ↔ ((checker.wants_memory ≡ false) × (v ≢ verdict.Memory))
      → StaysInTransit {A = Unit {0}} old_out checker.text new_out mid failed [] (Ok tt) → next.text ≡ mid ++ verdict_line checker.options.form number v
      → IsUnderWay to_come fails known known_fails start new_out next (records ++ bytes ∷ [])
  under_way_next start old_out new_out checker next records bytes v told mid failed number u step holds memory options at ok wants stays text =
      let paired = pairs_next to_come fails known known_fails next.lines (state_in checker.lines) checker.options.faces records u.kept u.verdicts bytes v told u.as_many u.each step holds memory in
      let counted : number ≡ 1 + length u.verdicts = omega (arith, as_many_as start old_out checker records u) in
      let way : IsInTransit start new_out next.text (verdict_lines checker.options.form 1 (u.verdicts ++ v ∷ [])) =
      line_added start old_out new_out checker.text mid next.text (verdict_lines checker.options.form 1 u.verdicts) (verdict_line checker.options.form number v) _ failed stays text
      (verdict_lines-next checker.options.form 1 u.verdicts v number counted) u.text in
      record {
        kept = paired.kept;
        has_kept = paired.has_kept;
        as_many = paired.as_many;
        verdicts = u.verdicts ++ v ∷ [];
        each = λ failing may. subst (λ (a : CheckOptions). AreVerdicts a.faces failing (records ++ bytes ∷ []) paired.kept (u.verdicts ++ v ∷ [])) (sym options) (paired.each failing may);
        text = subst (λ (a : CheckOptions). IsInTransit start new_out next.text (verdict_lines a.form 1 (u.verdicts ++ v ∷ []))) (sym options) way;
        oks = test_next IsOk next.all_ok checker.all_ok true u.verdicts v u.oks ok;
        wants = test_next (λ w. w ≢ verdict.Memory) next.wants_memory checker.wants_memory false u.verdicts v u.wants wants;
      }

  -- before the last line
  pub stops_before : (start old_out new_out : Option (List ℕ)) (checker : Checker L) (records : List (List ℕ)) (mark : Mark) (surplus : ℕ)
      → (u : IsUnderWay to_come fails known known_fails start old_out checker records)
      → AppendsPrefix start new_out (verdict_lines checker.options.form 1 u.verdicts) → IsCutShort checker.options known known_fails start new_out mark surplus records
  stops_before start old_out new_out checker records mark surplus u text =
      cut_short checker.options known known_fails start new_out mark surplus records u.verdicts
      (settled to_come fails known known_fails checker.options.faces checker.lines u.kept records u.verdicts u.has_kept u.as_many u.each) text

  -- the last line is added
  pub ends_text : (start old_out mid_out : Option (List ℕ)) (checker : Checker L) (records : List (List ℕ)) (options : CheckOptions) (text mid waits : List ℕ) (count surplus : ℕ) (mark : Mark) (failed : Bool)
      → (u : IsUnderWay to_come fails known known_fails start old_out checker records)
      → options ≡ checker.options → text ≡ checker.text → count ≡ length records
      → StaysInTransit {A = Unit {0}} old_out text mid_out mid failed [] (Ok tt) → waits ≡ mid ++ last_line options.form mark count surplus
      → IsInTransit start mid_out waits (verdicts_text checker.options.form u.verdicts mark surplus)
  ends_text start old_out mid_out checker records options text mid waits count surplus mark failed u same_options same_text same_count stays is =
      let said = verdict_lines checker.options.form 1 u.verdicts in
      let last : last_line options.form mark count surplus ≡ last_line checker.options.form mark (length u.verdicts) surplus =
      ap (λ (a : CheckOptions). last_line a.form mark count surplus) same_options ∙ ap (λ (n : ℕ). last_line checker.options.form mark n surplus) (same_count ∙ sym (as_many_as start old_out checker records u)) in
      let way : IsInTransit start old_out text said = subst (λ (w : List ℕ). IsInTransit start old_out w said) (sym same_text) u.text in
      line_added start old_out mid_out text mid waits said (last_line checker.options.form mark (length u.verdicts) surplus) (verdicts_text checker.options.form u.verdicts mark surplus) failed
      stays (is ∙ ap (λ (l : List ℕ). mid ++ l) last) refl way
