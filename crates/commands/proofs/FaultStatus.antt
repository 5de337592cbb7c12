-- The status of what was refused or failed.
use Rattle.std.proofs.Common.{rules, ◌≡◌, ◌<◌, ◌≤◌, ◌⊎◌, ◌↔◌, ℕ, Bool, ltb, Decides, ⊎_elim, true, false, List, Option, Result, Err, IfOk, IfErr, OnErr, arith, inl, inr, refl, ap, subst, sym, ◌∙◌, true≢false}
use Rattle.std.proofs.lemmas.Bool.Decides.{Decides-ltb}
use Rattle.streams.specs.declared.output.BatchFault.TheVariants.{TooManyFiles, BadLanes}
use Rattle.streams.specs.declared.output.WriteFault.{WriteFault}
use Rattle.streams.specs.declared.output.WriteFault.TheVariants as write
use Rattle.streams.specs.declared.output.SinkFault.{SinkFault}
use Rattle.lanes.specs.declared.gathering.RunFault.{RunFault}
use Rattle.lanes.specs.declared.gathering.RunFault.TheVariants.{Memory, LaneLost, Thread, Refused}
use Rattle.lanes.specs.Faults.{IsOfLanes}
use Rattle.common.specs.declared.parameters.Choice.{Choice}
use Rattle.lanes.specs.Opening.{Meaning}
use Rattle.streams.specs.declared.frames.Form.{Form}
use Rattle.ruled_lanes.specs.declared.channel.TheConstants.{LANES}
use Rattle.reports.specs.declared.book.TheConstants.{MAX_FILES}
use Rattle.collector.specs.Whole.{IsAllWritten, IsBegun}
use Rattle.collector.proofs.Ordering.{begun_none}
use Rattle.file_order.specs.Writing.{GivesUp}
use Rattle.command_line.specs.declared.fault.Fault.{Fault}
use Rattle.command_line.specs.Faults.{fault_of}
use Rattle.command_line.specs.Refusals.{IsMisuse}
use Rattle.commands.specs.Statuses.{IsTooMuch}
use Rattle.commands.specs.TextRuns.{HasFailedBy, IsOfTextRun, IsStreamed}

err_same : (a b : Fault) (answer : Result ℕ Fault) → answer ≡ Err a → answer ≡ Err b → a ≡ b
err_same a b answer is same = cc

not_one : (status : ℕ) → (status ≡ 0) ⊎ (status ≡ 3) → status ≡ 1 → ⊥
not_one status (inl is) one = omega (arith, is, one)
not_one status (inr is) one = omega (arith, is, one)

not_two : (status : ℕ) → (status ≡ 0) ⊎ (status ≡ 3) → status ≡ 2 → ⊥
not_two status (inl is) two = omega (arith, is, two)
not_two status (inr is) two = omega (arith, is, two)

-- it is neither that of a whole report nor that of one that lacks something
pub ends_else : (fault : Fault) (status : ℕ) → (IsMisuse fault → status ≡ 2) → ((IsMisuse fault → ⊥) → status ≡ 1) → (status ≡ 0) ⊎ (status ≡ 3) → ⊥
ends_else fault status refused failed either = not_one status either (failed (λ refusal. not_two status either (refused refusal)))

pub few_or_many : (files : ℕ) (more : Bool) → Decides more (MAX_FILES < files) → (files ≤ MAX_FILES) ⊎ (MAX_FILES < files)
few_or_many files true decides = inr (decides.0 refl)
few_or_many files false decides = let never : (MAX_FILES < files) → ⊥ = λ more. true≢false (sym (decides.1 more)) in inl (omega (arith, never))

-- a run that is too much is refused for the number of its files, or for its lanes
refusal : (files lanes : ℕ) (fault : Fault) → IsTooMuch files lanes → (MAX_FILES < files → fault ≡ Fault.Run TooManyFiles)
    → (((lanes ≡ 0) ⊎ (LANES < lanes)) × (files ≤ MAX_FILES) → fault ≡ Fault.Run BadLanes) → (fault ≡ Fault.Run TooManyFiles) ⊎ (fault ≡ Fault.Run BadLanes)
refusal files lanes fault (inl more) many bad = inl (many more)
refusal files lanes fault (inr wrong) many bad = ⊎_elim (λ few. inr (bad (wrong, few))) (λ more. inl (many more)) (few_or_many files (ltb MAX_FILES files) (Decides-ltb MAX_FILES files))

refused_of_run : (fault : Fault) → (fault ≡ Fault.Run TooManyFiles) ⊎ (fault ≡ Fault.Run BadLanes) → IsOfTextRun fault
refused_of_run fault (inl is) = subst IsOfTextRun (sym is) tt
refused_of_run fault (inr is) = subst IsOfTextRun (sym is) tt

refused_unwritten : (fault : Fault) → (fault ≡ Fault.Run TooManyFiles) ⊎ (fault ≡ Fault.Run BadLanes) → fault ≡ Fault.Write write.Write → ⊥
refused_unwritten fault (inl is) written = cc
refused_unwritten fault (inr is) written = cc

-- lanes fail for nothing that was asked of the run
pub asked_well : (fault : RunFault SinkFault) → IsMisuse (fault_of fault) → ⊥
asked_well Memory is = is
asked_well LaneLost is = is
asked_well Thread is = is
asked_well (Refused fault) is = is

pub of_text_run : (fault : RunFault SinkFault) → IsOfTextRun (fault_of fault)
of_text_run Memory = tt
of_text_run LaneLost = tt
of_text_run Thread = tt
of_text_run (Refused fault) = tt

-- the sink has failed exactly if that is the fault
pub write_failed : (failed : Bool) (fault : RunFault SinkFault) → HasFailedBy failed fault → fault_of fault ≡ Fault.Write write.Write → failed ≡ true
write_failed failed Memory has is = search rules
write_failed failed LaneLost has is = search rules
write_failed failed Thread has is = search rules
write_failed failed (Refused fault) has is = has

pub failed_write : (failed : Bool) (fault : RunFault SinkFault) → HasFailedBy failed fault → failed ≡ true → fault_of fault ≡ Fault.Write write.Write
failed_write failed Memory has is = absurd (true≢false (sym is ∙ has))
failed_write failed LaneLost has is = absurd (true≢false (sym is ∙ has))
failed_write failed Thread has is = absurd (true≢false (sym is ∙ has))
failed_write failed (Refused fault) has is = refl

-- a text gave up, or the lanes failed and the sink did not
pub text_failed : (failed : Bool) (fault : RunFault SinkFault) → GivesUp failed fault → HasFailedBy failed fault
text_failed failed Memory gave = gave
text_failed failed LaneLost gave = gave
text_failed failed Thread gave = absurd gave
text_failed failed (Refused fault) gave = gave

pub lanes_failed : (failed : Bool) (fault : RunFault SinkFault) → IsOfLanes fault → failed ≡ false → HasFailedBy failed fault
lanes_failed failed Memory of stands = stands
lanes_failed failed LaneLost of stands = stands
lanes_failed failed Thread of stands = stands
lanes_failed failed (Refused fault) of stands = absurd of

-- memory ran out, and the output has not failed
pub no_write : (failed : Bool) (answer : Result ℕ Fault) (fault : Fault) → answer ≡ Err fault → fault ≡ Fault.Memory → failed ≡ false
    → IfErr answer (λ f. (f ≡ Fault.Write write.Write) ↔ (failed ≡ true))
no_write failed answer fault is memory stands =
    subst (λ a. IfErr a (λ f. (f ≡ Fault.Write write.Write) ↔ (failed ≡ true))) (sym is) ((λ written. (cc)), (λ failure. (cc)))

-- the text was not written, for this reason
pub as_written : (failed : Bool) (answer : Result ℕ Fault) (fault : Fault) (reason : WriteFault) → answer ≡ Err fault → fault ≡ Fault.Write reason
    → (reason ≡ write.Write) ↔ (failed ≡ true) → IfErr answer (λ f. (f ≡ Fault.Write write.Write) ↔ (failed ≡ true))
as_written failed answer fault reason is made told =
    subst (λ a. IfErr a (λ f. (f ≡ Fault.Write write.Write) ↔ (failed ≡ true))) (sym is)
    ((λ written. told.0 (cc)), (λ failure. made ∙ ap Fault.Write (told.1 failure)))

-- lanes failed, and so this many files that were asked for well were not all written
module _ {S : Type 0} (choice : Choice) (meaning : ℕ → Meaning) (form : Form) (files lanes : ℕ) (taken : S → Option (List ℕ)) (fails : S → Bool) (old new : S) where
  pub streamed_fault : (answer : Result ℕ Fault) (fault : Fault) (of : RunFault SinkFault) → answer ≡ Err fault → fault ≡ fault_of of
      → (MAX_FILES < files → ⊥) → (((lanes ≡ 0) ⊎ (LANES < lanes)) → ⊥) → HasFailedBy (fails new) of → ∥ IsBegun choice meaning form files (taken old) (taken new) ∥₁
      → IsStreamed choice meaning form files lanes taken fails old new answer
  streamed_fault answer fault of is made few good has begun =
      subst (IsStreamed choice meaning form files lanes taken fails old new) (sym (is ∙ ap Err made)) (record {
        written = tt;
        status = tt;
        begun = begun;
        too_many = (λ many. absurd (few many), λ same. absurd (asked_well of (subst IsMisuse (sym (err_same _ _ _ refl same)) tt)));
        bad_lanes = (λ bad. absurd (good bad.0), λ same. absurd (asked_well of (subst IsMisuse (sym (err_same _ _ _ refl same)) tt)));
        refused = λ misuse. absurd (asked_well of misuse);
        failed = (λ same. write_failed (fails new) of has (err_same _ _ _ refl same), λ failure. ap Err (failed_write (fails new) of has failure));
        only = of_text_run of;
      })

  -- the run was too much, and was refused
  pub refused_stream : (answer size : Result ℕ Fault) (fault of : Fault) → answer ≡ Err fault → fault ≡ of → size ≡ Err of → fails old ≡ false → IsTooMuch files lanes
      → (MAX_FILES < files) ↔ (size ≡ Err (Fault.Run TooManyFiles)) → (((lanes ≡ 0) ⊎ (LANES < lanes)) × (files ≤ MAX_FILES)) ↔ (size ≡ Err (Fault.Run BadLanes))
      → IsStreamed choice meaning form files lanes taken fails old old answer
  refused_stream answer size fault of is made was stands much many bad =
      let why = refusal files lanes of much (λ more. err_same _ _ _ was (many.0 more)) (λ wrong. err_same _ _ _ was (bad.0 wrong)) in
      subst (IsStreamed choice meaning form files lanes taken fails old old) (was ∙ sym (is ∙ ap Err made)) (record {
        written = subst (λ r. IfOk r (IsAllWritten choice meaning form files (taken old) (taken old))) (sym was) tt;
        status = subst (λ r. IfOk r (λ status. (status ≡ 0) ⊎ (status ≡ 3))) (sym was) tt;
        begun = subst (λ r. OnErr r ∥ IsBegun choice meaning form files (taken old) (taken old) ∥₁) (sym was) (begun_none choice meaning form files (taken old));
        too_many = many;
        bad_lanes = bad;
        refused = subst (λ r. IfErr r (λ f. IsMisuse f → old ≡ old)) (sym was) (λ misuse. refl);
        failed = (λ same. absurd (refused_unwritten of why (err_same _ _ _ was same)), λ failure. absurd (true≢false (sym failure ∙ stands)));
        only = subst (λ r. IfErr r IsOfTextRun) (sym was) (refused_of_run of why);
      })
