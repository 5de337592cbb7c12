-- The faults of runs that pick and count.
use Rattle.std.proofs.Common.{◌≡◌, ◌↔◌, ℕ, Bool, List, Option, Result, Err, IfErr, subst, sym}
use Rattle.streams.specs.declared.output.WriteFault.{WriteFault}
use Rattle.streams.specs.declared.output.WriteFault.TheVariants.{Memory, Write}
use Rattle.streams.specs.declared.output.SinkFault.{SinkFault}
use Rattle.streams.specs.Sink.{AppendsPrefix, Writes}
use Rattle.lanes.specs.declared.gathering.RunFault.{RunFault}
use Rattle.command_line.specs.declared.fault.Fault.{Fault}
use Rattle.command_line.specs.Faults.{fault_of}
use Rattle.command_line.specs.Refusals.{IsMisuse}
use Rattle.commands.proofs.FaultStatus.{asked_well}

-- a run that failed was asked for well
pub no_misuse : {A : Type 0} (P : Type 0) (answer : Result A Fault) (fault : Fault) (of : RunFault SinkFault) → answer ≡ Err fault → fault ≡ fault_of of → IfErr answer (λ f. IsMisuse f → P)
no_misuse P answer fault of is made =
    subst (λ a. IfErr a (λ f. IsMisuse f → P)) (sym is) (λ misuse. absurd (asked_well of (subst IsMisuse made misuse)))

-- so was one whose output failed
pub no_misuse_written : {A : Type 0} (P : Type 0) (answer : Result A Fault) (fault : Fault) (of : WriteFault) → answer ≡ Err fault → fault ≡ Fault.Write of → IfErr answer (λ f. IsMisuse f → P)
no_misuse_written P answer fault of is made =
    subst (λ a. IfErr a (λ f. IsMisuse f → P)) (sym is) (λ misuse. absurd (subst IsMisuse made misuse))

fault_same : {A : Type 0} (a b : Fault) (answer : Result A Fault) → answer ≡ Err a → answer ≡ Err b → a ≡ b
fault_same a b answer is same = cc

-- a request was not refused for a reason that it did not give
pub not_refused : {A P : Type 0} (other : Fault) (answer : Result A Fault) (fault : Fault) → answer ≡ Err fault → (IsMisuse fault → ⊥) → IsMisuse other → (P → ⊥) → P ↔ (answer ≡ Err other)
not_refused other answer fault is well refuses never =
    ((λ holds. absurd (never holds)), (λ same. absurd (well (subst IsMisuse (sym (fault_same fault other answer is same)) refuses))))

pub not_by_run : {A P : Type 0} (other : Fault) (answer : Result A Fault) (fault : Fault) (of : RunFault SinkFault) → answer ≡ Err fault → fault ≡ fault_of of → IsMisuse other → (P → ⊥)
    → P ↔ (answer ≡ Err other)
not_by_run other answer fault of is made = not_refused other answer fault is (λ misuse. asked_well of (subst IsMisuse made misuse))

pub not_by_write : {A P : Type 0} (other : Fault) (answer : Result A Fault) (fault : Fault) (of : WriteFault) → answer ≡ Err fault → fault ≡ Fault.Write of → IsMisuse other → (P → ⊥)
    → P ↔ (answer ≡ Err other)
not_by_write other answer fault of is made = not_refused other answer fault is (λ misuse. subst IsMisuse made misuse)

-- a prefix of a text was added if the output failed
pub prefix_of_written : (old new : Option (List ℕ)) (failed : Bool) (text : List ℕ) (fault : WriteFault) → Writes {A = Unit {0}} old new failed text (Err fault) → AppendsPrefix old new text
prefix_of_written old new failed text Write writes = writes.1
prefix_of_written old new failed text Memory writes = absurd writes
