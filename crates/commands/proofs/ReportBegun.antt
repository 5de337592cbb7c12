-- A report that was not written to its end.
use Rattle.std.proofs.Common.{ℕ, Bool, List, Option, Result, Ok, Err, OnErr}
use Rattle.streams.specs.declared.output.WriteFault.{WriteFault}
use Rattle.streams.specs.declared.output.WriteFault.TheVariants.{Memory, Write}
use Rattle.streams.specs.Sink.{AppendsPrefix, Writes}

-- what holds without an answer holds of one that is a fault
pub on_err : {A E P : Type 0} (answer : Result A E) → P → OnErr answer P
on_err (Ok _) holds = tt
on_err (Err _) holds = holds

-- after a fault a beginning of the text was added
pub front_of : (old new : Option (List ℕ)) (failed : Bool) (text : List ℕ) (fault : WriteFault) → Writes {A = ℕ} old new failed text (Err fault) → AppendsPrefix old new text
front_of old new failed text Write writes = writes.1
front_of old new failed text Memory writes = absurd writes
