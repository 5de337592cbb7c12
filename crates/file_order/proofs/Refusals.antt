-- A text that was not written whole, since the sink has failed.
use Rattle.std.proofs.Common.{◌≡◌, ℕ, Bool, true, List, Option, Result, Ok, Err, IfErr, IsErrAnd, refl, subst, sym, ap, ◌∙◌}
use Rattle.std.proofs.lemmas.Result.{err_from_is_err_and}
use Rattle.streams.specs.declared.output.SinkFault.{SinkFault}
use Rattle.streams.specs.declared.output.WriteFault.{WriteFault}
use Rattle.streams.specs.declared.output.WriteFault.TheVariants.{Write, Memory}
use Rattle.streams.specs.Sink.{Writes, StaysInTransit}
use Rattle.lanes.specs.declared.gathering.RunFault.{RunFault}
use Rattle.lanes.specs.declared.gathering.RunFault.TheVariants.{Refused}
use Rattle.lanes.specs.Faults.{run_fault_of}
use Rattle.file_order.specs.Writing.{IsPartlyAdded, IsRefused, TellsFailure}

module _ (old new : Option (List ℕ)) (waited waits : List ℕ) (failed : Bool) (more : List ℕ) where
  -- a prefix of what was in transit and of the text was added
  pub partly_put : (e : WriteFault) → StaysInTransit {A = Unit {0}} old waited new waits failed more (Err e) → IsPartlyAdded old waited new more
  partly_put Write stays = stays.1
  partly_put Memory stays = absurd stays

  pub put_failed : (e : WriteFault) → StaysInTransit {A = Unit {0}} old waited new waits failed more (Err e) → (e ≡ Write) × (failed ≡ true)
  put_failed Write stays = (refl, stays.0)
  put_failed Memory stays = absurd stays

pub flush_failed : (old new : Option (List ℕ)) (failed : Bool) (more : List ℕ) (e : WriteFault) → Writes {A = Unit {0}} old new failed more (Err e)
    → (e ≡ Write) × (failed ≡ true)
flush_failed old new failed more Write writes = (refl, writes.0)
flush_failed old new failed more Memory writes = absurd writes

-- the fault says so
pub is_refused : {T : Type 0} (e : WriteFault) (r : Result T (RunFault SinkFault)) → e ≡ Write → IsErrAnd r (λ f. f ≡ run_fault_of e) → r ≡ Err (Refused (record {}))
is_refused e r is told =
    let q = err_from_is_err_and r told in
    q.1 ∙ ap (λ (f : RunFault SinkFault). Err f) (q.2 ∙ ap run_fault_of is)

pub tells_refused : {T : Type 0} (failed : Bool) (e : WriteFault) (r : Result T (RunFault SinkFault)) → (e ≡ Write) × (failed ≡ true)
    → IsErrAnd r (λ f. f ≡ run_fault_of e) → TellsFailure failed r × IfErr r IsRefused
tells_refused {T} failed e r is told =
    subst (λ (r : Result T (RunFault SinkFault)). TellsFailure failed r × IfErr r IsRefused) (sym (is_refused e r is.0 told)) (record { stands = tt; gave_up = is.1 }, tt)
