-- What was written where a run came to nothing.
use Rattle.std.proofs.Common.{◌≡◌, ℕ, List, Option, inl, inr, subst}
use Rattle.common.specs.declared.parameters.Choice.{Choice}
use Rattle.lanes.specs.Notes.{Note}
use Rattle.lanes.specs.Opening.{Meaning}
use Rattle.lanes.specs.declared.gathering.RunFault.{RunFault}
use Rattle.lanes.specs.Faults.{IsOfLanes, HoldsOnFault}
use Rattle.streams.specs.declared.frames.Form.{Form}
use Rattle.collector.specs.declared.texts.Lines.{Lines}
use Rattle.collector.specs.Holding.{form_of, choice_of, files_of, ArePartialNotes, ArePartialLines}
use Rattle.collector.specs.Whole.{IsBegun}
use Rattle.collector.proofs.Ordering.{begun_left_off, begun_none}

-- where it holds of a consumer that gave up, and of what one holds if the lanes failed
pub ended_with : {F Q : Type 0} (gave_up : RunFault F → Type 0) (holds : List Note → Type 0) (fault : RunFault F) → (gave_up fault → Q) → (IsOfLanes fault → (ns : List Note) → holds ns → Q)
    → HoldsOnFault gave_up holds fault → Q
ended_with gave_up holds fault given held (inl gave) = given gave
ended_with gave_up holds fault given held (inr (of, told)) = held of told.0 told.1

-- lines of this many files in this form, under this choice
pub begun_lines : (choice : Choice) (meaning : ℕ → Meaning) (form : Form) (files : ℕ) (start now : Option (List ℕ)) (lines : Lines) → choice_of lines ≡ choice → form_of lines ≡ form → files_of lines ≡ files
    → (ns : List Note) → ArePartialLines meaning start now lines ns → ∥ IsBegun choice meaning form files start now ∥₁
begun_lines choice meaning form files start now lines choice_is form_is files_is ns left =
    begun_left_off choice meaning form files start now ns
    (subst (λ n. ArePartialNotes choice meaning form n start now ns) files_is
    (subst (λ f. ArePartialNotes choice meaning f (files_of lines) start now ns) form_is
    (subst (λ c. ArePartialNotes c meaning (form_of lines) (files_of lines) start now ns) choice_is left)))

-- nothing is a beginning of any text
pub begun_by_nothing : (choice : Choice) (meaning : ℕ → Meaning) (form : Form) (files : ℕ) (taken : Option (List ℕ)) → ∥ IsBegun choice meaning form files taken taken ∥₁
begun_by_nothing choice meaning form files taken = begun_none choice meaning form files taken
