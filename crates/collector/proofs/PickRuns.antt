-- What is known of a run that failed.
use Rattle.std.proofs.Common.{◌≡◌, ℕ, Bool, false, List, Option, Result, Ok, Err, IfErr, subst}
use Rattle.streams.specs.declared.output.SinkFault.{SinkFault}
use Rattle.common.specs.declared.parameters.Choice.{Choice}
use Rattle.lanes.specs.Opening.{Meaning}
use Rattle.lanes.specs.Faults.{IsOfLanes}
use Rattle.lanes.specs.declared.gathering.RunFault.{RunFault}
use Rattle.lanes.specs.declared.gathering.RunFault.TheVariants.{Memory, LaneLost, Thread, Refused}
use Rattle.file_order.specs.Writing.{GivesUp, HasFailedBy}
use Rattle.graph_facts.specs.declared.selection.Selection.{Selection}
use Rattle.collector.specs.declared.picking.Picks.{Picks}
use Rattle.collector.specs.Picked.{IsPickBegun}
use Rattle.collector.specs.PicksHolding.{IsPartlyPicked, PicksPartly, files_of}
use Rattle.collector.proofs.PicksFinishing.{begun_left_off}

-- a consumer gave up, or the lanes failed and the sink did not
pub text_failed : (failed : Bool) (fault : RunFault SinkFault) → GivesUp failed fault → HasFailedBy failed fault
text_failed failed Memory gave = gave
text_failed failed LaneLost gave = gave
text_failed failed Thread gave = absurd gave
text_failed failed (Refused fault) gave = gave

pub lanes_failed : (failed : Bool) (fault : RunFault SinkFault) → IsOfLanes fault → failed ≡ false → HasFailedBy failed fault
lanes_failed failed Memory of stands = stands
lanes_failed failed LaneLost of stands = stands
lanes_failed failed Thread of stands = stands
lanes_failed failed (Refused fault) of stands = absurd of

pub told_failed : {A : Type 0} (failed : Bool) (result : Result A (RunFault SinkFault)) → IfErr result (GivesUp failed) → IfErr result (HasFailedBy failed)
told_failed failed (Ok x) gave = tt
told_failed failed (Err fault) gave = text_failed failed fault gave

-- picks of this selection, of this many files, under this choice
pub begun_picks : (s : Selection) (choice : Choice) (meaning : ℕ → Meaning) (files : ℕ) (start now : Option (List ℕ)) (picks : Picks) → picks.selection ≡ s → picks.choice ≡ choice → files_of picks ≡ files
    → PicksPartly meaning start now picks → ∥ IsPickBegun s choice meaning files start now ∥₁
begun_picks s choice meaning files start now picks selection_is choice_is files_is left =
    begun_left_off s choice meaning files start now
    (subst (λ n. IsPartlyPicked s choice meaning n start now) files_is
    (subst (λ t. IsPartlyPicked t choice meaning (files_of picks) start now) selection_is
    (subst (λ c. IsPartlyPicked picks.selection c meaning (files_of picks) start now) choice_is left)))
