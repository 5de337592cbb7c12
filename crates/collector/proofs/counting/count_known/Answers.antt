use Rattle.std.proofs.Common.{◌≡◌, ◌∙◌, List, OnOk, IfErr, length, subst}
use Rattle.lanes.specs.Notes.{Note}
use Rattle.lanes.specs.Files.{AreToldWhole}
use Rattle.lanes.specs.Faults.{IsOfLanes, HoldsOnFault}
use Rattle.lanes.specs.declared.gathering.RunFault.{RunFault}
use Rattle.streams.specs.declared.output.SinkFault.{SinkFault}
use Rattle.collector.specs.CountsHeld.{CountsHold}
use Rattle.collector.proofs.CountedGraphs.{accepts_known, all_counted, counts_none, ended_with}
use Rattle.collector.proofs.counting.count_known.Goals as goal

pub run_lanes-counted-requires-clause-empty : goal.run_lanes-counted-requires-clause-empty
run_lanes-counted-requires-clause-empty g c κs within =
    counts_none c.args.selection c.new-counts.result c.in_ok-flaws.flaws.items c.in_ok-flaws.ensures.none c.new-counts.ensures.table

pub run_lanes-counted-requires-clause-accepts : goal.run_lanes-counted-requires-clause-accepts
run_lanes-counted-requires-clause-accepts g c κs within = accepts_known _ _ c.requires.same_meaning

pub returns-in-Ok-clause-counted : goal.returns-in-Ok-clause-counted
returns-in-Ok-clause-counted g c =
    let run = c.args.run.now in
    let meaning = g.O.Opener.meaning run.opener.now in
    let counted = c.run_lanes-counted.result in
    let stays = c.run_lanes-counted.ensures.stays in
    let told = subst (λ r. OnOk r ((ns : List Note) × CountsHold counted.selection counted.counts counted.flaws.items ns × AreToldWhole run.choice meaning run.files ns))
    c.in-Ok.is c.run_lanes-counted.ensures.told in
    let count : length counted.flaws.items ≡ run.files = stays.2 ∙ c.in_ok-flaws.ensures.count in
    let columns : counted.counts.columns ≡ c.args.columns = stays.1 ∙ c.new-counts.ensures.columns in
    all_counted c.args.selection c.args.columns run.choice meaning run.files counted.flaws.items counted.counts told.0 count columns told.2
    (subst (λ s. CountsHold s counted.counts counted.flaws.items told.0) stays.0 told.1)

pub returns-in-Err-clause-failed : goal.returns-in-Err-clause-failed
returns-in-Err-clause-failed g c =
    let counted = c.run_lanes-counted.result in
    let gave_up : RunFault SinkFault → Type 0 = λ fault. IsOfLanes fault in
    let holds : List Note → Type 0 = λ ns. CountsHold counted.selection counted.counts counted.flaws.items ns in
    let failed = subst (λ r. IfErr r (HoldsOnFault gave_up holds)) c.in-Err.is c.run_lanes-counted.ensures.failed in
    ended_with gave_up holds c.in-Err.fault (λ gave. gave) (λ of ns held. of) failed
