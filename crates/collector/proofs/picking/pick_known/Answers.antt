use Rattle.std.proofs.Common.{rules, ◌≡◌, ◌∙◌, List, Result, OnOk, OnErr, IfOk, IfErr, false, arith, ap, subst, sym}
use Rattle.std.proofs.lemmas.Result.{IfOk-weaker}
use Rattle.lanes.specs.Notes.{Note}
use Rattle.lanes.specs.Files.{AreToldWhole}
use Rattle.lanes.specs.Faults.{HoldsOnFault}
use Rattle.lanes.specs.declared.gathering.RunFault.{RunFault}
use Rattle.streams.specs.declared.output.SinkFault.{SinkFault}
use Rattle.file_order.specs.Writing.{GivesUp, HasFailedBy}
use Rattle.file_order.proofs.SucceedsOrFails.{err_then, err_any}
use Rattle.collector.specs.Picked.{IsAllPicked, IsPickBegun}
use Rattle.collector.specs.PicksHolding.{PicksHold, PicksPartly, files_of}
use Rattle.collector.proofs.CountedGraphs.{accepts_known, ended_with}
use Rattle.collector.proofs.PicksFinishing.{begun_none}
use Rattle.collector.proofs.PicksHeld.{left_off_here}
use Rattle.collector.proofs.PickRuns.{begun_picks, text_failed, lanes_failed, told_failed}
use Rattle.collector.proofs.picking.pick_known.Goals as goal

pub run_lanes-texts-requires-clause-accepts : goal.run_lanes-texts-requires-clause-accepts
run_lanes-texts-requires-clause-accepts g c κs within = accepts_known _ _ c.requires.same_meaning

pub returns-in_err-picks-clause-begun : goal.returns-in_err-picks-clause-begun
returns-in_err-picks-clause-begun g c =
    let run = c.args.run.now in
    err_any c.from_residual.result (begun_none c.args.selection run.choice (g.O.Opener.meaning run.opener.now) run.files (g.S.Sink.taken c.args.sink.now))

pub returns-in-Ok-clause-written : goal.returns-in-Ok-clause-written
returns-in-Ok-clause-written g c =
    let taken = g.S.Sink.taken in
    let run = c.args.run.now in
    let meaning = g.O.Opener.meaning run.opener.now in
    let texts = c.run_lanes-texts.result in
    let stays = c.run_lanes-texts.ensures.stays in
    let told = subst (λ r. OnOk r ((ns : List Note)
    × ((g.S.Sink.failed texts.sink.now ≡ false) × PicksHold g.J.KnownFiles.meaning (taken texts.start.value) (taken texts.sink.now) texts.lines ns)
    × AreToldWhole run.choice meaning run.files ns)) c.in-Ok.is c.run_lanes-texts.ensures.told in
    let made = c.new-texts.ensures.lines in
    let selection : texts.lines.selection ≡ c.args.selection = stays.2.selection ∙ ap (λ p. p.selection) made ∙ c.in_ok-picks.ensures.selection in
    let files : files_of texts.lines ≡ run.files = stays.2.files ∙ ap files_of made ∙ c.in_ok-picks.ensures.files in
    let start : texts.start.value ≡ c.args.sink.now = sym stays.1 ∙ c.new-texts.ensures.start in
    let exit = c.finish.new.self.0 in
    subst (λ s. IfOk c.finish.result (λ flaws. IsAllPicked c.args.selection run.choice meaning run.files (taken c.args.sink.now) (taken s) flaws.items)) (search rules)
    (subst (λ b. IfOk c.finish.result (λ flaws. IsAllPicked c.args.selection run.choice meaning run.files (taken b) (taken exit) flaws.items)) start
    (subst (λ n. IfOk c.finish.result (λ flaws. IsAllPicked c.args.selection run.choice meaning n (taken texts.start.value) (taken exit) flaws.items)) files
    (subst (λ s. IfOk c.finish.result (λ flaws. IsAllPicked s run.choice meaning (files_of texts.lines) (taken texts.start.value) (taken exit) flaws.items)) selection
    (IfOk-weaker c.finish.result _ _ (λ flaws all. all run.choice g.J.KnownFiles.meaning meaning told.0 told.1.1 (λ file below. told.2 file (omega (arith, below, files)))) c.finish.ensures.written))))

pub returns-in-Ok-clause-begun : goal.returns-in-Ok-clause-begun
returns-in-Ok-clause-begun g c =
    let taken = g.S.Sink.taken in
    let run = c.args.run.now in
    let meaning = g.O.Opener.meaning run.opener.now in
    let texts = c.run_lanes-texts.result in
    let stays = c.run_lanes-texts.ensures.stays in
    let told = subst (λ r. OnOk r ((ns : List Note)
    × ((g.S.Sink.failed texts.sink.now ≡ false) × PicksHold g.J.KnownFiles.meaning (taken texts.start.value) (taken texts.sink.now) texts.lines ns)
    × AreToldWhole run.choice meaning run.files ns)) c.in-Ok.is c.run_lanes-texts.ensures.told in
    let made = c.new-texts.ensures.lines in
    let selection : texts.lines.selection ≡ c.args.selection = stays.2.selection ∙ ap (λ p. p.selection) made ∙ c.in_ok-picks.ensures.selection in
    let choice : texts.lines.choice ≡ run.choice = stays.2.choice ∙ ap (λ p. p.choice) made ∙ c.in_ok-picks.ensures.choice in
    let files : files_of texts.lines ≡ run.files = stays.2.files ∙ ap files_of made ∙ c.in_ok-picks.ensures.files in
    let start : texts.start.value ≡ c.args.sink.now = sym stays.1 ∙ c.new-texts.ensures.start in
    let exit = c.finish.new.self.0 in
    subst (λ s. OnErr c.finish.result ∥ IsPickBegun c.args.selection run.choice meaning run.files (taken c.args.sink.now) (taken s) ∥₁) (search rules)
    (subst (λ b. OnErr c.finish.result ∥ IsPickBegun c.args.selection run.choice meaning run.files (taken b) (taken exit) ∥₁) start
    (subst (λ m. OnErr c.finish.result ∥ IsPickBegun c.args.selection run.choice m run.files (taken texts.start.value) (taken exit) ∥₁) c.requires.same_meaning
    (err_then c.finish.result c.finish.ensures.partial (λ partial.
    begun_picks c.args.selection run.choice g.J.KnownFiles.meaning run.files (taken texts.start.value) (taken exit) texts.lines selection choice files
    (partial g.J.KnownFiles.meaning told.0 told.1.1)))))

pub returns-in-Ok-clause-failed : goal.returns-in-Ok-clause-failed
returns-in-Ok-clause-failed g c =
    let exit = c.finish.new.self.0 in
    subst (λ s. IfErr c.finish.result (HasFailedBy (g.S.Sink.failed s))) (search rules)
    (told_failed (g.S.Sink.failed exit) c.finish.result c.finish.ensures.stands.gave_up)

pub returns-in-Err-clause-begun : goal.returns-in-Err-clause-begun
returns-in-Err-clause-begun g c =
    let taken = g.S.Sink.taken in
    let run = c.args.run.now in
    let meaning = g.O.Opener.meaning run.opener.now in
    let texts = c.run_lanes-texts.result in
    let stays = c.run_lanes-texts.ensures.stays in
    let Left : Type 0 = PicksPartly g.J.KnownFiles.meaning (taken texts.start.value) (taken texts.sink.now) texts.lines in
    let gave_up : RunFault SinkFault → Type 0 = λ fault. GivesUp (g.S.Sink.failed texts.sink.now) fault × Left in
    let holds : List Note → Type 0 = λ ns. (g.S.Sink.failed texts.sink.now ≡ false) × PicksHold g.J.KnownFiles.meaning (taken texts.start.value) (taken texts.sink.now) texts.lines ns in
    let failed = subst (λ r. IfErr r (HoldsOnFault gave_up holds)) c.in-Err.is c.run_lanes-texts.ensures.failed in
    let made = c.new-texts.ensures.lines in
    let selection : texts.lines.selection ≡ c.args.selection = stays.2.selection ∙ ap (λ p. p.selection) made ∙ c.in_ok-picks.ensures.selection in
    let choice : texts.lines.choice ≡ run.choice = stays.2.choice ∙ ap (λ p. p.choice) made ∙ c.in_ok-picks.ensures.choice in
    let files : files_of texts.lines ≡ run.files = stays.2.files ∙ ap files_of made ∙ c.in_ok-picks.ensures.files in
    let start : texts.start.value ≡ c.args.sink.now = sym stays.1 ∙ c.new-texts.ensures.start in
    let left : Left =
    ended_with gave_up holds c.in-Err.fault (λ gave. gave.1) (λ of ns held. left_off_here g.J.KnownFiles.meaning (taken texts.start.value) (taken texts.sink.now) texts.lines ns held.1) failed in
    subst (λ s. ∥ IsPickBegun c.args.selection run.choice meaning run.files (taken c.args.sink.now) (taken s) ∥₁) (search rules)
    (subst (λ s. ∥ IsPickBegun c.args.selection run.choice meaning run.files (taken c.args.sink.now) (taken s) ∥₁) (sym c.let_go.ensures)
    (subst (λ b. ∥ IsPickBegun c.args.selection run.choice meaning run.files (taken b) (taken texts.sink.now) ∥₁) start
    (subst (λ m. ∥ IsPickBegun c.args.selection run.choice m run.files (taken texts.start.value) (taken texts.sink.now) ∥₁) c.requires.same_meaning
    (begun_picks c.args.selection run.choice g.J.KnownFiles.meaning run.files (taken texts.start.value) (taken texts.sink.now) texts.lines selection choice files left))))

pub returns-in-Err-clause-failed : goal.returns-in-Err-clause-failed
returns-in-Err-clause-failed g c =
    let taken = g.S.Sink.taken in
    let texts = c.run_lanes-texts.result in
    let fails = g.S.Sink.failed texts.sink.now in
    let Left : Type 0 = PicksPartly g.J.KnownFiles.meaning (taken texts.start.value) (taken texts.sink.now) texts.lines in
    let gave_up : RunFault SinkFault → Type 0 = λ fault. GivesUp fails fault × Left in
    let holds : List Note → Type 0 = λ ns. (fails ≡ false) × PicksHold g.J.KnownFiles.meaning (taken texts.start.value) (taken texts.sink.now) texts.lines ns in
    let failed = subst (λ r. IfErr r (HoldsOnFault gave_up holds)) c.in-Err.is c.run_lanes-texts.ensures.failed in
    let now : HasFailedBy fails c.in-Err.fault = ended_with gave_up holds c.in-Err.fault (λ gave. text_failed fails c.in-Err.fault gave.0) (λ of ns held. lanes_failed fails c.in-Err.fault of held.0) failed in
    subst (λ s. HasFailedBy (g.S.Sink.failed s) c.in-Err.fault) (search rules) now
