use Rattle.std.proofs.Common.{rules, ◌≡◌, ◌∙◌, List, OnOk, IfErr, false, arith, ap, subst, sym}
use Rattle.lanes.specs.Notes.{Note}
use Rattle.lanes.specs.Files.{AreToldWhole}
use Rattle.streams.specs.declared.output.SinkFault.{SinkFault}
use Rattle.lanes.specs.declared.gathering.RunFault.{RunFault}
use Rattle.lanes.specs.Faults.{HoldsOnFault}
use Rattle.file_order.specs.Writing.{GivesUp}
use Rattle.collector.specs.Holding.{form_of, choice_of, files_of, LinesHold, ArePartialLines}
use Rattle.collector.specs.Whole.{IsAllWritten, IsBegun}
use Rattle.collector.proofs.Ordering.{begun_none}
use Rattle.collector.proofs.Held.{left_off_held}
use Rattle.commands.proofs.Begun.{ended_with, begun_lines}
use Rattle.commands.proofs.Accepting.{accepts_known}
use Rattle.commands.proofs.ReportBegun.{on_err}
use Rattle.commands.specs.TextRuns.{HasFailedBy}
use Rattle.commands.proofs.FaultStatus.{text_failed, lanes_failed}
use Rattle.commands.proofs.layout.write_files.Goals as goal

pub returns-in-Ok-finish-clause-written : goal.returns-in-Ok-finish-clause-written
returns-in-Ok-finish-clause-written g c =
    let taken = g.S.Sink.taken in
    let meaning = g.O.Opener.meaning c.args.run.now.opener.now in
    let texts = c.run_lanes-texts.result in
    let stays = c.run_lanes-texts.ensures.stays in
    let told = subst (λ r. OnOk r ((ns : List Note)
    × ((g.S.Sink.failed texts.sink.now ≡ false) × LinesHold g.J.KnownFiles.meaning (taken texts.start.value) (taken texts.sink.now) texts.lines ns)
    × AreToldWhole c.args.run.now.choice meaning c.args.run.now.files ns)) c.in-Ok.is c.run_lanes-texts.ensures.told in
    let form : form_of texts.lines ≡ c.args.style.form = stays.2.form ∙ ap form_of c.new-texts.ensures.lines ∙ c.in_ok-lines.ensures.form in
    let files : files_of texts.lines ≡ c.args.run.now.files = stays.2.files ∙ ap files_of c.new-texts.ensures.lines ∙ c.in_ok-lines.ensures.files in
    let start : texts.start.value ≡ c.args.sink.now = sym stays.1 ∙ c.new-texts.ensures.start in
    let all = c.in-Ok-finish.ensures.written c.args.run.now.choice g.J.KnownFiles.meaning meaning told.0 told.1.1 (λ file below. told.2 file (omega (arith, below, files))) in
    subst (λ s. IsAllWritten c.args.run.now.choice meaning c.args.style.form c.args.run.now.files (taken c.args.sink.now) (taken s) c.in-Ok-finish.status) (search rules)
    (subst (λ b. IsAllWritten c.args.run.now.choice meaning c.args.style.form c.args.run.now.files (taken b) (taken c.finish.new.self.0) c.in-Ok-finish.status) start
    (subst (λ n. IsAllWritten c.args.run.now.choice meaning c.args.style.form n (taken texts.start.value) (taken c.finish.new.self.0) c.in-Ok-finish.status) files
    (subst (λ f. IsAllWritten c.args.run.now.choice meaning f (files_of texts.lines) (taken texts.start.value) (taken c.finish.new.self.0) c.in-Ok-finish.status) form all)))

pub returns-in_err-lines-clause-begun : goal.returns-in_err-lines-clause-begun
returns-in_err-lines-clause-begun g c =
    let run = c.args.run.now in
    on_err c.from_residual.result (begun_none run.choice (g.O.Opener.meaning run.opener.now) c.args.style.form run.files (g.S.Sink.taken c.args.sink.now))

pub returns-in-Err-finish-clause-begun : goal.returns-in-Err-finish-clause-begun
returns-in-Err-finish-clause-begun g c =
    let taken = g.S.Sink.taken in
    let meaning = g.O.Opener.meaning c.args.run.now.opener.now in
    let texts = c.run_lanes-texts.result in
    let stays = c.run_lanes-texts.ensures.stays in
    let told = subst (λ r. OnOk r ((ns : List Note)
    × ((g.S.Sink.failed texts.sink.now ≡ false) × LinesHold g.J.KnownFiles.meaning (taken texts.start.value) (taken texts.sink.now) texts.lines ns)
    × AreToldWhole c.args.run.now.choice meaning c.args.run.now.files ns)) c.in-Ok.is c.run_lanes-texts.ensures.told in
    let choice : choice_of texts.lines ≡ c.args.run.now.choice = stays.2.choice ∙ ap choice_of c.new-texts.ensures.lines ∙ c.in_ok-lines.ensures.choice in
    let form : form_of texts.lines ≡ c.args.style.form = stays.2.form ∙ ap form_of c.new-texts.ensures.lines ∙ c.in_ok-lines.ensures.form in
    let files : files_of texts.lines ≡ c.args.run.now.files = stays.2.files ∙ ap files_of c.new-texts.ensures.lines ∙ c.in_ok-lines.ensures.files in
    let start : texts.start.value ≡ c.args.sink.now = sym stays.1 ∙ c.new-texts.ensures.start in
    let left = c.in-Err-finish.ensures.partial g.J.KnownFiles.meaning told.0 told.1.1 in
    subst (λ s. ∥ IsBegun c.args.run.now.choice (g.O.Opener.meaning c.args.run.now.opener.now) c.args.style.form c.args.run.now.files (taken c.args.sink.now) (taken s) ∥₁) (search rules)
    (subst (λ b. ∥ IsBegun c.args.run.now.choice (g.O.Opener.meaning c.args.run.now.opener.now) c.args.style.form c.args.run.now.files (taken b) (taken c.finish.new.self.0) ∥₁) start
    (subst (λ m. ∥ IsBegun c.args.run.now.choice m c.args.style.form c.args.run.now.files (taken texts.start.value) (taken c.finish.new.self.0) ∥₁) c.requires.same_meaning
    (begun_lines c.args.run.now.choice g.J.KnownFiles.meaning c.args.style.form c.args.run.now.files (taken texts.start.value) (taken c.finish.new.self.0) texts.lines choice form files told.0 left)))

pub returns-in-Err-clause-begun : goal.returns-in-Err-clause-begun
returns-in-Err-clause-begun g c =
    let taken = g.S.Sink.taken in
    let texts = c.run_lanes-texts.result in
    let stays = c.run_lanes-texts.ensures.stays in
    let Left : Type 0 = (ns : List Note) × ArePartialLines g.J.KnownFiles.meaning (taken texts.start.value) (taken texts.sink.now) texts.lines ns in
    let gave_up : RunFault SinkFault → Type 0 = λ fault. GivesUp (g.S.Sink.failed texts.sink.now) fault × Left in
    let holds : List Note → Type 0 = λ ns. (g.S.Sink.failed texts.sink.now ≡ false) × LinesHold g.J.KnownFiles.meaning (taken texts.start.value) (taken texts.sink.now) texts.lines ns in
    let failed = subst (λ r. IfErr r (HoldsOnFault gave_up holds)) c.in-Err.is c.run_lanes-texts.ensures.failed in
    let choice : choice_of texts.lines ≡ c.args.run.now.choice = stays.2.choice ∙ ap choice_of c.new-texts.ensures.lines ∙ c.in_ok-lines.ensures.choice in
    let form : form_of texts.lines ≡ c.args.style.form = stays.2.form ∙ ap form_of c.new-texts.ensures.lines ∙ c.in_ok-lines.ensures.form in
    let files : files_of texts.lines ≡ c.args.run.now.files = stays.2.files ∙ ap files_of c.new-texts.ensures.lines ∙ c.in_ok-lines.ensures.files in
    let start : texts.start.value ≡ c.args.sink.now = sym stays.1 ∙ c.new-texts.ensures.start in
    let left : Left =
    ended_with gave_up holds c.in-Err.fault (λ gave. gave.1) (λ of ns held. (ns, left_off_held g.J.KnownFiles.meaning (taken texts.start.value) (taken texts.sink.now) texts.lines ns held.1)) failed in
    subst (λ s. ∥ IsBegun c.args.run.now.choice (g.O.Opener.meaning c.args.run.now.opener.now) c.args.style.form c.args.run.now.files (taken c.args.sink.now) (taken s) ∥₁) (search rules)
    (subst (λ s. ∥ IsBegun c.args.run.now.choice (g.O.Opener.meaning c.args.run.now.opener.now) c.args.style.form c.args.run.now.files (taken c.args.sink.now) (taken s) ∥₁) (sym c.drop_texts.ensures)
    (subst (λ b. ∥ IsBegun c.args.run.now.choice (g.O.Opener.meaning c.args.run.now.opener.now) c.args.style.form c.args.run.now.files (taken b) (taken texts.sink.now) ∥₁) start
    (subst (λ m. ∥ IsBegun c.args.run.now.choice m c.args.style.form c.args.run.now.files (taken texts.start.value) (taken texts.sink.now) ∥₁) c.requires.same_meaning
    (begun_lines c.args.run.now.choice g.J.KnownFiles.meaning c.args.style.form c.args.run.now.files (taken texts.start.value) (taken texts.sink.now) texts.lines choice form files left.0 left.1))))

pub returns-in-Err-clause-failed : goal.returns-in-Err-clause-failed
returns-in-Err-clause-failed g c =
    let taken = g.S.Sink.taken in
    let texts = c.run_lanes-texts.result in
    let fails = g.S.Sink.failed texts.sink.now in
    let Left : Type 0 = (ns : List Note) × ArePartialLines g.J.KnownFiles.meaning (taken texts.start.value) (taken texts.sink.now) texts.lines ns in
    let gave_up : RunFault SinkFault → Type 0 = λ fault. GivesUp fails fault × Left in
    let holds : List Note → Type 0 = λ ns. (fails ≡ false) × LinesHold g.J.KnownFiles.meaning (taken texts.start.value) (taken texts.sink.now) texts.lines ns in
    let failed = subst (λ r. IfErr r (HoldsOnFault gave_up holds)) c.in-Err.is c.run_lanes-texts.ensures.failed in
    let now : HasFailedBy fails c.in-Err.fault = ended_with gave_up holds c.in-Err.fault (λ gave. text_failed fails c.in-Err.fault gave.0) (λ of ns held. lanes_failed fails c.in-Err.fault of held.0) failed in
    subst (λ s. HasFailedBy (g.S.Sink.failed s) c.in-Err.fault) (search rules) now

pub run_lanes-texts-requires-clause-accepts : goal.run_lanes-texts-requires-clause-accepts
run_lanes-texts-requires-clause-accepts g c κs within = accepts_known _ _ c.requires.same_meaning
