use Rattle.std.proofs.Common.{◌≡◌, ◌↔◌, true, ◌∙◌, [], refl, sym, subst, arith}
use Rattle.planar_code.specs.declared.partial_record.Ending.TheVariants as ending
use Rattle.streams.specs.declared.frames.Mark.TheVariants.{Ended}
use Rattle.streams.proofs.Pieces.{found_nothing}
use Rattle.checking.specs.declared.run.CheckOptions.{CheckOptions}
use Rattle.checking.specs.Runs.{IsBegunTextOfVerdicts}
use Rattle.checking.proofs.Settled.{nothing_judged}
use Rattle.checking.proofs.Texts.{memory_fault}
use Rattle.checking.proofs.Whole.{begun, found_first, finished, finished_short}
use Rattle.std.proofs.lemmas.Result.{err_from_is_err_and}
use Rattle.streams.specs.declared.output.WriteFault.{WriteFault}
use Rattle.streams.specs.declared.output.WriteFault.TheVariants.{Write}
use Rattle.checking.proofs.run.check_files.Goals as goal

pub returns-in_default-clause-begun : goal.returns-in_default-clause-begun
returns-in_default-clause-begun g c =
    begun _ _ _ _ _ _ _ (Ended ending.Memory) 0 [] (found_nothing _ _ [] refl) (nothing_judged _ _ _ _ (Ended ending.Memory) 0)

pub returns-in_default-new-clause-begun : goal.returns-in_default-new-clause-begun
returns-in_default-new-clause-begun g c =
    begun _ _ _ _ _ _ _ (Ended ending.Memory) 0 [] (found_nothing _ _ [] refl) (nothing_judged _ _ _ _ (Ended ending.Memory) 0)

pub returns-in_default-clause-fault : goal.returns-in_default-clause-fault
returns-in_default-clause-fault g c = memory_fault (g.S.Sink.failed c.args.out.now) _ refl c.requires

pub returns-in_default-new-clause-fault : goal.returns-in_default-new-clause-fault
returns-in_default-new-clause-fault g c = memory_fault (g.S.Sink.failed c.args.out.now) _ refl c.requires

pub check_records-requires-clause-room : goal.check_records-requires-clause-room
check_records-requires-clause-room g c = omega (arith, c.in-Ok.ensures, c.as_mut_slice.ensures.len)

pub returns-clause-whole : goal.returns-clause-whole
returns-clause-whole g c =
    let start = g.S.Sink.taken c.args.out.now in
    let goes = c.in_ok-end.ensures.goes_on in
    finished g.L.Tap.to_come g.L.Tap.fails c.check_records.new.checker c.args.options c.in_ok-end.end _ _ _ _ start (g.S.Sink.taken c.check_records.new.out) _ goes.0 _ c.finish.result
    (goes.1.0 ∙ c.in-Ok-new.ensures.options) goes.2 goes.3 (goes.1.1 _ _ start [] refl (c.in-Ok-new.ensures.begins start)) c.finish.ensures.whole

pub returns-clause-begun : goal.returns-clause-begun
returns-clause-begun g c =
    let start = g.S.Sink.taken c.args.out.now in
    let goes = c.in_ok-end.ensures.goes_on in
    finished_short g.L.Tap.to_come g.L.Tap.fails c.check_records.new.checker c.args.options c.in_ok-end.end _ _ _ _ start (g.S.Sink.taken c.check_records.new.out) _ goes.0 c.finish.result
    (goes.1.0 ∙ c.in-Ok-new.ensures.options) goes.2 goes.3 (goes.1.1 _ _ start [] refl (c.in-Ok-new.ensures.begins start)) c.finish.ensures.begun

pub returns-in_err-end-clause-begun : goal.returns-in_err-end-clause-begun
returns-in_err-end-clause-begun g c =
    let q = err_from_is_err_and c.from_residual.result c.from_residual.ensures.1 in
    let known = g.L.Tap.to_come c.args.lines in
    let fails = g.L.Tap.fails c.args.lines in
    let start = g.S.Sink.taken c.args.out.now in
    let stopped = c.in_err-end.ensures.begun in
    let short = stopped.1.1 known fails start [] (Ended ending.Memory) 0 refl (c.in-Ok-new.ensures.begins start) in
    rw q.1 (subst (λ (o : CheckOptions). IsBegunTextOfVerdicts o (g.G.Tap.to_come c.args.graphs) (g.G.Tap.fails c.args.graphs) known fails start (g.S.Sink.taken c.check_records.new.out)) c.in-Ok-new.ensures.options
    (begun _ _ _ _ _ _ _ (Ended ending.Memory) 0 short.judged (found_first _ _ short.judged _ stopped.2 short.first) short.short))

pub returns-in_err-end-clause-fault : goal.returns-in_err-end-clause-fault
returns-in_err-end-clause-fault g c =
    let q = err_from_is_err_and c.from_residual.result c.from_residual.ensures.1 in
    rw q.1 (subst (λ (f : WriteFault). (f ≡ Write) ↔ (g.S.Sink.failed c.check_records.new.out ≡ true)) (sym q.2) c.in_err-end.ensures.begun.1.0)
