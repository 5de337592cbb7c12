use Rattle.std.proofs.Common.{◌≡◌, ◌↔◌, true, [], Ok, refl, sym, subst, ◌∙◌}
use Rattle.streams.proofs.Sinks.{flushed_whole}
use Rattle.checking.specs.Lines.{state_in}
use Rattle.checking.specs.Text.{verdict_lines}
use Rattle.checking.specs.Runs.{verdicts_text}
use Rattle.checking.proofs.Steps.{stops_before, ends_text}
use Rattle.checking.proofs.Texts.{sent_only, room_lost, flush_lost, room_fault, flush_fault, memory_fault}
use Rattle.checking.proofs.Whole.{all_read, all_cut_short, status_is, whole_text}
use Rattle.std.proofs.lemmas.Result.{err_from_is_err_and}
use Rattle.streams.specs.declared.output.WriteFault.{WriteFault}
use Rattle.streams.specs.declared.output.WriteFault.TheVariants.{Write}
use Rattle.checking.proofs.run.Checker.finish.Goals as goal

pub returns-in_err-rest-clause-begun : goal.returns-in_err-rest-clause-begun
returns-in_err-rest-clause-begun g c =
    let q = err_from_is_err_and c.from_residual.result c.from_residual.ensures.1 in
    rw q.1 (λ known fails start records at u.
    let checker = c.args.self in
    let out = g.S.Sink.taken c.args.out.now in (
      0,
      stops_before g.L.Tap.to_come g.L.Tap.fails known fails start out out checker records c.args.end.mark 0 u
          (sent_only start out checker.text (verdict_lines checker.options.form 1 u.verdicts) u.text),
    ))

pub returns-in_err-make_room-clause-begun : goal.returns-in_err-make_room-clause-begun
returns-in_err-make_room-clause-begun g c =
    let q = err_from_is_err_and c.from_residual-in_err-make_room.result c.from_residual-in_err-make_room.ensures.1 in
    rw q.1 (λ known fails start records at u.
    let checker = c.args.self in
    let old_out = g.S.Sink.taken c.args.out.now in
    let new_out = g.S.Sink.taken c.make_room.new.sink in
    let said = verdict_lines checker.options.form 1 u.verdicts in (
      0,
      stops_before g.L.Tap.to_come g.L.Tap.fails known fails start old_out new_out checker records c.args.end.mark 0 u
          (room_lost start old_out new_out checker.text c.make_room.new.self said (g.S.Sink.failed c.make_room.new.sink) c.in_err-make_room.field-0.0 c.in_err-make_room.ensures.writes u.text),
    ))

pub returns-in_err-flush-clause-begun : goal.returns-in_err-flush-clause-begun
returns-in_err-flush-clause-begun g c =
    let q = err_from_is_err_and c.from_residual-in_err-flush.result c.from_residual-in_err-flush.ensures.1 in
    rw q.1 (λ known fails start records at u.
    let checker = c.args.self in
    let rest = c.in_ok-rest.rest in
    let old_out = g.S.Sink.taken c.args.out.now in
    let mid_out = g.S.Sink.taken c.make_room.new.sink in
    let new_out = g.S.Sink.taken c.flush.new.sink in
    let way = ends_text g.L.Tap.to_come g.L.Tap.fails known fails start old_out mid_out checker records checker.options checker.text c.make_room.new.self c.push_end.new.lines c.from.result rest.surplus c.args.end.mark
    (g.S.Sink.failed c.make_room.new.sink) u refl refl (c.from.ensures ∙ at) c.in_ok-make_room.ensures.writes c.push_end.ensures in (
      rest.surplus,
      all_cut_short checker.options known fails start new_out c.args.end.mark rest.failed records u.verdicts rest.surplus
          (all_read g.L.Tap.to_come g.L.Tap.fails known fails checker.options.faces (state_in checker.lines) c.read_trailing.new.lines u.kept records u.verdicts rest u.as_many u.each (c.in_ok-rest.ensures.reads known fails u.kept u.has_kept))
          (flush_lost start mid_out new_out c.push_end.new.lines (verdicts_text checker.options.form u.verdicts c.args.end.mark rest.surplus) (g.S.Sink.failed c.flush.new.sink) c.in_err-flush.field-0.0 c.in_err-flush.ensures.writes way),
    ))

pub returns-clause-whole : goal.returns-clause-whole
returns-clause-whole g c = λ graphs cut known fails start records at is u.
    let checker = c.args.self in
    let rest = c.in_ok-rest.rest in
    let old_out = g.S.Sink.taken c.args.out.now in
    let mid_out = g.S.Sink.taken c.make_room.new.sink in
    let new_out = g.S.Sink.taken c.flush.new.sink in
    let way = ends_text g.L.Tap.to_come g.L.Tap.fails known fails start old_out mid_out checker records checker.options checker.text c.make_room.new.self c.push_end.new.lines c.from.result rest.surplus c.args.end.mark
    (g.S.Sink.failed c.make_room.new.sink) u refl refl (c.from.ensures ∙ at) c.in_ok-make_room.ensures.writes c.push_end.ensures in
    let written = flushed_whole start mid_out new_out c.push_end.new.lines (g.S.Sink.failed c.flush.new.sink) (verdicts_text checker.options.form u.verdicts c.args.end.mark rest.surplus) (Ok tt) way c.in_ok-flush.ensures.writes in
    whole_text checker.options graphs cut known fails start new_out (g.S.Sink.failed c.flush.new.sink) rest.failed c.args.end.mark records u.verdicts rest.surplus c.status_of.result is
    (all_read g.L.Tap.to_come g.L.Tap.fails known fails checker.options.faces (state_in checker.lines) c.read_trailing.new.lines u.kept records u.verdicts rest u.as_many u.each (c.in_ok-rest.ensures.reads known fails u.kept u.has_kept))
    written.1 written.0
    (status_is c.args.end.mark rest.failed c.is_whole-whole.result checker.all_ok checker.wants_memory u.verdicts rest.surplus c.status_of.result u.oks u.wants c.is_whole-whole.ensures
    c.status_of.ensures.unread c.status_of.ensures.well c.status_of.ensures.other)

pub returns-in_err-rest-clause-fault : goal.returns-in_err-rest-clause-fault
returns-in_err-rest-clause-fault g c =
    let q = err_from_is_err_and c.from_residual.result c.from_residual.ensures.1 in
    rw q.1 (subst (λ (f : WriteFault). (f ≡ Write) ↔ (g.S.Sink.failed c.args.out.now ≡ true)) (sym q.2)
    (memory_fault (g.S.Sink.failed c.args.out.now) c.in_err-rest.field-0.0 c.in_err-rest.ensures.memory c.requires))

pub returns-in_err-make_room-clause-fault : goal.returns-in_err-make_room-clause-fault
returns-in_err-make_room-clause-fault g c =
    let q = err_from_is_err_and c.from_residual-in_err-make_room.result c.from_residual-in_err-make_room.ensures.1 in
    rw q.1 (subst (λ (f : WriteFault). (f ≡ Write) ↔ (g.S.Sink.failed c.make_room.new.sink ≡ true)) (sym q.2)
    (room_fault (g.S.Sink.taken c.args.out.now) (g.S.Sink.taken c.make_room.new.sink) c.args.self.text c.make_room.new.self [] (g.S.Sink.failed c.make_room.new.sink) c.in_err-make_room.field-0.0 c.in_err-make_room.ensures.writes))

pub returns-in_err-flush-clause-fault : goal.returns-in_err-flush-clause-fault
returns-in_err-flush-clause-fault g c =
    let q = err_from_is_err_and c.from_residual-in_err-flush.result c.from_residual-in_err-flush.ensures.1 in
    rw q.1 (subst (λ (f : WriteFault). (f ≡ Write) ↔ (g.S.Sink.failed c.flush.new.sink ≡ true)) (sym q.2)
    (flush_fault (g.S.Sink.taken c.make_room.new.sink) (g.S.Sink.taken c.flush.new.sink) c.push_end.new.lines (g.S.Sink.failed c.flush.new.sink) c.in_err-flush.field-0.0 c.in_err-flush.ensures.writes))
