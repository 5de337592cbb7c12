use Rattle.std.proofs.Common.{◌≡◌, ◌↔◌, true, ◌+◌, ◌++◌, ℕ, List, [], length, Ok, subst, sym, arith}
use Rattle.streams.specs.Sink.{IsInTransit, StaysInTransit}
use Rattle.checking.specs.declared.line_reader.Lines.{Lines}
use Rattle.checking.specs.Lines.{state_in}
use Rattle.checking.specs.Text.{verdict_line, verdict_lines}
use Rattle.checking.specs.declared.run.CheckOptions.{CheckOptions}
use Rattle.checking.specs.UnderWay.{KeepsNext}
use Rattle.checking.proofs.Steps.{under_way_next, stops_before}
use Rattle.checking.proofs.Texts.{room_lost, room_fault}
use Rattle.std.proofs.lemmas.Result.{err_from_is_err_and}
use Rattle.streams.specs.declared.output.WriteFault.{WriteFault}
use Rattle.streams.specs.declared.output.WriteFault.TheVariants.{Write}
use Rattle.checking.proofs.run.Checker.write_verdict.Goals as goal

pub returns-in_err-make_room-clause-begun : goal.returns-in_err-make_room-clause-begun
returns-in_err-make_room-clause-begun g c =
    let q = err_from_is_err_and c.from_residual.result c.from_residual.ensures.1 in
    rw q.1 (λ known fails start earlier mark surplus u.
    let checker = c.args.self.now in
    let old_out = g.S.Sink.taken c.args.out.now in
    let new_out = g.S.Sink.taken c.make_room.new.sink in
    let text : c.note.new.self.text ≡ checker.text = c.note.ensures.text in
    let said = verdict_lines checker.options.form 1 u.verdicts in
    let way : IsInTransit start old_out c.note.new.self.text said = subst (λ (w : List ℕ). IsInTransit start old_out w said) (sym text) u.text in
    stops_before g.L.Tap.to_come g.L.Tap.fails known fails start old_out new_out checker earlier mark surplus u
    (room_lost start old_out new_out c.note.new.self.text c.make_room.new.self said (g.S.Sink.failed c.make_room.new.sink) c.in_err-make_room.field-0.0 c.in_err-make_room.ensures.writes way))

pub returns-clause-goes_on : goal.returns-clause-goes_on
returns-clause-goes_on g c = λ known fails start earlier at u.
    let checker = c.args.self.now in
    let v = c.record_verdict-verdict.result in
    let told = c.next_input-input.result in
    let old_out = g.S.Sink.taken c.args.out.now in
    let new_out = g.S.Sink.taken c.make_room.new.sink in
    let failed = g.S.Sink.failed c.make_room.new.sink in
    let mid = c.make_room.new.self in
    let text : c.note.new.self.text ≡ checker.text = c.note.ensures.text in
    let options : c.note.new.self.options ≡ checker.options = c.note.ensures.options in
    let lines : c.note.new.self.lines ≡ c.next_input-input.new.lines = c.note.ensures.lines in
    let number = c.from-number.result + 1 in
    let place : number ≡ length earlier + 1 = omega (arith, at, c.from-number.ensures) in
    under_way_next g.L.Tap.to_come g.L.Tap.fails known fails start old_out new_out checker _ earlier c.args.rec.now v told mid failed number u
    (subst (λ (ls : Lines g.row.L.Denot). KeepsNext g.L.Tap.to_come g.L.Tap.fails known fails (state_in checker.lines) ls u.kept told) (sym lines)
    (c.next_input-input.ensures known fails u.kept u.has_kept))
    c.record_verdict-verdict.ensures.holds c.record_verdict-verdict.ensures.memory options place
    c.note.ensures.ok c.note.ensures.wants
    (subst (λ (w : List ℕ). StaysInTransit {A = Unit {0}} old_out w new_out mid failed [] (Ok tt)) text c.in_ok-make_room.ensures.writes)
    (subst (λ (a : CheckOptions). c.push_verdict.new.lines ≡ mid ++ verdict_line a.form number v) options c.push_verdict.ensures)

pub returns-in_err-make_room-clause-fault : goal.returns-in_err-make_room-clause-fault
returns-in_err-make_room-clause-fault g c =
    let q = err_from_is_err_and c.from_residual.result c.from_residual.ensures.1 in
    rw q.1 (subst (λ (f : WriteFault). (f ≡ Write) ↔ (g.S.Sink.failed c.make_room.new.sink ≡ true)) (sym q.2)
    (room_fault (g.S.Sink.taken c.args.out.now) (g.S.Sink.taken c.make_room.new.sink) c.note.new.self.text c.make_room.new.self [] (g.S.Sink.failed c.make_room.new.sink) c.in_err-make_room.field-0.0 c.in_err-make_room.ensures.writes))
