use Rattle.std.proofs.Common.{◌≡◌, Err, subst}
use Rattle.std.proofs.lemmas.Result.{err_from_is_err_and}
use Rattle.streams.specs.declared.output.WriteFault.{WriteFault}
use Rattle.streams.proofs.Sinks.{room_fails}
use Rattle.streams.proofs.frames.write_record.Goals as goal

pub returns-in_err-make_room : goal.returns-in_err-make_room
returns-in_err-make_room g c =
    let p = err_from_is_err_and c.from_residual.result c.from_residual.ensures.1 in
    let is : c.from_residual.result ≡ Err c.in_err-make_room.field-0.0 =
    subst (λ (e : WriteFault). c.from_residual.result ≡ Err e) p.2 p.1 in
    room_fails _ _ _ _ _ _ _ _ c.in_err-make_room.ensures.writes is
