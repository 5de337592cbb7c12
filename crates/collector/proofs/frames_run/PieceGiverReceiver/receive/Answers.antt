use Rattle.std.proofs.Common.{◌++◌, sym, subst}
use Rattle.std.proofs.lemmas.Result.{on_ok_weaker}
use Rattle.ruled_lanes.specs.LinkEnds.{given}
use Rattle.collector.specs.ReadMessage.{GiveRecords}
use Rattle.collector.proofs.Messages.{gave_records}
use Rattle.collector.proofs.frames_run.PieceGiverReceiver.receive.Goals as goal

pub returns-clause-received : goal.returns-clause-received
returns-clause-received g c =
    on_ok_weaker c.give.result
    (λ more earlier give.
    let gave = gave_records earlier _ c.replace-batch.result give in
    let told = subst (λ messages. GiveRecords (earlier ++ c.replace-batch.result.items) messages) (sym more) gave in
    subst (λ batch. GiveRecords (earlier ++ batch.items) (given c.give.new.self)) c.replace-batch.ensures.value told)
    c.give.ensures.ok
