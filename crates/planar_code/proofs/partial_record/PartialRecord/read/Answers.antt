-- A record that was begun is unfinished; there is room for a whole one.
use Rattle.std.proofs.Common.{◌≡◌, ◌++◌, length, take, length-append, ap, sym, subst, arith, Ok}
use Rattle.planar_code.specs.Stream.{IsRecord, IsUnfinished}
use Rattle.planar_code.specs.Started.{IsStarted}
use Rattle.planar_code.specs.Scan.{Scans}
use Rattle.planar_code.proofs.Started.{started-unfinished, length-record}
use Rattle.planar_code.proofs.partial_record.PartialRecord.read.Goals as goal

pub returns-in-Open : goal.returns-in-Open
returns-in-Open c =
    let started : IsStarted (c.args.self.now ++ c.args.text.now) c.in-Open.remaining c.in-Open.entries
    = subst (λ z. Scans c.args.self.now c.args.text.now (Ok z)) c.in-Open.is c.in_ok-remaining.ensures in
    (subst IsUnfinished (sym c.keep.ensures) (started-unfinished _ _ _ started), c.keep.ensures)

pub unwrap-requires : goal.unwrap-requires
unwrap-requires c =
    let same : length c.self.inside.bytes.items ≡ length c.args.self.now = ap length c.self.view_is in
    let front = take c.in-Whole.end c.args.text.now in
    let whole : IsRecord (c.args.self.now ++ front) = (subst (λ z. Scans c.args.self.now c.args.text.now (Ok z)) c.in-Whole.is c.in_ok-remaining.ensures).2 in
    c.extend_from_slice.ensures.succeeds
    (omega (arith, c.self.invariant.1, length-record _ whole, length-append c.args.self.now front, c.self.inside.bytes.ok.0))
