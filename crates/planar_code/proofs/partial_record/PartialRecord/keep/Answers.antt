-- There is room for what a record begins with.
use Rattle.std.proofs.Common.{◌≡◌, length, length-append, ap, arith}
use Rattle.planar_code.proofs.Started.{length-started}
use Rattle.planar_code.proofs.partial_record.PartialRecord.keep.Goals as goal

pub unwrap-requires : goal.unwrap-requires
unwrap-requires c =
    let same : length c.self.inside.bytes.items ≡ length c.args.self.now = ap length c.self.view_is in
    c.extend_from_slice.ensures.succeeds
    (omega (arith, c.self.invariant.1, length-started _ _ _ c.requires, length-append c.args.self.now c.args.text.now, c.self.inside.bytes.ok.0))
