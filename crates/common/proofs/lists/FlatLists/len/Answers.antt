use Rattle.std.proofs.Common.{◌≡◌, length, ap, arith}
use Rattle.common.specs.Slices.{slices_at}
use Rattle.common.proofs.Pieces.{length-slices_at}
use Rattle.common.proofs.lists.FlatLists.len.Goals as goal

pub returns : goal.returns
returns g c =
    let a = c.self.inside in
    let seen : slices_at a.starts.items a.items.items ≡ c.args.self.now = c.self.view_is in
    omega (arith, length-slices_at a.starts.items a.items.items c.self.invariant.some, ap length seen)
