use Rattle.std.proofs.Common.{◌≡◌, length, ap, arith}
use Rattle.common.specs.Slices.{slices_at}
use Rattle.common.proofs.Pieces.{length-slices_at}
use Rattle.common.proofs.lists.FlatLists.get.Goals as goal

pub slice_of-requires-clause-within : goal.slice_of-requires-clause-within
slice_of-requires-clause-within g c =
    let a = c.self.inside in
    let seen : slices_at a.starts.items a.items.items ≡ c.args.self.now = c.self.view_is in
    omega (arith, length-slices_at a.starts.items a.items.items c.self.invariant.some, ap length seen, ap length c.deref-2.ensures.value)
