use Rattle.std.proofs.Common.{sym}
use Rattle.common.proofs.Pieces.{get_or-slices_at}
use Rattle.common.proofs.lists.slice_of.Goals as goal

pub returns : goal.returns
returns g c = sym (get_or-slices_at c.args.starts.now c.args.items.now c.args.i c.requires.within)
