use Rattle.std.proofs.Common.{◌+◌, arith}
use Rattle.std.proofs.Math.Pow.{pow_mono}
use Rattle.std.proofs.lemmas.Nat.{one_shl}
use Rattle.geometry.proofs.masks.mask_of.Goals as goal

pub overflow_sub-result : goal.overflow_sub-result
overflow_sub-result c =
    let left = c.args.left in
    let right = c.args.right in
    omega (arith, one_shl left 64 (omega (arith, c.requires.filled, c.requires.narrow)), one_shl (right + 1) 64 (omega (arith, c.requires.narrow)), pow_mono {i = left} {j = right + 1} (omega (arith, c.requires.filled)))
