use Rattle.std.proofs.Common.{arith}
use Rattle.geometry.specs.Directions.{left_quarters}
use Rattle.geometry.proofs.Quarters.{quarters_of_lefts, same_direction}
use Rattle.geometry.proofs.direction.Direction.left_quarters.Goals as goal

pub returns : goal.returns
returns c =
    same_direction c.from_quarters.result (left_quarters c.args.quarters c.args.self)
    (omega (arith, c.from_quarters.ensures, c.quarters.ensures.value, quarters_of_lefts c.args.quarters c.args.self))
