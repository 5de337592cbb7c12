-- Directions and their numbers.
use Rattle.std.proofs.Common.{◌≡◌, refl, arith}
use Rattle.geometry.specs.declared.direction.Direction.{Direction}
use Rattle.geometry.specs.declared.direction.Direction.TheVariants.{East, North, West, South}
use Rattle.geometry.specs.Directions.{quarters}

-- a number belongs to one direction
pub one_number : (a b : Direction) → quarters a ≡ quarters b → a ≡ b
one_number East East e = refl
one_number North North e = refl
one_number West West e = refl
one_number South South e = refl
one_number East North e = absurd (omega (arith, e))
one_number East West e = absurd (omega (arith, e))
one_number East South e = absurd (omega (arith, e))
one_number North East e = absurd (omega (arith, e))
one_number North West e = absurd (omega (arith, e))
one_number North South e = absurd (omega (arith, e))
one_number West East e = absurd (omega (arith, e))
one_number West North e = absurd (omega (arith, e))
one_number West South e = absurd (omega (arith, e))
one_number South East e = absurd (omega (arith, e))
one_number South North e = absurd (omega (arith, e))
one_number South West e = absurd (omega (arith, e))
