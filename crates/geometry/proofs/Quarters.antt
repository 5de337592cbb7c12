-- Turning to the left, told by the numbers of directions.
use Rattle.std.proofs.Common.{◌≡◌, ◌+◌, ◌%◌, ℕ, zero, suc, refl, arith}
use Rattle.geometry.specs.declared.direction.Direction.{Direction}
use Rattle.geometry.specs.declared.direction.Direction.TheVariants.{East, North, West, South}
use Rattle.geometry.specs.Directions.{left_of, quarters, left_quarters}

-- one quarter turn
one_left : (d : Direction) → quarters (left_of d) ≡ (quarters d + 1) % 4
one_left East = refl
one_left North = refl
one_left West = refl
one_left South = refl

-- n of them
pub quarters_of_lefts : (n : ℕ) (d : Direction) → quarters (left_quarters n d) ≡ (quarters d + n) % 4
quarters_of_lefts zero East = refl
quarters_of_lefts zero North = refl
quarters_of_lefts zero West = refl
quarters_of_lefts zero South = refl
quarters_of_lefts (suc n) d = omega (arith, one_left (left_quarters n d), quarters_of_lefts n d)

-- directions with the same number are the same
pub same_direction : (d e : Direction) → quarters d ≡ quarters e → d ≡ e
same_direction East East same = refl
same_direction North North same = refl
same_direction West West same = refl
same_direction South South same = refl
same_direction East North same = absurd (omega (arith, same))
same_direction East West same = absurd (omega (arith, same))
same_direction East South same = absurd (omega (arith, same))
same_direction North East same = absurd (omega (arith, same))
same_direction North West same = absurd (omega (arith, same))
same_direction North South same = absurd (omega (arith, same))
same_direction West East same = absurd (omega (arith, same))
same_direction West North same = absurd (omega (arith, same))
same_direction West South same = absurd (omega (arith, same))
same_direction South East same = absurd (omega (arith, same))
same_direction South North same = absurd (omega (arith, same))
same_direction South West same = absurd (omega (arith, same))
