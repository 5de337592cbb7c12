-- The directions along the axes, and quarter turns between them.
use Rattle.std.specs.Prelude.{ℕ}
use Prim.Native.Nat.{suc, zero}
use Rattle.geometry.specs.declared.direction.Direction.{Direction}
use Rattle.geometry.specs.declared.direction.Direction.TheVariants.{East, North, West, South}

-- a quarter turn to the left: the left of (x, y) is (-y, x)
abbrev pub left_of : Direction → Direction
left_of East = North
left_of North = West
left_of West = South
left_of South = East

-- a quarter turn to the right
abbrev pub right_of : Direction → Direction
right_of East = South
right_of North = East
right_of West = North
right_of South = West

-- the opposite direction
abbrev pub opposite_of : Direction → Direction
opposite_of East = West
opposite_of North = South
opposite_of West = East
opposite_of South = North

-- the number of a direction: quarter turns to the left from east
abbrev pub quarters : Direction → ℕ
quarters East = 0
quarters North = 1
quarters West = 2
quarters South = 3

-- the direction that is this many quarter turns to the left
abbrev pub left_quarters : ℕ → Direction → Direction
left_quarters zero direction = direction
left_quarters (suc n) direction = left_of (left_quarters n direction)
