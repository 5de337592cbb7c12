-- Unit cells of the grid, and the boxes that cover them. The cell in column i and row j lies between the coordinates i and i + 1 of x,
-- and j and j + 1 of y.
use Rattle.std.specs.Prelude.{◌≡◌, ℕ, ◌<◌, ◌≤◌}
use Rattle.dissect.specs.DartMaps.{DartMap}
use Rattle.dissect.specs.Faces.{HasFourCorners}

-- a face with four left turns: c arrives to the north, at its upper right corner
pub record IsBoxAt (w : DartMap) (c : ℕ) : Type 0 where
  pub inside : c < w.darts
  pub north : w.direction c ≡ 1
  pub four : HasFourCorners w 1 c

-- the box with the upper right corner c covers the cell: the corners after it are the upper left, the lower left and the lower right one
pub record CoversCell (w : DartMap) (x y : ℕ → ℕ) (c i j : ℕ) : Type 0 where
  pub box : IsBoxAt w c
  pub right : i < x (w.head c)
  pub above : j < y (w.head c)
  pub left : x (w.head box.four.second) ≤ i
  pub below : y (w.head box.four.fourth) ≤ j

-- exactly one box covers the cell
pub record IsCoveredOnce (w : DartMap) (x y : ℕ → ℕ) (i j : ℕ) : Type 0 where
  pub corner : ℕ
  pub covers : CoversCell w x y corner i j
  pub only : (c : ℕ) → CoversCell w x y c i j → c ≡ corner

-- the cell lies in the rectangle whose lower left corner is the vertex u, and whose upper right one is v
pub record IsWithin (x y : ℕ → ℕ) (u v i j : ℕ) : Type 0 where
  pub right : i < x v
  pub above : j < y v
  pub left : x u ≤ i
  pub below : y u ≤ j
