-- Where the outside of a drawing begins.
use Rattle.std.specs.Prelude.{ℕ, ◌<◌}
use Rattle.faces.specs.Planes.{PlaneModel}
use Rattle.ortho_rep.specs.Points.{PointsModel}
use Rattle.drawing_check.specs.Regions.{PassesNorth}

-- in the row of cells y no dart goes north, or south along the reverse, to the west of x
abbrev pub IsWestmost : PlaneModel → PointsModel → ℕ → ℕ → Type 0
IsWestmost p points x y = (x' : ℕ) → x' < x → (e : ℕ) → ¬ PassesNorth p points e x' y

-- no dart goes north anywhere: all parts of edges are level
abbrev pub IsLevel : PlaneModel → PointsModel → Type 0
IsLevel p points = (e x y : ℕ) → ¬ PassesNorth p points e x y
