-- The paths of edges, seen in place.
use Rattle.std.specs.Prelude.{◌≡◌, ℕ, ◌<◌, List, [], ◌∷◌, ◌++◌, slice_index_or}
use Rattle.geometry.specs.declared.direction.Direction.{Direction}
use Rattle.geometry.specs.declared.direction.Direction.TheVariants.{East}
use Rattle.geometry.specs.Directions.{left_quarters}
use Rattle.faces.specs.Planes.{PlaneModel, darts, reverse_dart, next}
use Rattle.ortho_rep.specs.Shapes.{ShapeModel, angle_at}
use Rattle.ortho_rep.specs.declared.grid_points.Point.{Point}
use Rattle.drawing_check.specs.declared.route.Route.{Route}

abbrev pub path_of : Route → List Point
path_of route = route.start ∷ (route.corners.now ++ route.end ∷ [])

-- entry d of a list of directions
abbrev pub direction_at : List Direction → ℕ → Direction
direction_at directions d = slice_index_or directions d East

-- the angle at the head of each dart is that of the shape, where the darts leave their tails in these directions
abbrev pub HeadsTurn : PlaneModel → ShapeModel → List Direction → Type 0
HeadsTurn p shape directions =
    (d : ℕ) → d < darts p
    → direction_at directions (reverse_dart p d) ≡ left_quarters (angle_at shape d) (direction_at directions (next p d))
