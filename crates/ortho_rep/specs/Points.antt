-- What callers see of `Points`: a point for each vertex, and for each edge its corners along its lesser dart.
use Rattle.std.specs.Prelude.{ℕ, ◌-◌, ◌<◌, List, [], slice_index_or, All}
use Rattle.ortho_rep.specs.declared.grid_points.Point.{Point}

-- place v - 1 of the first list belongs to vertex v, place e of the second to edge e
pub record PointsModel : Type 0 where
  pub vertices : List Point
  pub corners : List (List Point)

-- what stands for a point past the end of a list
abbrev pub origin : Point
origin = record { x = 0; y = 0 }

abbrev pub vertex_point : PointsModel → ℕ → Point
vertex_point points v = slice_index_or points.vertices (v - 1) origin

abbrev pub corners_at : PointsModel → ℕ → List Point
corners_at points e = slice_index_or points.corners e []

-- both coordinates of a point are less than n
abbrev pub IsBelow : ℕ → Point → Type 0
IsBelow n point = (point.x < n) × (point.y < n)

-- so are those of all points and corners
pub record AreBelow (n : ℕ) (points : PointsModel) : Type 0 where
  pub ends : All (IsBelow n) points.vertices
  pub bends : All (All (IsBelow n)) points.corners
