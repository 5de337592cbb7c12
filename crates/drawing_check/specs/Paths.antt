-- The path of each edge: its ends and its corners, met in walking along its lesser dart.
use Rattle.std.specs.Prelude.{ℕ, List, [], ◌∷◌, ◌++◌, map, reverse, slice_index_or, if◌then◌else◌}
use Rattle.faces.specs.Planes.{PlaneModel, tail, head, reverse_dart}
use Rattle.ortho_rep.specs.declared.grid_points.Point.{Point}
use Rattle.ortho_rep.specs.Points.{PointsModel, origin, vertex_point, corners_at}
use Rattle.ortho_rep.specs.Edges.{is_lesser, lesser_darts, edge_number}

-- the path of the edge whose lesser dart is d
abbrev pub path_along : PlaneModel → PointsModel → ℕ → List Point
path_along p points d =
    vertex_point points (tail p d) ∷ (corners_at points (edge_number p d) ++ vertex_point points (head p d) ∷ [])

-- the paths of all edges, in order
abbrev pub paths : PlaneModel → PointsModel → List (List Point)
paths p points = map (path_along p points) (lesser_darts p)

-- the path met in walking along any dart d
abbrev pub dart_path : PlaneModel → PointsModel → ℕ → List Point
dart_path p points d =
    if is_lesser p d then path_along p points d else reverse (path_along p points (reverse_dart p d))

-- point k of a path
abbrev pub point_of : List Point → ℕ → Point
point_of path k = slice_index_or path k origin
