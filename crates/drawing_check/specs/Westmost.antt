-- The westmost upright part of all edges. Only private contracts speak of it.
use Rattle.std.specs.Prelude.{ℕ, zero, suc, ◌==◌, nat_lt, if◌then◌else◌, List, [], ◌∷◌, Option, Some, None}
use Rattle.faces.specs.Planes.{PlaneModel, reverse_dart, face_at}
use Rattle.ortho_rep.specs.declared.grid_points.Point.{Point}
use Rattle.ortho_rep.specs.Points.{PointsModel}
use Rattle.ortho_rep.specs.Edges.{is_lesser}
use Rattle.drawing_check.specs.Paths.{path_along}
use Rattle.drawing_check.specs.declared.face_regions.Upright.{Upright}

-- the one further west of two parts, the first of them if both lie on one line
abbrev pub further_west : Option Upright → Upright → Option Upright
further_west None part = Some part
further_west (Some west) part = if nat_lt part.line west.line then Some part else Some west

-- one part of a path more, with these faces on the left and on the right
abbrev pub west_with_part : ℕ → ℕ → Option Upright → Point → Point → Option Upright
west_with_part left right west a b =
    if a.x == b.x then further_west west (record { line = a.x; face = if nat_lt a.y b.y then left else right }) else west

-- all parts of a path more
abbrev pub west_with_path : ℕ → ℕ → Option Upright → List Point → Option Upright
west_with_path left right west [] = west
west_with_path left right west (a ∷ []) = west
west_with_path left right west (a ∷ b ∷ rest) = west_with_path left right (west_with_part left right west a b) (b ∷ rest)

-- all parts of the edge whose lesser dart is d more
abbrev pub west_with_edge : PlaneModel → PointsModel → Option Upright → ℕ → Option Upright
west_with_edge p points west d = west_with_path (face_at p d) (face_at p (reverse_dart p d)) west (path_along p points d)

-- the westmost part of the edges whose lesser darts are below d
abbrev pub westmost_below : PlaneModel → PointsModel → ℕ → Option Upright
westmost_below p points zero = None
westmost_below p points (suc d) = if is_lesser p d then west_with_edge p points (westmost_below p points d) d else westmost_below p points d

-- the face on the west of a part, and the other one if there is no part
abbrev pub face_on_west : Option Upright → ℕ → ℕ
face_on_west None other = other
face_on_west (Some part) other = part.face
