-- The parts of edges by the axis along which they lie. Only proofs speak of them.
use Rattle.std.specs.Prelude.{ℕ, ◌==◌, ◌&&◌, nat_lt, nat_le, Bool, if◌then◌else◌, List, [], ◌∷◌, ◌++◌}
use Rattle.faces.specs.Planes.{PlaneModel, reverse_dart, face_at}
use Rattle.ortho_rep.specs.declared.grid_points.Point.{Point}
use Rattle.ortho_rep.specs.Points.{PointsModel}
use Rattle.drawing_check.specs.Paths.{path_along}

-- a part of an edge on a line: where it begins and ends there, and the faces before that line and behind it
pub record Part : Type 0 where
  pub line : ℕ
  pub from : ℕ
  pub to : ℕ
  pub before : ℕ
  pub behind : ℕ

-- the same part the other way round
abbrev pub turned_round : Part → Part
turned_round s = record { line = s.line; from = s.to; to = s.from; before = s.behind; behind = s.before }

abbrev pub upward : Part → Part
upward s = if nat_lt s.from s.to then s else turned_round s

-- what leads to the line of its end, if that is its own line, so that it goes up
abbrev pub on_line : Part → ℕ → List Part
on_line s end = if s.line == end then upward s ∷ [] else []

-- the upright part between two points, with the faces on the left and on the right of the way
abbrev pub upright_between : ℕ → ℕ → Point → Point → List Part
upright_between left right a b = on_line (record { line = a.x; from = a.y; to = b.y; before = left; behind = right }) b.x

-- the level one: south of what goes east is the right
abbrev pub level_between : ℕ → ℕ → Point → Point → List Part
level_between left right a b = on_line (record { line = a.y; from = a.x; to = b.x; before = right; behind = left }) b.y

-- what there is between each point of a path and the next
abbrev pub pieces : (Point → Point → List Part) → List Point → List Part
pieces between [] = []
pieces between (a ∷ []) = []
pieces between (a ∷ b ∷ rest) = between a b ++ pieces between (b ∷ rest)

-- the parts of the edge whose lesser dart is d
abbrev pub upright_parts : PlaneModel → PointsModel → ℕ → List Part
upright_parts p points d = pieces (upright_between (face_at p d) (face_at p (reverse_dart p d))) (path_along p points d)

abbrev pub level_parts : PlaneModel → PointsModel → ℕ → List Part
level_parts p points d = pieces (level_between (face_at p d) (face_at p (reverse_dart p d))) (path_along p points d)

-- whether a part passes place c of line l: one unit side, which ends at c
abbrev pub passes : Part → ℕ → ℕ → Bool
passes s l c = (s.line == l) && (nat_lt s.from c && nat_le c s.to)
