-- Vertices of degree 2 that turn, in a representation.
use Rattle.std.specs.Prelude.{ℕ, ◌==◌, count_by}
use Rattle.ortho_rep.specs.Shapes.{ShapeModel}

-- how many angles of three right angles there are: a vertex of degree 2 that turns has one, and no other vertex has
-- any, since the angles at each vertex sum to four
abbrev pub reflex_angles : ShapeModel → ℕ
reflex_angles shape = count_by (λ angle. angle == 3) shape.angles
