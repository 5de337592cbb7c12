-- How many bends a shape has, and how many suffice.
use Rattle.std.specs.Prelude.{ℕ, ◌+◌, ◌-◌, ◌*◌, ◌/◌}
use Rattle.faces.specs.Planes.{PlaneModel, darts}
use Rattle.ortho_rep.specs.Shapes.{ShapeModel, turns_at}
use Rattle.ortho_rep.specs.Representation.{bends_of}

-- the bends of a shape of the plane
abbrev pub bends : PlaneModel → ShapeModel → ℕ
bends p shape = bends_of (darts p) (turns_at shape)

-- each edge is two darts
abbrev pub edges : PlaneModel → ℕ
edges p = darts p / 2

-- all faces but the outer one
abbrev pub inner_faces : PlaneModel → ℕ
inner_faces p = p.faces - 1

-- one bend for each edge and four for each inner face
abbrev pub bend_bound : PlaneModel → ℕ
bend_bound p = edges p + 4 * inner_faces p
