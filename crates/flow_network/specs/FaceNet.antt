-- The flow network of a plane: a node for each vertex and each face, and of each dart a corner arc, from its head
-- to its face, and a crossing arc, from its face to the one across. A unit is a right angle, or a turn that goes
-- over to the other face. Faces lie on the left of their darts. What is given is taken from the supplies, and its arc carries
-- nothing.
use Rattle.std.specs.Prelude.{◌≡◌, ℕ, ◌+◌, ◌-◌, ◌<◌, ◌≤◌, ◌==◌, if◌then◌else◌, Option, Some, None, ℤ, pos, negsuc, ◌+ℤ◌, ◌-ℤ◌}
use Rattle.common.specs.Sums.{sum_below, total_below}
use Rattle.faces.specs.Planes.{PlaneModel, darts, vertices, head, reverse_dart, face_at, degree}
use Rattle.min_cost_flow.specs.declared.network.Cap.{Cap}
use Rattle.min_cost_flow.specs.declared.network.Cap.TheVariants.{AtMost, Any}
use Rattle.min_cost_flow.specs.Networks.{NetworkModel, node_count, arc_count, arc_at, supply_at}
use Rattle.flow_network.specs.Given.{GivenModel, nothing_given, angle_given, turns_given, beyond_first, lefts_given}

-- how many darts arrive at a vertex
abbrev pub vertex_degree : PlaneModel → ℕ → ℕ
vertex_degree p v = sum_below (darts p) (λ d. if head p d == v then 1 else 0)

-- how many right angles beyond the first the given angles at a vertex have, and those in a face
abbrev pub beyond_at_vertex : PlaneModel → GivenModel → ℕ → ℕ
beyond_at_vertex p given v = sum_below (darts p) (λ d. if head p d == v then beyond_first (angle_given given d) else 0)

abbrev pub beyond_in_face : PlaneModel → GivenModel → ℕ → ℕ
beyond_in_face p given f = sum_below (darts p) (λ d. if face_at p d == f then beyond_first (angle_given given d) else 0)

-- the given left turns, less the right turns, of all darts of a face
abbrev pub lefts_in_face : PlaneModel → GivenModel → ℕ → ℤ
lefts_in_face p given f = total_below (darts p) (λ d. if face_at p d == f then lefts_given (turns_given p given d) else pos 0)

-- what a vertex has to turn: four right angles, of which each angle has one without any flow, less what is given
abbrev pub vertex_has_to_turn : PlaneModel → GivenModel → ℕ → ℤ
vertex_has_to_turn p given v = pos 4 -ℤ pos (vertex_degree p v) -ℤ pos (beyond_at_vertex p given v)

-- what a face has to turn: an inner face once to the left, the outer face once to the right, less what is given; a given
-- angle of k right angles turns it k - 1 times less to the left than one of a single right angle
abbrev pub face_has_to_turn : PlaneModel → GivenModel → ℕ → ℤ
face_has_to_turn p given f =
    (if f == p.outer then negsuc 3 else pos 4) -ℤ pos (degree p f) +ℤ pos (beyond_in_face p given f) -ℤ lefts_in_face p given f

-- a free angle has up to three right angles beyond the first
abbrev pub corner_cap : Option ℕ → Cap
corner_cap None = AtMost 3
corner_cap (Some angle) = AtMost 0

-- nothing more crosses an edge whose turns are given
abbrev pub crossing_cap : Option ℤ → Cap
crossing_cap None = Any
crossing_cap (Some turns) = AtMost 0

-- with n vertices and D darts, node v - 1 is that of vertex v, node n + f of face f, arc d the corner arc of dart d,
-- and arc D + d its crossing arc
pub record IsKeepingNet (p : PlaneModel) (given : GivenModel) (net : NetworkModel) : Type 0 where
  pub nodes : node_count net ≡ vertices p + p.faces
  pub arcs : arc_count net ≡ darts p + darts p
  -- the corner arc of a dart carries its angle less one, unless that is given
  pub corner : (d : ℕ) → d < darts p → arc_at net d ≡ record { from = head p d - 1; to = vertices p + face_at p d; cap = corner_cap (angle_given given d); cost = 0 }
  -- its crossing arc carries the left turns along it, unless they are given
  pub crossing : (d : ℕ) → d < darts p → arc_at net (darts p + d) ≡ record { from = vertices p + face_at p d; to = vertices p + face_at p (reverse_dart p d); cap = crossing_cap (turns_given p given d); cost = 1 }
  pub at_vertex : (v : ℕ) → 1 ≤ v → v ≤ vertices p → supply_at net (v - 1) ≡ vertex_has_to_turn p given v
  pub at_face : (f : ℕ) → f < p.faces → supply_at net (vertices p + f) ≡ face_has_to_turn p given f

-- the same where nothing is given
abbrev pub IsFaceNet : PlaneModel → NetworkModel → Type 0
IsFaceNet p net = IsKeepingNet p nothing_given net

-- what callers see of a `FaceNet`: the network, and how many vertices and darts the plane has
pub record FaceNetModel : Type 0 where
  pub network : NetworkModel
  pub vertices : ℕ
  pub darts : ℕ

-- it is the network of this plane, with what is given
pub record IsKeepingNetOf (p : PlaneModel) (given : GivenModel) (n : FaceNetModel) : Type 0 where
  pub vertices : n.vertices ≡ vertices p
  pub darts : n.darts ≡ darts p
  pub network : IsKeepingNet p given n.network

-- the same where nothing is given
abbrev pub IsFaceNetOf : PlaneModel → FaceNetModel → Type 0
IsFaceNetOf p n = IsKeepingNetOf p nothing_given n
