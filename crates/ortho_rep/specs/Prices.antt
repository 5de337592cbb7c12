-- Prices of vertices and faces, and when they prove that a representation is least: they are the dual of its flow,
-- and a flow and potentials with slack only where nothing flows are both best (complementary slackness).
use Rattle.std.specs.Prelude.{◌≡◌, ℕ, ◌-◌, ◌<◌, ℤ, pos, ◌+ℤ◌, ◌-ℤ◌, ◌≤ℤ◌, List, length, slice_index_or, Option, Some, None}
use Rattle.faces.specs.Planes.{PlaneModel, darts, vertices, head, reverse_dart, face_at}
use Rattle.flow_network.specs.Given.{GivenModel, nothing_given, angle_given, turns_given}
use Rattle.ortho_rep.specs.declared.turn_strings.Turn.{Turn}
use Rattle.ortho_rep.specs.Turns.{lefts}
use Rattle.ortho_rep.specs.Shapes.{ShapeModel, angle_at, turns_at}
use Rattle.ortho_rep.specs.Representation.{HasDarts}
use Rattle.ortho_rep.specs.Keeping.{one_way}

-- what callers see of `Prices`: place v - 1 of the first list belongs to vertex v, place f of the second to face f
pub record PricesModel : Type 0 where
  pub vertices : List ℤ
  pub faces : List ℤ

abbrev pub vertex_price : PricesModel → ℕ → ℤ
vertex_price t v = slice_index_or t.vertices (v - 1) (pos 0)

abbrev pub face_price : PricesModel → ℕ → ℤ
face_price t f = slice_index_or t.faces f (pos 0)

-- the prices of a dart's head and of its face agree with its angle: no unit that it could give up or take is worth moving
pub record IsAnglePriced (angle : ℕ) (vertex face : ℤ) : Type 0 where
  pub wider : angle < 4 → face ≤ℤ vertex
  pub narrower : 1 < angle → vertex ≤ℤ face

-- the prices of its face and of the face across agree with its turns: no unit across gains more than the bend costs, and a
-- crossing arc that is used gains just that
pub record AreTurnsPriced (turns : List Turn) (face across : ℤ) : Type 0 where
  pub crossed : pos 0 ≤ℤ (pos 1 +ℤ face -ℤ across)
  pub tight : 0 < lefts turns → (pos 1 +ℤ face -ℤ across) ≡ pos 0

-- a given angle, and given turns, are as they are given, whatever the prices
abbrev pub IsAngleKept : Option ℕ → ℕ → ℤ → ℤ → Type 0
IsAngleKept None angle vertex face = IsAnglePriced angle vertex face
IsAngleKept (Some k) angle vertex face = angle ≡ k

abbrev pub AreTurnsKept : Option ℤ → List Turn → ℤ → ℤ → Type 0
AreTurnsKept None turns face across = AreTurnsPriced turns face across
AreTurnsKept (Some t) turns face across = turns ≡ one_way t

-- dart d of the representation (a, s) is as it is given, or else agrees with the vertex prices v and the face prices q
pub record IsPricedAt (p : PlaneModel) (given : GivenModel) (a : ℕ → ℕ) (s : ℕ → List Turn) (v q : ℕ → ℤ) (d : ℕ) : Type 0 where
  pub angle : IsAngleKept (angle_given given d) (a d) (v (head p d)) (q (face_at p d))
  pub turns : AreTurnsKept (turns_given p given d) (s d) (q (face_at p d)) (q (face_at p (reverse_dart p d)))

-- these prices prove that the representation (a, s) is least among those that keep what is given
abbrev pub ProveKeeping : PlaneModel → GivenModel → (ℕ → ℕ) → (ℕ → List Turn) → (ℕ → ℤ) → (ℕ → ℤ) → Type 0
ProveKeeping p given a s v q = (d : ℕ) → d < darts p → IsPricedAt p given a s v q d

-- that it is least among all
abbrev pub Prove : PlaneModel → (ℕ → ℕ) → (ℕ → List Turn) → (ℕ → ℤ) → (ℕ → ℤ) → Type 0
Prove p a s v q = ProveKeeping p nothing_given a s v q

-- a price for each vertex and each face
pub record HasPrices (p : PlaneModel) (t : PricesModel) : Type 0 where
  pub vertices : length t.vertices ≡ vertices p
  pub faces : length t.faces ≡ p.faces

-- all four lists have the plane's lengths, and the prices prove the shape, among those that keep what is given
pub record IsProofKeeping (p : PlaneModel) (given : GivenModel) (shape : ShapeModel) (t : PricesModel) : Type 0 where
  pub lengths : HasDarts p shape
  pub prices : HasPrices p t
  pub prove : ProveKeeping p given (angle_at shape) (turns_at shape) (vertex_price t) (face_price t)

-- among all
abbrev pub IsProof : PlaneModel → ShapeModel → PricesModel → Type 0
IsProof p shape t = IsProofKeeping p nothing_given shape t
