-- Representations that keep what is given: angles at the heads of darts, and turns along edges.
use Rattle.std.specs.Prelude.{◌≡◌, ℕ, ◌+◌, ◌<◌, ◌≤◌, ℤ, pos, negsuc, List, replicate, Some}
use Rattle.faces.specs.Planes.{PlaneModel, darts}
use Rattle.flow_network.specs.Given.{GivenModel, angle_given, turns_given}
use Rattle.ortho_rep.specs.declared.turn_strings.Turn.{Turn}
use Rattle.ortho_rep.specs.declared.turn_strings.Turn.TheVariants.{Left, Right}
use Rattle.ortho_rep.specs.Shapes.{ShapeModel, angle_at, turns_at}
use Rattle.ortho_rep.specs.Representation.{Rep, bends_of}

-- t left turns, or where t is negative as many right turns
abbrev pub one_way : ℤ → List Turn
one_way (pos t) = replicate t Left
one_way (negsuc t) = replicate (t + 1) Right

-- each given angle is that of its dart, and each dart whose turns are given has those and no others
pub record Keeps (p : PlaneModel) (given : GivenModel) (a : ℕ → ℕ) (s : ℕ → List Turn) : Type 0 where
  pub angles : (d : ℕ) → d < darts p → (k : ℕ) → angle_given given d ≡ Some k → a d ≡ k
  pub turns : (d : ℕ) → d < darts p → (t : ℤ) → turns_given p given d ≡ Some t → s d ≡ one_way t

-- a representation that keeps what is given, and each representation of p that does has at least as many bends
pub record LeastKeeping (p : PlaneModel) (given : GivenModel) (a : ℕ → ℕ) (s : ℕ → List Turn) : Type 0 where
  pub rep : Rep p a s
  pub keeps : Keeps p given a s
  pub least : (b : ℕ → ℕ) (t : ℕ → List Turn) → Rep p b t → Keeps p given b t → bends_of (darts p) s ≤ bends_of (darts p) t

-- the shape is such a representation
abbrev pub IsLeastKeeping : PlaneModel → GivenModel → ShapeModel → Type 0
IsLeastKeeping p given shape = LeastKeeping p given (angle_at shape) (turns_at shape)

-- no representation of p keeps what is given
abbrev pub HasNoneKeeping : PlaneModel → GivenModel → Type 0
HasNoneKeeping p given = (a : ℕ → ℕ) (s : ℕ → List Turn) → Rep p a s → Keeps p given a s → ⊥
