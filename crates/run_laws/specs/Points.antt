-- Conditions that consist of points. A point is a vertex all of whose angles are given and make up a whole turn.
use Rattle.std.specs.Prelude.{◌≡◌, ℕ, ◌<◌, ◌==◌, if◌then◌else◌, Option, Some, None}
use Rattle.common.specs.Sums.{sum_below}
use Rattle.faces.specs.Planes.{PlaneModel, darts, head}
use Rattle.flow_network.specs.Given.{GivenModel, angle_given, turns_given}

-- how many right angles a given angle has
abbrev pub right_angles : Option ℕ → ℕ
right_angles None = 0
right_angles (Some k) = k

-- the given angles at a vertex, together
abbrev pub given_around : PlaneModel → GivenModel → ℕ → ℕ
given_around p given v = sum_below (darts p) (λ d. if head p d == v then right_angles (angle_given given d) else 0)

-- the angle at the head of dart d is given
abbrev pub IsGivenAngle : GivenModel → ℕ → Type 0
IsGivenAngle given d = (k : ℕ) × (angle_given given d ≡ Some k)

-- a point: all angles at the vertex are given, and make up a whole turn
pub record IsPoint (p : PlaneModel) (given : GivenModel) (v : ℕ) : Type 0 where
  pub all : (d : ℕ) → d < darts p → head p d ≡ v → IsGivenAngle given d
  pub whole : given_around p given v ≡ 4

-- just points are given
pub record ArePoints (p : PlaneModel) (given : GivenModel) : Type 0 where
  pub angles : (d : ℕ) → d < darts p → IsGivenAngle given d → IsPoint p given (head p d)
  pub turns : (d : ℕ) → d < darts p → turns_given p given d ≡ None
