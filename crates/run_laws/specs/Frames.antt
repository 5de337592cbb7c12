-- Conditions that consist of points and frames. A frame is a rectangle round whatever lies inside: a cycle of straight edges
-- with four corners. Faces lie on the left of their darts.
use Rattle.std.specs.Prelude.{◌≡◌, ◌≢◌, ◌⊎◌, ℕ, ◌<◌, ◌≤◌, ◌==◌, ◌&&◌, if◌then◌else◌, ℤ, pos, Bool, true, false, Some}
use Rattle.common.specs.Sums.{sum_below}
use Rattle.faces.specs.Planes.{PlaneModel, darts, head, tail, reverse_dart, face_at}
use Rattle.flow_network.specs.Given.{GivenModel, angle_given, turns_given}
use Rattle.run_laws.specs.Points.{right_angles, IsGivenAngle, IsPoint}

-- a set of faces
abbrev pub FaceSet : Type 0
FaceSet = ℕ → Bool

-- ---- the rim of a set of faces

-- dart d runs along the rim: its face is inside, the one across is not
pub record IsRim (p : PlaneModel) (inside : FaceSet) (d : ℕ) : Type 0 where
  pub dart : d < darts p
  pub here : inside (face_at p d) ≡ true
  pub across : inside (face_at p (reverse_dart p d)) ≡ false

-- a set of darts that goes on along the rim: with a rim dart it has the one that leaves where that arrives
abbrev pub GoesOn : PlaneModel → FaceSet → (ℕ → Bool) → Type 0
GoesOn p inside s = (d e : ℕ) → IsRim p inside d → IsRim p inside e → tail p e ≡ head p d → s d ≡ true → s e ≡ true

-- the rim is one cycle, which meets no vertex twice
pub record IsCycle (p : PlaneModel) (inside : FaceSet) : Type 0 where
  pub first : ℕ
  pub some : IsRim p inside first
  pub arrives_once : (d e : ℕ) → IsRim p inside d → IsRim p inside e → head p d ≡ head p e → d ≡ e
  pub leaves_once : (d e : ℕ) → IsRim p inside d → IsRim p inside e → tail p d ≡ tail p e → d ≡ e
  pub one : (s : ℕ → Bool) → GoesOn p inside s → (d e : ℕ) → IsRim p inside d → IsRim p inside e → s d ≡ true → s e ≡ true

-- vertex v lies on the rim
pub record IsOnRim (p : PlaneModel) (inside : FaceSet) (v : ℕ) : Type 0 where
  pub arrives : ℕ
  pub rim : IsRim p inside arrives
  pub here : head p arrives ≡ v

-- the given angles inside at a vertex, together, and how many angles it has outside
abbrev pub given_inside : PlaneModel → GivenModel → FaceSet → ℕ → ℕ
given_inside p given inside v = sum_below (darts p) (λ d. if (head p d == v) && inside (face_at p d) then right_angles (angle_given given d) else 0)

abbrev pub angles_outside : PlaneModel → FaceSet → ℕ → ℕ
angles_outside p inside v = sum_below (darts p) (λ d. if (head p d == v) && (if inside (face_at p d) then false else true) then 1 else 0)

-- a corner turns by a right angle as seen from inside, a side goes on straight
abbrev pub IsCorner : PlaneModel → GivenModel → FaceSet → ℕ → Type 0
IsCorner p given inside v = given_inside p given inside v ≡ 1

-- at a side there are two right angles outside, so at most one edge leaves there
pub record IsSide (p : PlaneModel) (given : GivenModel) (inside : FaceSet) (v : ℕ) : Type 0 where
  pub straight : given_inside p given inside v ≡ 2
  pub room : angles_outside p inside v ≤ 2

-- ---- frames

-- the faces inside a frame, whose edges are straight and which has four corners; the outer face is not inside
pub record IsFrame (p : PlaneModel) (given : GivenModel) (inside : FaceSet) : Type 0 where
  pub cycle : IsCycle p inside
  pub outer : inside p.outer ≡ false
  pub straight : (d : ℕ) → IsRim p inside d → turns_given p given d ≡ Some (pos 0)
  -- all angles inside at the rim are given
  pub known : (d : ℕ) → d < darts p → inside (face_at p d) ≡ true → IsOnRim p inside (head p d) → IsGivenAngle given d
  pub turns : (v : ℕ) → IsOnRim p inside v → IsCorner p given inside v ⊎ IsSide p given inside v
  pub corners : sum_below (darts p) (λ d.
      if inside (face_at p d) && (if inside (face_at p (reverse_dart p d)) then false else true) && (given_inside p given inside (head p d) == 1) then 1 else 0) ≡ 4

-- frames have no vertex in common, so they are disjoint or nested
pub record AreApart (p : PlaneModel) (inside other : FaceSet) : Type 0 where
  pub rims : (v : ℕ) → IsOnRim p inside v → ¬ IsOnRim p other v

-- just points and so many frames are given
pub record AreParts (p : PlaneModel) (given : GivenModel) (frames : ℕ) (inside : ℕ → FaceSet) : Type 0 where
  pub frame : (i : ℕ) → i < frames → IsFrame p given (inside i)
  pub apart : (i j : ℕ) → i < frames → j < frames → i ≢ j → AreApart p (inside i) (inside j)
  -- an angle is that of a point, or lies inside a frame at its rim
  pub angles : (d : ℕ) → d < darts p → IsGivenAngle given d →
      IsPoint p given (head p d) ⊎ ((i : ℕ) × (i < frames) × (inside i (face_at p d) ≡ true) × IsOnRim p (inside i) (head p d))
  -- turns are those along a rim
  pub turns : (d : ℕ) → d < darts p → (t : ℤ) → turns_given p given d ≡ Some t →
      (i : ℕ) × (i < frames) × (IsRim p (inside i) d ⊎ IsRim p (inside i) (reverse_dart p d))
