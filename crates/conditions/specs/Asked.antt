-- Which darts and faces are meant by names of vertices, and what is asked of them.
use Rattle.std.specs.Prelude.{◌≡◌, ◌≢◌, ◌⊎◌, ℕ, ◌<◌, ◌≤◌, ◌↔◌, ℤ, neg_ℤ, nat_abs, Bool, true, List, Some, All, Any, if◌then◌else◌}
use Rattle.common.specs.Sums.{sum_below}
use Rattle.embedding.specs.Lesser.{is_lesser_of}
use Rattle.faces.specs.Planes.{PlaneModel, darts, tail, head, face_at, reverse_dart}
use Rattle.flow_network.specs.Marks.{is_marked}
use Rattle.flow_network.specs.declared.given_shape.TheConstants.{MAX_GIVEN_TURNS}
use Rattle.flow_network.specs.Given.{GivenModel, angle_given, turns_given, lefts_given}
use Rattle.conditions.specs.declared.conditions.DartEnds.{DartEnds}
use Rattle.conditions.specs.declared.conditions.AngleAt.{AngleAt}
use Rattle.conditions.specs.declared.conditions.TurnsAlong.{TurnsAlong}
use Rattle.conditions.specs.declared.conditions.Conditions.{Conditions}

-- some dart leads from one vertex to another
pub record IsDart (p : PlaneModel) (from to : ℕ) : Type 0 where
  pub dart : ℕ
  pub inside : dart < darts p
  pub tail : tail p dart ≡ from
  pub head : head p dart ≡ to

-- a pair of vertices, or a condition, is about dart d
pub record Names (p : PlaneModel) (d from to : ℕ) : Type 0 where
  pub tail : from ≡ tail p d
  pub head : to ≡ head p d

-- dart d is among those of the list
abbrev pub IsAmong : PlaneModel → List DartEnds → ℕ → Type 0
IsAmong p list d = Any (λ ends. Names p d ends.from ends.to) list

-- face f is on the left of a dart of the list
abbrev pub IsLeftOf : PlaneModel → List DartEnds → ℕ → Type 0
IsLeftOf p list f = (d : ℕ) × (d < darts p) × (face_at p d ≡ f) × IsAmong p list d

-- the marked faces are those on the left of darts of the list
abbrev pub AreBarred : PlaneModel → List DartEnds → List Bool → Type 0
AreBarred p list barred = (f : ℕ) → f < p.faces → (is_marked barred f ≡ true) ↔ IsLeftOf p list f

-- an angle of k right angles is asked for at the head of dart d
abbrev pub AsksAngle : PlaneModel → List AngleAt → ℕ → ℕ → Type 0
AsksAngle p list d k = Any (λ asked. Names p d asked.from asked.to × (asked.angle ≡ k)) list

-- t turns to the left are asked for along dart d, or as many to the right along its reverse
abbrev pub AsksTurns : PlaneModel → List TurnsAlong → ℕ → ℤ → Type 0
AsksTurns p list d t =
    Any (λ asked. Names p d asked.from asked.to × (asked.turns ≡ t)) list
    ⊎ Any (λ asked. Names p (reverse_dart p d) asked.from asked.to × (asked.turns ≡ neg_ℤ t)) list

-- each asked angle is 1 to 4 right angles
abbrev pub HasAngles : Conditions → Type 0
HasAngles conditions = All (λ asked. (1 ≤ asked.angle) × (asked.angle ≤ 4)) conditions.angles.now

-- all vertices that name an edge or a face are adjacent
pub record AreDarts (p : PlaneModel) (conditions : Conditions) : Type 0 where
  pub turns : All (λ asked. IsDart p asked.from asked.to) conditions.turns.now
  pub angles : All (λ asked. IsDart p asked.from asked.to) conditions.angles.now
  pub faces : All (λ ends. IsDart p ends.from ends.to) conditions.inner.now

-- two angles that differ are asked for at the head of one dart
pub record AnglesDiffer (p : PlaneModel) (list : List AngleAt) : Type 0 where
  pub dart : ℕ
  pub inside : dart < darts p
  pub one : ℕ
  pub other : ℕ
  pub asks_one : AsksAngle p list dart one
  pub asks_other : AsksAngle p list dart other
  pub differ : one ≢ other

-- turns that differ are asked for along one dart
pub record TurnsDiffer (p : PlaneModel) (list : List TurnsAlong) : Type 0 where
  pub dart : ℕ
  pub inside : dart < darts p
  pub one : ℤ
  pub other : ℤ
  pub asks_one : AsksTurns p list dart one
  pub asks_other : AsksTurns p list dart other
  pub differ : one ≢ other

-- just what is asked for is given. Where conditions differ nothing is.
pub record IsGivenFor (p : PlaneModel) (conditions : Conditions) (given : GivenModel) : Type 0 where
  pub angles : (d : ℕ) → d < darts p → (k : ℕ) → (angle_given given d ≡ Some k) ↔ AsksAngle p conditions.angles.now d k
  pub turns : (d : ℕ) → d < darts p → (t : ℤ) → (turns_given p given d ≡ Some t) ↔ AsksTurns p conditions.turns.now d t

-- how many turns all edges have that are given
abbrev pub turns_of_edges : PlaneModel → GivenModel → ℕ
turns_of_edges p given = sum_below (darts p) (λ d. if is_lesser_of p.lists d then nat_abs (lefts_given (turns_given p given d)) else 0)

-- angles are 1 to 4, names are of darts, what is asked for can be given and is, and the marked faces are those that are to
-- stay inside
pub record IsAsked (p : PlaneModel) (conditions : Conditions) (given : GivenModel) (barred : List Bool) : Type 0 where
  pub angles_are : HasAngles conditions
  pub darts : AreDarts p conditions
  pub given_for : IsGivenFor p conditions given
  pub few : turns_of_edges p given ≤ MAX_GIVEN_TURNS
  pub inner : AreBarred p conditions.inner.now barred
