-- The chosen outer face among those that may be outside, and least shapes that keep what is given.
use Rattle.std.specs.Prelude.{◌≡◌, ◌⊎◌, ℕ, ◌<◌, ◌≤◌, Bool, true, List, Option, Some, None, ⊤}
use Rattle.common.specs.declared.parameters.Choice.{Choice}
use Rattle.common.specs.declared.parameters.Choice.TheVariants.{First, Best}
use Rattle.faces.specs.Planes.{PlaneModel, degree, with_outer}
use Rattle.flow_network.specs.Marks.{is_marked}
use Rattle.flow_network.specs.Given.{GivenModel}
use Rattle.ortho_rep.specs.Shapes.{ShapeModel}
use Rattle.ortho_rep.specs.Representation.{IsShape}
use Rattle.ortho_rep.specs.Keeping.{IsLeastKeeping, HasNoneKeeping}
use Rattle.ortho_rep.specs.Prices.{PricesModel, IsProofKeeping}
use Rattle.ortho_rep.specs.BestKeeping.{IsOpen, IsBestKeeping, HasNoFace}
use Rattle.conditions.specs.declared.conditions.Conditions.{Conditions}
use Rattle.conditions.specs.Cut.{ShowsNone}
use Rattle.conditions.specs.declared.cuts.Unkept.{Unkept}
use Rattle.conditions.specs.declared.cuts.KeepFault.{KeepFault}
use Rattle.conditions.specs.declared.cuts.KeepFault.TheVariants.{NoAngle, NoEdge, Conflict, TooManyTurns, NoOuter, NoShape, Memory}
use Rattle.flow_network.specs.declared.given_shape.TheConstants.{MAX_GIVEN_TURNS}
use Rattle.conditions.specs.Asked.{HasAngles, AreDarts, AnglesDiffer, TurnsDiffer, IsGivenFor, turns_of_edges, IsAsked, IsLeftOf}

-- of the faces before face n that are not barred, this one has the most darts, among equals the least number; faces are
-- numbered in the order of their least darts
pub record IsGreatestBefore (p : PlaneModel) (barred : List Bool) (n o : ℕ) : Type 0 where
  pub before : o < n
  pub open_face : IsOpen barred o
  pub most : (f : ℕ) → f < n → IsOpen barred f → degree p f ≤ degree p o
  pub first : (f : ℕ) → f < n → IsOpen barred f → degree p f ≡ degree p o → o ≤ f

-- the same of all faces
abbrev pub IsGreatestOpen : PlaneModel → List Bool → ℕ → Type 0
IsGreatestOpen p barred o = IsGreatestBefore p barred p.faces o

-- it is that face, or there is none
abbrev pub IsGreatestSoFar : PlaneModel → List Bool → ℕ → Option ℕ → Type 0
IsGreatestSoFar p barred n (Some o) = IsGreatestBefore p barred n o
IsGreatestSoFar p barred n None = (f : ℕ) → f < n → is_marked barred f ≡ true

-- the outer face is the one of the choice among those that are not barred
abbrev pub IsChosenKeeping : Choice → PlaneModel → GivenModel → List Bool → Type 0
IsChosenKeeping First p given barred = IsGreatestOpen p barred p.outer
IsChosenKeeping Best p given barred = IsBestKeeping p given barred

-- with the greatest of these faces as the outer one no representation keeps what is given
pub record HasNoneWithGreatest (p : PlaneModel) (given : GivenModel) (barred : List Bool) : Type 0 where
  pub face : ℕ
  pub greatest : IsGreatestOpen p barred face
  pub none : HasNoneKeeping (with_outer p face) given

-- with no outer face of the choice does one
abbrev pub HasNoChosen : Choice → PlaneModel → GivenModel → List Bool → Type 0
HasNoChosen First p given barred = HasNoneWithGreatest p given barred
HasNoChosen Best p given barred = HasNoFace p given barred

-- the outer face is the chosen one among those that may be outside, and the shape has the fewest bends of all that keep
-- what is given, as the prices prove
pub record IsKept (conditions : Conditions) (choice : Choice) (p : PlaneModel) (shape : ShapeModel) (prices : PricesModel) : Type 0 where
  pub given : GivenModel
  pub barred : List Bool
  pub asked : IsAsked p conditions given barred
  pub chosen : IsChosenKeeping choice p given barred
  pub shape_is : IsShape p shape
  pub least : IsLeastKeeping p given shape
  pub proof : IsProofKeeping p given shape prices

-- all names are of darts, and no shape with a chosen outer face keeps what is given
pub record HasNoKept (conditions : Conditions) (choice : Choice) (p : PlaneModel) (why : Unkept) : Type 0 where
  pub given : GivenModel
  pub barred : List Bool
  pub asked : IsAsked p conditions given barred
  pub none : HasNoChosen choice p given barred
  -- the cut shows it of the greatest of the faces that may be outside
  pub greatest : IsGreatestOpen p barred why.outer
  pub shown : ShowsNone (with_outer p why.outer) given why.cut.vertices.items why.cut.faces.items

-- the fault is the cut of the plane with this outer face, or memory ran out
abbrev pub IsToldOf : PlaneModel → GivenModel → ℕ → KeepFault → Type 0
IsToldOf p given face (NoShape why) = (why.outer ≡ face) × ShowsNone (with_outer p face) given why.cut.vertices.items why.cut.faces.items
IsToldOf p given face Memory = ⊤
IsToldOf p given face NoAngle = ⊥
IsToldOf p given face NoEdge = ⊥
IsToldOf p given face Conflict = ⊥
IsToldOf p given face TooManyTurns = ⊥
IsToldOf p given face NoOuter = ⊥

-- two conditions on one angle or on one edge differ
pub record HasConflict (p : PlaneModel) (conditions : Conditions) : Type 0 where
  pub angles_are : HasAngles conditions
  pub darts : AreDarts p conditions
  pub differ : AnglesDiffer p conditions.angles.now ⊎ TurnsDiffer p conditions.turns.now

-- no two differ, and the edges of a plane have together more turns that are given than can be
pub record HasTooManyTurns (p : PlaneModel) (conditions : Conditions) : Type 0 where
  pub angles_are : HasAngles conditions
  pub darts : AreDarts p conditions
  pub given : GivenModel
  pub given_for : IsGivenFor p conditions given
  pub more : MAX_GIVEN_TURNS < turns_of_edges p given

-- what is asked for can be given, and each face is to stay inside
pub record HasNoOuter (p : PlaneModel) (conditions : Conditions) : Type 0 where
  pub angles_are : HasAngles conditions
  pub darts : AreDarts p conditions
  pub given : GivenModel
  pub given_for : IsGivenFor p conditions given
  pub few : turns_of_edges p given ≤ MAX_GIVEN_TURNS
  pub inside : (f : ℕ) → f < p.faces → IsLeftOf p conditions.inner.now f

-- what a fault shows of the plane
abbrev pub IsKeepFault : Conditions → Choice → PlaneModel → KeepFault → Type 0
IsKeepFault conditions choice p NoAngle = ¬ HasAngles conditions
IsKeepFault conditions choice p NoEdge = HasAngles conditions × (¬ AreDarts p conditions)
IsKeepFault conditions choice p Conflict = HasConflict p conditions
IsKeepFault conditions choice p TooManyTurns = HasTooManyTurns p conditions
IsKeepFault conditions choice p NoOuter = HasNoOuter p conditions
IsKeepFault conditions choice p (NoShape why) = HasNoKept conditions choice p why
-- nothing is said
IsKeepFault conditions choice p Memory = ⊤
