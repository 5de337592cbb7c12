-- What is known of a graph, given by its neighbour lists, between the stages that answer it.
use Rattle.std.specs.Prelude.{◌≡◌, ℕ, List, Result, Ok, Err}
use Rattle.embedding.specs.Rules.{FirstBroken, KeepsBefore}
use Rattle.common.specs.declared.parameters.Choice.{Choice}
use Rattle.faces.specs.Planes.{PlaneModel, IsPlane, HasGreatestOuter}
use Rattle.ortho_rep.specs.Best.{IsChosen}
use Rattle.ortho_rep.specs.Prices.{IsProof}
use Rattle.ortho_rep.specs.Representation.{IsLeast}
use Rattle.ortho_rep.specs.Points.{PointsModel}
use Rattle.reports.specs.declared.answer.Answer.{Answer}
use Rattle.reports.specs.declared.answer.Answer.TheVariants.{Laid, Refused, NoMemory}
use Rattle.embedding.specs.declared.breaks.ReadFault.{ReadFault}
use Rattle.embedding.specs.declared.breaks.ReadFault.TheVariants.{Rule, Memory}
use Rattle.answers.specs.declared.shaped_plane.ShapedPlane.{ShapedPlane}

-- the plane of these neighbour lists, once its faces are traced
pub record IsTracedPlane (g : List (List ℕ)) (plane : PlaneModel) : Type 0 where
  pub lists : plane.lists ≡ g
  -- no rule is broken, and the faces are those of the lists
  pub rules : IsPlane plane
  -- the outer face has the most darts, and among equals it holds the least dart
  pub greatest : HasGreatestOuter plane

-- the plane of such lists, once its outer face is chosen
pub record IsPlaneOf (choice : Choice) (g : List (List ℕ)) (plane : PlaneModel) : Type 0 where
  pub lists : plane.lists ≡ g
  pub rules : IsPlane plane
  pub chosen : IsChosen choice plane

-- such a plane with a shape of it that has the fewest bends, as the prices prove
pub record IsLeastPlane (choice : Choice) (g : List (List ℕ)) (made : ShapedPlane) : Type 0 where
  pub lists : made.plane.lists ≡ g
  pub rules : IsPlane made.plane
  pub chosen : IsChosen choice made.plane
  pub least : IsLeast made.plane made.shape
  pub proof : IsProof made.plane made.shape made.prices

-- why such lists have no plane, or no shape: the rule is broken, and none before it; or memory ran out, and no rule is
-- broken
abbrev pub IsRefused : List (List ℕ) → ReadFault → Type 0
IsRefused g (Rule rule) = FirstBroken g rule
IsRefused g Memory = KeepsBefore g 9

-- the plane of the lists, or why there is none
abbrev pub IsEmbedded : List (List ℕ) → Result PlaneModel ReadFault → Type 0
IsEmbedded g (Ok plane) = IsTracedPlane g plane
IsEmbedded g (Err fault) = IsRefused g fault

-- the plane of the lists with the chosen outer face and a least shape, or why there is none
abbrev pub IsShaped : Choice → List (List ℕ) → Result ShapedPlane ReadFault → Type 0
IsShaped choice g (Ok shaped_plane) = IsLeastPlane choice g shaped_plane
IsShaped choice g (Err fault) = IsRefused g fault

-- the answer to a graph for which this was found
abbrev pub answer_in : Result (ShapedPlane × PointsModel) ReadFault → Answer
answer_in (Ok drawn) = Laid drawn.0.plane drawn.0.shape drawn.0.prices (Ok drawn.1)
answer_in (Err (Rule rule)) = Refused rule
answer_in (Err Memory) = NoMemory

-- what may be found for a graph with this shaped plane, or without one: points and the same shaped plane, or memory ran
-- out; without one, the same reason
abbrev pub IsFoundFor : Result ShapedPlane ReadFault → Result (ShapedPlane × PointsModel) ReadFault → Type 0
IsFoundFor (Ok shaped_plane) (Ok drawn) = drawn.0 ≡ shaped_plane
IsFoundFor (Ok shaped_plane) (Err fault) = fault ≡ Memory
IsFoundFor (Err fault) found = found ≡ Err fault
