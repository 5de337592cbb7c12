-- The condition that an answer is right for a graph, given by its neighbour lists.
use Rattle.std.specs.Prelude.{◌≡◌, ℕ, List, Result, IfOk, ⊤}
use Rattle.embedding.specs.Rules.{FirstBroken}
use Rattle.common.specs.declared.parameters.Choice.{Choice}
use Rattle.faces.specs.Planes.{PlaneModel, IsPlane}
use Rattle.ortho_rep.specs.Shapes.{ShapeModel}
use Rattle.ortho_rep.specs.Points.{PointsModel}
use Rattle.ortho_rep.specs.Prices.{PricesModel, IsProof}
use Rattle.ortho_rep.specs.Representation.{IsShape, IsLeast}
use Rattle.ortho_rep.specs.Best.{IsChosen}
use Rattle.reports.specs.declared.answer.Cause.{Cause}
use Rattle.reports.specs.declared.answer.Answer.{Answer}
use Rattle.reports.specs.declared.answer.Answer.TheVariants.{Laid, Refused, NoMemory}
use Rattle.reports.specs.Drawn.{IsDrawn}
use Rattle.reports.specs.Lengths.{IsNoLonger, IsNear}

-- the plane of the lists with the chosen outer face, a shape of it with the fewest bends, prices that prove so, and a drawing of the shape
-- or the cause in its place
pub record IsLaid (choice : Choice) (g : List (List ℕ)) (plane : PlaneModel) (shape : ShapeModel) (prices : PricesModel) (drawing : Result PointsModel Cause) : Type 0 where
  -- the plane has these neighbour lists
  pub lists : plane.lists ≡ g
  -- no rule is broken, and the faces are those of the lists
  pub rules : IsPlane plane
  -- the outer face is the chosen one
  pub chosen : IsChosen choice plane
  -- the shape is an orthogonal representation of the plane with its outer face
  pub shape_is : IsShape plane shape
  -- each other shape has at least as many bends
  pub least : IsLeast plane shape
  -- the prices prove that
  pub proof : IsProof plane shape prices
  pub drawn : IsDrawn plane shape drawing
  -- the edges are together no longer than in a quick drawing of the shape
  pub no_longer : IfOk drawing (IsNoLonger plane shape)
  -- coordinates are less than three times the vertices, twice the bends, and five
  pub near : IfOk drawing (IsNear plane shape)

-- the answer is right for a graph with these neighbour lists under this choice
abbrev pub Answers : Choice → List (List ℕ) → Answer → Type 0
Answers choice g (Laid plane shape prices drawing) = IsLaid choice g plane shape prices drawing
-- the rule is broken, and none before it
Answers choice g (Refused rule) = FirstBroken g rule
-- nothing more is said
Answers choice g NoMemory = ⊤
