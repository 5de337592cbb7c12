-- Books of graphs that are drawn, and what their lines say.
use Rattle.std.specs.Prelude.{◌≡◌, ℕ, ◌/◌, List, ◌++◌, All, Some, Ok, ⊤, codes, decimal}
use Rattle.serde_json.specs.Data.{string}
use Rattle.serde_json.specs.Find.{get}
use Rattle.faces.specs.Planes.{PlaneModel, darts}
use Rattle.ortho_rep.specs.Shapes.{ShapeModel}
use Rattle.ortho_rep.specs.Points.{PointsModel}
use Rattle.reports.specs.declared.answer.Answer.{Answer}
use Rattle.reports.specs.declared.answer.Answer.TheVariants.{Laid, Refused, NoMemory}
use Rattle.reports.specs.Books.{BookModel}
use Rattle.reports.specs.Drawn.{IsDrawingOf}
use Rattle.reports.specs.LineData.{answer_data, points_data}
use Rattle.reports.specs.Report.{graph_line, sizes_text}
use Rattle.answers.specs.DrawnAnswers.{IsDrawnIfLaid}

-- each entry of the book that has a shape has a drawing of it
abbrev pub IsDrawnBook : BookModel → Type 0
IsDrawnBook book = All (λ entry. ∥ IsDrawnIfLaid entry.answer ∥₁) book.entries

-- this holds for each of these books
abbrev pub AreDrawnBooks : List BookModel → Type 0
AreDrawnBooks books = All IsDrawnBook books

-- These points draw the shape, and the lines of the answer say so: that of a report by `drawn=yes`, and that of JSON by
-- "yes" for the key `drawn` and by the points for the key `points`.
pub record TellsDrawing (plane : PlaneModel) (shape : ShapeModel) (points : PointsModel) (answer : Answer) : Type 0 where
  pub draws : IsDrawingOf plane shape points
  pub report : (graph : ℕ) → graph_line graph answer ≡ codes "graph " ++ decimal graph ++ (codes " ok" ++ sizes_text plane shape ++ codes " drawn=yes") ++ codes "\n"
  pub json_drawn : (file graph : ℕ) → get (codes "drawn") (answer_data file graph answer) ≡ Some (string (codes "yes"))
  pub json_points : (file graph : ℕ) → get (codes "points") (answer_data file graph answer) ≡ Some (points_data (darts plane / 2) (Ok points))

-- if the answer has a shape, some points draw it, and its lines say so
abbrev pub TellsDrawingIfLaid : Answer → Type 0
TellsDrawingIfLaid (Laid plane shape prices drawing) = (points : PointsModel) × TellsDrawing plane shape points (Laid plane shape prices drawing)
TellsDrawingIfLaid (Refused rule) = ⊤
TellsDrawingIfLaid NoMemory = ⊤
