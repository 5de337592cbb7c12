-- Which condition of a drawing is the first to fail.
use Rattle.std.specs.Prelude.{◌≡◌, ⊤}
use Rattle.faces.specs.Planes.{PlaneModel}
use Rattle.ortho_rep.specs.Shapes.{ShapeModel}
use Rattle.ortho_rep.specs.Points.{PointsModel}
use Rattle.drawing_check.specs.declared.drawing.CheckFault.{CheckFault}
use Rattle.drawing_check.specs.declared.drawing.CheckFault.TheVariants.{OutOfGrid, NotAxis, WrongTurn, Meet, Memory}
use Rattle.drawing_check.specs.Paths.{paths}
use Rattle.drawing_check.specs.Draws.{AreInGrid, AreOnAxes, TurnAsSaid, MeetNowhere, Draws}

-- the condition that the fault names fails, and those before it hold; running out of memory says nothing of the points
abbrev pub IsFirstFault : PlaneModel → ShapeModel → PointsModel → CheckFault → Type 0
IsFirstFault p shape points OutOfGrid = ¬ AreInGrid points
IsFirstFault p shape points NotAxis = AreInGrid points × ¬ AreOnAxes (paths p points)
IsFirstFault p shape points WrongTurn =
    AreInGrid points × AreOnAxes (paths p points) × ¬ TurnAsSaid p shape points
IsFirstFault p shape points Meet =
    AreInGrid points × AreOnAxes (paths p points) × TurnAsSaid p shape points
    × ¬ MeetNowhere points (paths p points)
IsFirstFault p shape points Memory = ⊤

-- the points are in the grid, their paths on axes, and they turn as the shape says; whether they meet is left open
pub record KeepsFirstThree (p : PlaneModel) (shape : ShapeModel) (points : PointsModel) : Type 0 where
  pub grid : AreInGrid points
  pub axes : AreOnAxes (paths p points)
  pub turns : TurnAsSaid p shape points

-- the points are taken as a drawing: they are its points, and draw the shape
pub record IsTaken (p : PlaneModel) (shape : ShapeModel) (points drawing : PointsModel) : Type 0 where
  pub same : drawing ≡ points
  pub draws : Draws p shape drawing

-- the points are refused: they are returned with the first condition that fails, or with want of memory once the first
-- three hold
pub record IsRefused (p : PlaneModel) (shape : ShapeModel) (points : PointsModel) (found : CheckFault) (refused : PointsModel) : Type 0 where
  pub returned : refused ≡ points
  pub fault : IsFirstFault p shape points found
  pub memory : found ≡ Memory → KeepsFirstThree p shape points
