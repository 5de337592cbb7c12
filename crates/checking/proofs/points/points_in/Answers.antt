use Rattle.std.proofs.Common.{All, ap, sym, subst, List}
use Rattle.ortho_rep.specs.declared.grid_points.Point.{Point}
use Rattle.ortho_rep.specs.Points.{PointsModel}
use Rattle.checking.specs.Values.{AreShort}
use Rattle.checking.proofs.points.points_in.Goals as goal

pub returns-clause-short : goal.returns-clause-short
returns-clause-short c =
    subst AreShort (sym c.new.ensures) (record { vertices = c.in_ok-vertices.ensures.short; corners = c.in_ok-corners.ensures.short })
