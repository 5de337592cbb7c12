use Rattle.std.proofs.Common.{◌≡◌, ◌<◌}
use Rattle.faces.specs.Planes.{darts, with_outer}
use Rattle.ortho_rep.specs.Tries.{IsMoving, IsIncumbent, AreBounds, HasRoom}
use Rattle.ortho_rep.proofs.best.tour.Given as goal

abbrev pub invariant-loop-step : goal.invariant-loop-step
invariant-loop-step l = record {
  outer_moved : l.plane ≡ with_outer l.fn.plane l.plane.outer;
  moving : IsMoving l.plane l.moving;
  incumbent : IsIncumbent l.plane l.incumbent;
  bounds : AreBounds l.plane l.bounds;
  dart : l.dart < darts l.plane;
  walk : HasRoom l.plane l.walk;
}
