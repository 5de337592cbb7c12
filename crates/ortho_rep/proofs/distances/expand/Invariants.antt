use Rattle.std.proofs.Common.{◌<◌}
use Rattle.faces.specs.Planes.{darts}
use Rattle.ortho_rep.proofs.distances.expand.Given as goal

abbrev pub invariant-loop-step : goal.invariant-loop-step
invariant-loop-step l = l.dart < darts l.plane
