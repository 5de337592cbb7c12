use Rattle.std.proofs.Common.{◌<◌}
use Rattle.faces.specs.Planes.{darts}
use Rattle.straightening.proofs.search.FaceSearch.expand.Given as goal

abbrev pub invariant-loop-step : goal.invariant-loop-step
invariant-loop-step l = l.dart < darts l.plane
