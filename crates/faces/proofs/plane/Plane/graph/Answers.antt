use Rattle.std.proofs.Common.{subst}
use Rattle.faces.specs.Planes.{IsPlane}
use Rattle.faces.proofs.Ends.{plane_ends}
use Rattle.faces.proofs.plane.Plane.graph.Goals as goal

pub returns-clause-ends : goal.returns-clause-ends
returns-clause-ends c = plane_ends c.args.self.now (subst IsPlane c.self.view_is c.self.invariant)
