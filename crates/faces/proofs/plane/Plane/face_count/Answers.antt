use Rattle.std.proofs.Common.{ap, subst, arith}
use Rattle.faces.specs.Planes.{PlaneModel, IsPlane}
use Rattle.faces.proofs.Ends.{plane_ends}
use Rattle.faces.proofs.plane.Plane.face_count.Goals as goal

pub returns-clause-few : goal.returns-clause-few
returns-clause-few c =
    let ends = plane_ends c.args.self.now (subst IsPlane c.self.view_is c.self.invariant) in
    omega (arith, ends.few_faces, ap (λ (m : PlaneModel). m.faces) c.self.view_is, c.face_count.ensures.value _ _ c.self.invariant.faces)

pub returns-clause-ends : goal.returns-clause-ends
returns-clause-ends c = plane_ends c.args.self.now (subst IsPlane c.self.view_is c.self.invariant)
