use Rattle.std.proofs.Common.{ap, arith}
use Rattle.embedding.proofs.Unique.{one_count}
use Rattle.faces.specs.Planes.{PlaneModel}
use Rattle.faces.proofs.plane.Plane.degree.Goals as goal

pub face_degree-requires : goal.face_degree-requires
face_degree-requires c =
    λ other f h. omega (arith, c.requires, ap (λ (m : PlaneModel). m.faces) c.self.view_is, one_count _ _ _ other _ f c.self.invariant.faces h)
