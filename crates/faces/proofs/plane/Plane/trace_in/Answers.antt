use Rattle.std.proofs.Common.{arith}
use Rattle.embedding.proofs.Rotation.{darts_few}
use Rattle.faces.proofs.Kept.{plane_by, greatest_by, faces_few}
use Rattle.faces.proofs.plane.Plane.trace_in.Goals as goal

pub overflow_add-vertices : goal.overflow_add-vertices
overflow_add-vertices c =
    let (faces, size, has) = c.face_count.ensures.numbered in
    omega (arith, faces_few _ _ _ _ has, darts_few c.args.graph c.vertices.ensures.rules, c.vertices.ensures.count, c.vertices.ensures.few)

pub invariant_of-result : goal.invariant_of-result
invariant_of-result c =
    let (faces, size, has) = c.face_count.ensures.numbered in (((faces, c.face_count.result), ∣ (size, has) ∣₁), tt)

pub invariant_of-result-2 : goal.invariant_of-result-2
invariant_of-result-2 c =
    let (faces, size, has) = c.face_count.ensures.numbered in
    plane_by c.args.graph faces c.face_count.result _ c.vertices.ensures.rules (omega (arith, c.vertices.ensures.count, c.vertices.ensures.few)) size has (omega arith) (c.greatest_face-outer.ensures _ _ has).named c.result-1.given.0

pub returns-clause-plane : goal.returns-clause-plane
returns-clause-plane c =
    let (faces, size, has) = c.face_count.ensures.numbered in
    plane_by c.args.graph faces c.face_count.result _ c.vertices.ensures.rules (omega (arith, c.vertices.ensures.count, c.vertices.ensures.few)) size has (omega arith) (c.greatest_face-outer.ensures _ _ has).named c.result-1.given.0

pub returns-clause-outer : goal.returns-clause-outer
returns-clause-outer c =
    let (faces, size, has) = c.face_count.ensures.numbered in
    greatest_by c.args.graph faces c.face_count.result _ size has (c.greatest_face-outer.ensures _ _ has) c.result-1.given.0
