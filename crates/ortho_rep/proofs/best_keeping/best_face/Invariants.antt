use Rattle.std.proofs.Common.{◌≡◌}
use Rattle.faces.specs.Planes.{with_outer}
use Rattle.ortho_rep.specs.BestKeeping.{IsTriedBefore}
use Rattle.ortho_rep.proofs.best_keeping.best_face.Given as goal

abbrev pub invariant-loop-face : goal.invariant-loop-face
invariant-loop-face l = record {
  outer_moved : l.plane ≡ with_outer l.fn.plane l.plane.outer;
  tried : IsTriedBefore l.fn.plane l.given l.barred l.face l.best;
}
