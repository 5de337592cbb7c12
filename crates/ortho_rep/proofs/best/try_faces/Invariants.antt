use Rattle.std.proofs.Common.{◌≡◌, ℕ, ◌<◌}
use Rattle.faces.specs.Planes.{with_outer}
use Rattle.ortho_rep.specs.Tries.{IsMoving, IsIncumbent, IsNoBetter, AreBounds}
use Rattle.ortho_rep.proofs.best.try_faces.Given as goal

abbrev pub invariant-loop-face : goal.invariant-loop-face
invariant-loop-face l = record {
  outer_moved : l.plane ≡ with_outer l.fn.plane l.plane.outer;
  moving : IsMoving l.plane l.moving;
  incumbent : IsIncumbent l.plane l.incumbent;
  bounds : AreBounds l.plane l.bounds;
  best : (f : ℕ) → f < l.face → IsNoBetter l.plane l.incumbent.bends l.incumbent.face f;
}
