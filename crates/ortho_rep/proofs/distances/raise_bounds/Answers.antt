use Rattle.std.proofs.Common.{◌≡◌, ◌∙◌, List, ℕ, length, subst, sym, arith}
use Rattle.faces.specs.Planes.{face_at}
use Rattle.ortho_rep.specs.Tries.{AreBounds}
use Rattle.ortho_rep.proofs.Tries.{raised}
use Rattle.ortho_rep.proofs.distances.raise_bounds.Goals as goal
use Rattle.ortho_rep.proofs.distances.raise_bounds.Goals.{then-bound-bounds, else-bound-bounds}

pub loop-dart-preserved : goal.loop-dart-preserved
loop-dart-preserved c =
    let plane = c.args.plane.now in
    let here : c.from-place.result ≡ face_at plane c.loop-dart.dart = c.from-place.ensures ∙ c.face_of-face.ensures.value in
    record {
      bounds = elim c.if-bound-bounds.branch [
        | then-bound-bounds w ↦
            subst (λ (bounds : List ℕ). AreBounds plane bounds) (sym w.bounds-is)
            (raised plane c.loop-dart.bounds c.from-place.result (face_at plane c.loop-dart.dart) c.bound-bound.result c.loop-dart.invariant.bounds (omega arith) here c.bound-bound.ensures.needs)
        | else-bound-bounds w ↦ subst (λ (bounds : List ℕ). AreBounds plane bounds) (sym w.bounds-is) c.loop-dart.invariant.bounds
      ];
      room = c.bound-bound.ensures.room;
    }
