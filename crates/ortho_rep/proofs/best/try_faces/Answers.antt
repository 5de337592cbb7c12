use Rattle.std.proofs.Common.{arith}
use Rattle.ortho_rep.proofs.Tries.{moved_again, incumbent_moved, tried_moved, tried_moving, tried_next, best_of}
use Rattle.ortho_rep.proofs.best.try_faces.Goals as goal

pub loop-face-preserved : goal.loop-face-preserved
loop-face-preserved c =
    let plane = c.args.plane.now in
    let was = c.loop-face.plane in
    let is = c.visit-moving.new.plane in
    let other = c.loop-face.incumbent in
    let known = c.loop-face.invariant in
    let tried = c.visit-moving.ensures in
    record {
      outer_moved = moved_again plane was is was.outer is.outer known.outer_moved tried.outer_moved;
      moving = tried.moving;
      incumbent = tried.incumbent;
      bounds = tried.bounds;
      best = tried_next is c.visit-moving.new.incumbent other c.loop-face.face tried.no_worse
          (λ f b. tried_moving was is is.outer other.bends other.face f tried.outer_moved (known.best f b))
          tried.tried;
    }

pub returns-clause-best : goal.returns-clause-best
returns-clause-best c =
    let plane = c.args.plane.now in
    let was = c.loop-face.plane in
    let incumbent = c.loop-face.incumbent in
    let known = c.loop-face.invariant in
    best_of plane incumbent
    (incumbent_moved plane was was.outer incumbent known.outer_moved known.incumbent)
    (λ f b. tried_moved plane was was.outer incumbent.bends incumbent.face f known.outer_moved (known.best f (omega (arith, c.face_count-faces.ensures.value))))
