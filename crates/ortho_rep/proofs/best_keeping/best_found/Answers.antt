use Rattle.std.proofs.Common.{rules, ◌≡◌, Option, subst, sym}
use Rattle.faces.specs.Planes.{PlaneModel, with_outer}
use Rattle.ortho_rep.specs.declared.best.Incumbent.{Incumbent}
use Rattle.ortho_rep.specs.BestKeeping.{IsBestKeeping, IsBestBefore, IsTriedBefore}
use Rattle.ortho_rep.proofs.Tries.{moved_again}
use Rattle.ortho_rep.proofs.Choosing.{best_of_tried}
use Rattle.ortho_rep.proofs.best_keeping.best_found.Goals as goal

pub returns-in-Some-clause-best : goal.returns-in-Some-clause-best
returns-in-Some-clause-best c =
    let plane = c.args.plane.now in
    let given = c.args.given.now in
    let barred = c.args.barred.now in
    let was = c.best_face.new.plane in
    let incumbent = c.in-Some.incumbent in
    let tried : IsBestBefore plane given barred plane.faces incumbent = subst (λ (best : Option Incumbent). IsTriedBefore plane given barred plane.faces best) c.in-Some.is c.in_ok-incumbent.ensures.tried in
    let moved : c.set_outer.new.self ≡ with_outer plane incumbent.face = moved_again plane was c.set_outer.new.self was.outer incumbent.face c.best_face.ensures.outer_moved c.set_outer.ensures in
    let best : IsBestKeeping c.set_outer.new.self given barred = subst (λ (m : PlaneModel). IsBestKeeping m given barred) (sym moved) (best_of_tried plane given barred incumbent tried) in
    search rules
