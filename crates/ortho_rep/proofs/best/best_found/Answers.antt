use Rattle.std.proofs.Common.{rules, ◌≡◌, subst, sym}
use Rattle.std.specs.Prelude.{IfOk}
use Rattle.std.proofs.lemmas.Result.{IfOk-weaker}
use Rattle.faces.specs.Planes.{PlaneModel, with_outer}
use Rattle.flow_network.specs.Given.{GivenModel}
use Rattle.ortho_rep.specs.Shapes.{angle_at, turns_at}
use Rattle.ortho_rep.specs.Keeping.{IsLeastKeeping}
use Rattle.ortho_rep.specs.Prices.{IsProofKeeping}
use Rattle.ortho_rep.specs.Best.{IsBest}
use Rattle.ortho_rep.proofs.Tries.{moved_again}
use Rattle.ortho_rep.proofs.WeakDuality.{least_of_keeping}
use Rattle.ortho_rep.proofs.best.best_found.Goals as goal

pub returns-clause-least : goal.returns-clause-least
returns-clause-least c =
    let plane = c.set_outer.new.self in
    let least = subst (λ (given : GivenModel). IfOk c.shape_in.result (λ found. IsLeastKeeping plane given found.0)) c.nothing-nothing.ensures c.shape_in.ensures.least in
    IfOk-weaker c.shape_in.result _ _ (λ found h. least_of_keeping plane (angle_at found.0) (turns_at found.0) h) least

pub returns-clause-proof : goal.returns-clause-proof
returns-clause-proof c =
    let plane = c.set_outer.new.self in
    subst (λ (given : GivenModel). IfOk c.shape_in.result (λ found. IsProofKeeping plane given found.0 found.1)) c.nothing-nothing.ensures c.shape_in.ensures.proof

pub returns-clause-best : goal.returns-clause-best
returns-clause-best c =
    let plane = c.args.plane.now in
    let was = c.best_incumbent.new.plane in
    let face = c.in_ok-moving-2.incumbent.face in
    let moved : c.set_outer.new.self ≡ with_outer plane face = moved_again plane was c.set_outer.new.self was.outer face c.best_incumbent.ensures.outer_moved c.set_outer.ensures in
    let best : IsBest c.set_outer.new.self = subst (λ (m : PlaneModel). IsBest m) (sym moved) c.in_ok-moving-2.ensures.best in
    search rules
