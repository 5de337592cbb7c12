use Rattle.std.proofs.Common.{◌≡◌, ◌∙◌, subst, sym}
use Rattle.std.specs.Prelude.{IfErr}
use Rattle.std.proofs.lemmas.Result.{err_from_is_err_and}
use Rattle.min_cost_flow.specs.Networks.{NetworkModel}
use Rattle.min_cost_flow.specs.Flow.{HasNoFlow}
use Rattle.min_cost_flow.specs.declared.solver.SolveFault.TheVariants.{Infeasible}
use Rattle.ortho_rep.specs.Keeping.{HasNoneKeeping}
use Rattle.ortho_rep.proofs.IntoFlow.{none_without_flow}
use Rattle.ortho_rep.proofs.least.least_shape_keeping_in.Goals as goal

pub returns-in_err-solved-clause-none : goal.returns-in_err-solved-clause-none
returns-in_err-solved-clause-none c =
    let plane = c.args.plane.now in
    let net : NetworkModel = c.in_ok-net.net.network in
    let told = err_from_is_err_and c.from_residual-in_err-solved.result c.from_residual-in_err-solved.ensures.1 in
    let same : told.0 ≡ c.in_err-solved.field-0.0 = told.2 in
    subst (λ r. IfErr r (λ fault. fault ≡ Infeasible → HasNoneKeeping plane c.args.given.now)) (sym told.1)
    (λ none. none_without_flow plane net c.graph-graph.ensures.ends c.in_ok-net.ensures.net.network
    (subst HasNoFlow c.network.ensures (c.in_err-solved.ensures.infeasible (sym same ∙ none))))

pub returns-clause-least : goal.returns-clause-least
returns-clause-least c = c.in_ok-made.ensures.least

pub returns-clause-proof : goal.returns-clause-proof
returns-clause-proof c = c.in_ok-made.ensures.proof
