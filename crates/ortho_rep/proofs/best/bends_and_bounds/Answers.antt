use Rattle.std.proofs.Common.{subst}
use Rattle.min_cost_flow.specs.Networks.{NetworkModel}
use Rattle.min_cost_flow.specs.SolverState.{IsShown}
use Rattle.ortho_rep.proofs.Tries.{rep_of_cost, needs_cost}
use Rattle.ortho_rep.proofs.best.bends_and_bounds.Goals as goal

pub returns-clause-some : goal.returns-clause-some
returns-clause-some c =
    let found = c.least_cost-bends.result in
    let shown = subst (λ (n : NetworkModel). IsShown n found.0 found.1.now) c.requires.moving.same c.least_cost-bends.ensures.shown in
    rep_of_cost c.args.plane.now c.args.moving.now.net.network found.0 found.1.now c.graph-graph.ensures.ends c.requires.moving.net.network shown

pub returns-clause-needs : goal.returns-clause-needs
returns-clause-needs c =
    let found = c.least_cost-bends.result in
    let shown = subst (λ (n : NetworkModel). IsShown n found.0 found.1.now) c.requires.moving.same c.least_cost-bends.ensures.shown in
    needs_cost c.args.plane.now c.args.moving.now.net.network found.0 found.1.now c.graph-graph.ensures.ends c.requires.moving.net.network shown
