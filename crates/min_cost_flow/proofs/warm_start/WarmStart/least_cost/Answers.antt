use Rattle.std.proofs.Common.{subst, arith}
use Rattle.min_cost_flow.specs.Networks.{NetworkModel}
use Rattle.min_cost_flow.specs.Flow.{at_nodes}
use Rattle.min_cost_flow.specs.ResidualArcs.{capacity_at, carried}
use Rattle.min_cost_flow.specs.SolverState.{IsShown}
use Rattle.min_cost_flow.proofs.Moved.{shown_at}
use Rattle.min_cost_flow.proofs.warm_start.WarmStart.least_cost.Goals as goal

pub flow_cost-cost-requires : goal.flow_cost-cost-requires
flow_cost-cost-requires c = rw c.deref.ensures.value (omega (arith, c.self.invariant.ready.residual.capacities_size))

pub returns-clause-shown : goal.returns-clause-shown
returns-clause-shown c =
    let s = c.self.inside in
    let st = c.self.invariant in
    let lists = s.solver in
    let cost_is = rw c.deref.ensures.value at c.flow_cost-cost.ensures.cost in
    let shown : IsShown s.network c.flow_cost-cost.result lists.nodes.potential.items =
    shown_at s.network (carried (capacity_at lists.residual.capacities.items)) lists.nodes.potential.items (at_nodes lists.nodes.excess.items) c.flow_cost-cost.result c.node_count-nodes.ensures.kept st.ready.round st.sent st.ready.potentials cost_is in
    rw c.deref-2.ensures.value (subst (λ (n : NetworkModel). IsShown n c.flow_cost-cost.result lists.nodes.potential.items) c.self.view_is shown)
