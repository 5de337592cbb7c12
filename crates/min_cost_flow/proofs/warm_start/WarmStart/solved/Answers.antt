use Rattle.std.proofs.Common.{◌≡◌, ◌<◌, ℕ, ℤ, List, length, refl, ap, ◌∙◌, subst, arith}
use Rattle.std.proofs.lemmas.List.{with_items_is}
use Rattle.min_cost_flow.specs.Networks.{NetworkModel, arc_count}
use Rattle.min_cost_flow.specs.Flow.{SolvedModel, Solves, amounts, at_nodes}
use Rattle.min_cost_flow.specs.ResidualArcs.{capacity_at, carried}
use Rattle.min_cost_flow.proofs.Moved.{solves_at}
use Rattle.min_cost_flow.proofs.warm_start.WarmStart.solved.Goals as goal

pub read_flow-requires : goal.read_flow-requires
read_flow-requires c =
    let s = c.self.inside in
    let room : length c.resize.new.self.items ≡ arc_count s.network = omega (arith, c.in_ok-resize.ensures.len, c.arc_count.ensures.count) in
    rw (c.deref.ensures.value, c.deref_mut.ensures.value) (omega (arith, c.self.invariant.ready.residual.capacities_size))

pub returns-clause-solves : goal.returns-clause-solves
returns-clause-solves c =
    let s = c.self.inside in
    let net = s.network in
    let st = c.self.invariant in
    let solved : SolvedModel = c.new.result in
    let room : length c.resize.new.self.items ≡ arc_count net = omega (arith, c.in_ok-resize.ensures.len, c.arc_count.ensures.count) in
    let long : length c.read_flow.new.flow ≡ arc_count net = omega (arith, room, ap (length {A = ℕ}) c.deref_mut.ensures.value) in
    let flow_is : solved.flow ≡ c.read_flow.new.flow = ap (λ (a : SolvedModel). a.flow) c.new.ensures ∙ with_items_is c.resize.new.self c.read_flow.new.flow (omega arith) in
    let cloned : c.in_ok-potential.potential.items ≡ s.solver.nodes.potential.items = c.in_ok-potential.ensures.items ∙ c.deref-2.ensures.value in
    let potential_is : solved.potential ≡ s.solver.nodes.potential.items = ap (λ (a : SolvedModel). a.potential) c.new.ensures ∙ cloned in
    let carries : (i : ℕ) → i < arc_count net → amounts solved.flow i ≡ carried (capacity_at s.solver.residual.capacities.items) i = λ i b.
    rw flow_is (c.read_flow.ensures i (omega (arith, long)) ∙ rw c.deref.ensures.value refl) in
    subst (λ (n : NetworkModel). Solves n solved) c.self.view_is
    (solves_at net (carried (capacity_at s.solver.residual.capacities.items)) (at_nodes s.solver.nodes.potential.items) (at_nodes s.solver.nodes.excess.items) solved c.arc_count.ensures.kept st.ready.round st.sent
    (ap (length {A = ℕ}) flow_is ∙ long)
    (ap (length {A = ℤ}) potential_is ∙ st.ready.potentials)
    carries
    (λ v. ap (λ (ps : List ℤ). at_nodes ps v) potential_is))

pub returns-clause-work : goal.returns-clause-work
returns-clause-work c = (ap (λ (a : SolvedModel). a.searches) c.new.ensures, ap (λ (a : SolvedModel). a.looks) c.new.ensures)
