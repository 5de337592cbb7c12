use Rattle.std.proofs.Common.{◌≡◌, length, ℕ, ℤ, ◌∙◌, ap, arith, Vec, Global}
use Rattle.std.proofs.lemmas.List.{with_items_is}
use Rattle.min_cost_flow.specs.Networks.{arc_count}
use Rattle.min_cost_flow.specs.Flow.{amounts, at_nodes, SolvedModel}
use Rattle.min_cost_flow.specs.Residuals.{flow_of}
use Rattle.min_cost_flow.specs.Round.{IsRoundDone}
use Rattle.min_cost_flow.proofs.Duality.{least_by_potentials}
use Rattle.min_cost_flow.proofs.Rounds.{done_same}
use Rattle.min_cost_flow.proofs.solver.solve_in.Goals as goal

pub read_flow-requires : goal.read_flow-requires
read_flow-requires c =
    let net = c.args.network.now in
    let r = (c.solve.ensures.answer.all_sent c.if-not-solve.false).ready in
    let room : length c.resize.new.self.items ≡ arc_count net = omega (arith, c.in_ok-resize.ensures.len, c.arc_count.ensures.count) in
    rw (c.deref.ensures.value, c.deref_mut.ensures.value) (omega (arith, r.residual.capacities_size))

pub returns : goal.returns
returns c =
    let net = c.args.network.now in
    let yes = c.if-not-solve.false in
    let r = (c.solve.ensures.answer.all_sent yes).ready in
    let l = c.solve.new.self in
    let solved : SolvedModel = c.new-3.result in
    let room : length c.resize.new.self.items ≡ arc_count net = omega (arith, c.in_ok-resize.ensures.len, c.arc_count.ensures.count) in
    let flow_is : solved.flow ≡ c.read_flow.new.flow = ap (λ (a : SolvedModel). a.flow) c.new-3.ensures ∙ ap (λ (v : Vec ℕ Global). v.items) c.replace-flow.ensures.value ∙ with_items_is c.resize.new.self c.read_flow.new.flow (omega arith) in
    let potential_is : solved.potential ≡ l.nodes.potential.items = ap (λ (a : SolvedModel). a.potential) c.new-3.ensures ∙ ap (λ (v : Vec ℤ Global). v.items) c.replace-potential.ensures.value in
    let searches_is : solved.searches ≡ l.searches = ap (λ (a : SolvedModel). a.searches) c.new-3.ensures in
    let looks_is : solved.looks ≡ l.looks = ap (λ (a : SolvedModel). a.looks) c.new-3.ensures in
    let read = rw c.deref.ensures.value at c.read_flow.ensures in
    let long : length c.read_flow.new.flow ≡ arc_count net = omega (arith, room, ap (length {A = ℕ}) c.deref_mut.ensures.value) in
    let done : IsRoundDone net (amounts c.read_flow.new.flow) (at_nodes l.nodes.potential.items) l.searches l.looks = done_same net (flow_of l.residual) (amounts c.read_flow.new.flow) (at_nodes l.nodes.potential.items) l.searches l.looks (λ i b. read i (omega (arith, long))) (c.solve.ensures.done yes) in
    let at : IsRoundDone net (amounts solved.flow) (at_nodes solved.potential) solved.searches solved.looks = rw (flow_is, potential_is, searches_is, looks_is) done in
    record {
      ok = record {
        flow_count = rw flow_is long;
        potential_count = rw potential_is r.potentials;
        flow = at.flow;
        potentials = at.potentials;
        least = least_by_potentials net (amounts solved.flow) (at_nodes solved.potential) r.network.ends at.flow at.potentials;
      };
      infeasible = tt;
      searches = at.few;
      looks = at.bounded;
      begun = at.begun;
      carrying = at.carried;
      in_bounds = at.in_bounds;
    }
