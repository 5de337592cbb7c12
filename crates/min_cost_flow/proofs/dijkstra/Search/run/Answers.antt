use Rattle.std.proofs.Common.{◌≡◌, ◌≤◌, ◌+◌, arith, refl, ◌∙◌}
use Rattle.std.specs.Prelude.{length}
use Rattle.min_cost_flow.specs.declared.residual_network.TheConstants.{MAX_RESIDUAL_ARCS}
use Rattle.min_cost_flow.specs.ResidualArcs.{out_degree}
use Rattle.min_cost_flow.specs.Search.{arcs_of, orders, looked}
use Rattle.min_cost_flow.proofs.Searching.{served_still, looked_ordered, looked_scanned, looked_few}
use Rattle.min_cost_flow.proofs.dijkstra.Search.run.Goals as goal

pub nodes-init : goal.nodes-init
nodes-init c =
    let e = c.begin-search.ensures in
    record {
      search = e.search;
      list = refl;
      served = record { served = λ u k b l d st. absurd (omega (arith, e.scanned)) };
      looks = rw e.scanned (omega arith);
    }

pub scan-requires-clause-served : goal.scan-requires-clause-served
scan-requires-clause-served c =
    let i = c.nodes.invariant in
    served_still c.args.input c.nodes.search c.find_next.new.self i.search c.find_next.ensures.ordered i.served

pub scan-requires-clause-few : goal.scan-requires-clause-few
scan-requires-clause-few c =
    let i = c.nodes.invariant in
    let g = c.args.input in
    let most : looked (arcs_of g) (orders c.nodes.search) c.nodes.search.scanned ≤ length (arcs_of g) = looked_few g c.nodes.search i.search in
    let few : length (arcs_of g) ≤ MAX_RESIDUAL_ARCS = i.search.input.graph.few in
    omega (arith, i.looks, c.requires.few)

pub nodes-smaller : goal.nodes-smaller
nodes-smaller c = omega (arith, c.find_next.ensures.ordered.scanned, c.scan.ensures.scanned, c.scan.ensures.search.reached.counts)

pub nodes-preserved : goal.nodes-preserved
nodes-preserved c =
    let i = c.nodes.invariant in
    let o = c.find_next.ensures.ordered in
    let f = c.scan.ensures in
    let g = c.args.input in
    let s = c.nodes.search in
    let t = c.find_next.new.self in
    let u = c.scan.new.self in
    let one : looked (arcs_of g) (orders t) t.scanned ≡ looked (arcs_of g) (orders s) s.scanned = looked_ordered g s t i.search o in
    let two : looked (arcs_of g) (orders u) u.scanned ≡ looked (arcs_of g) (orders t) t.scanned + out_degree (arcs_of g) (orders t t.scanned) = looked_scanned g t u o.search (c.find_next.ensures.more c.nodes-test.true) f.search f.kept f.scanned in
    record {
      search = f.search;
      list = f.list ∙ o.list ∙ i.list;
      served = f.served;
      looks = omega (arith, i.looks, f.looks);
    }

pub returns-clause-list : goal.returns-clause-list
returns-clause-list c = c.find_next.ensures.ordered.list ∙ c.nodes.invariant.list ∙ c.begin-search.ensures.list

pub returns-clause-served : goal.returns-clause-served
returns-clause-served c =
    let i = c.nodes.invariant in
    served_still c.args.input c.nodes.search c.find_next.new.self i.search c.find_next.ensures.ordered i.served

pub returns-clause-remaining : goal.returns-clause-remaining
returns-clause-remaining c = c.find_next.ensures.remaining c.nodes-test.false

pub returns-clause-looks : goal.returns-clause-looks
returns-clause-looks c =
    let i = c.nodes.invariant in
    let g = c.args.input in
    let one : looked (arcs_of g) (orders c.find_next.new.self) c.find_next.new.self.scanned ≡ looked (arcs_of g) (orders c.nodes.search) c.nodes.search.scanned = looked_ordered g c.nodes.search c.find_next.new.self i.search c.find_next.ensures.ordered in
    omega (arith, i.looks)

pub returns-clause-once : goal.returns-clause-once
returns-clause-once c =
    let i = c.nodes.invariant in
    let g = c.args.input in
    let most : looked (arcs_of g) (orders c.nodes.search) c.nodes.search.scanned ≤ length (arcs_of g) = looked_few g c.nodes.search i.search in
    omega (arith, i.looks)
