use Rattle.std.proofs.Common.{◌≡◌, ◌+◌, ◌-◌}
use Rattle.min_cost_flow.specs.Search.{nodes_of, looked, arcs_of, orders, IsSearch, HasFeasibleLabels, HasSameList}
use Rattle.min_cost_flow.proofs.dijkstra.Search.run.Given as goal

abbrev pub invariant-nodes : goal.invariant-nodes
invariant-nodes l = record {
  search : IsSearch l.input l.search;
  list : HasSameList l.initial.search l.search;
  served : HasFeasibleLabels l.input l.search;
  looks : l.looks ≡ l.initial.looks + looked (arcs_of l.input) (orders l.search) l.search.scanned;
}

abbrev pub decreases-nodes : goal.decreases-nodes
decreases-nodes l = nodes_of l.input - l.search.scanned
