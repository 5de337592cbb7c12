use Rattle.std.proofs.Common.{◌-◌}
use Rattle.min_cost_flow.specs.ResidualArcs.{out_degree}
use Rattle.min_cost_flow.specs.Search.{IsRelaxed, arcs_of}
use Rattle.min_cost_flow.proofs.Searching.{HasLooked}
use Rattle.min_cost_flow.proofs.dijkstra.Search.scan.Given as goal

abbrev pub invariant-arcs : goal.invariant-arcs
invariant-arcs l = record {
  relaxed : IsRelaxed l.input l.initial.self l.self;
  looked : HasLooked l.input l.self l.node l.number l.here;
}

abbrev pub decreases-arcs : goal.decreases-arcs
decreases-arcs l = out_degree (arcs_of l.input) l.node - l.here
