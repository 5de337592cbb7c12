use Rattle.std.proofs.Common.{rules, ◌∙◌}
use Rattle.std.proofs.Math.Path.{fun_ext}
use Rattle.std.proofs.lemmas.Int.{to_z-of_z}
use mir.Syntax.{w16, w32}
use mir.Val.{SFits}
use Rattle.min_cost_flow.specs.Search.{labels, predecessors, potential_of, IsPut, label_at}
use Rattle.min_cost_flow.proofs.Signs.{fits_within, label_fits}
use Rattle.min_cost_flow.proofs.Reaching.{root_reached}
use Rattle.min_cost_flow.proofs.Searching.{potential_near}
use Rattle.min_cost_flow.proofs.dijkstra.Search.begin.Goals as goal

pub returns-clause-search : goal.returns-clause-search
returns-clause-search c =
    let b = c.requires.unlabelled in
    let g = c.args.input in
    let v = g.root in
    let p = c.put.new.self in
    let q = c.put.ensures in
    let o = c.relabel.ensures.order in
    let near = potential_near g v b.input b.input.root in
    let f : SFits w16 (potential_of g v) = label_fits _ near in
    let f' : SFits w32 (potential_of g v) = fits_within _ near in
    let first : IsPut (label_at c.args.visits.now) (labels c.relabel.new.self) v (potential_of g v) = rw (to_z-of_z w32 (potential_of g v) f', to_z-of_z w16 (potential_of g v) f) at c.relabel.ensures.label in
    let put : IsPut (label_at c.args.visits.now) (labels p) v (potential_of g v) = rw (fun_ext q.same.label) first in
    record {
      input = b.input;
      size = q.same.size ∙ c.relabel.ensures.order.progress.size ∙ b.size;
      reached = rw (q.same.scanned ∙ o.progress.scanned, q.ordered ∙ o.progress.ordered, q.same.reached ∙ o.reached, q.same.radius ∙ o.progress.radius) (root_reached _ _ _ _ _ (label_at c.args.visits.now) _ (predecessors p) _ _ b.input.graph.nodes b.input.root (b.input.priced.low v b.input.root).1 b.root b.unlabelled put q.order.here q.place.here);
      nearest = rw (q.same.scanned ∙ o.progress.scanned, q.same.radius ∙ o.progress.radius, q.same.bound ∙ o.progress.bound, q.same.found ∙ o.progress.found) (search rules);
    }
