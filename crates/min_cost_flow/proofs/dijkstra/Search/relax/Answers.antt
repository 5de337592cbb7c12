use Rattle.std.proofs.Common.{rules, ◌≡◌, ◌<◌, arith, refl, sym, ap, ◌∙◌, subst}
use Rattle.std.specs.Prelude.{ℤ, ◌+ℤ◌, ◌<ℤ◌}
use mir.Syntax.{w16}
use mir.Val.{SFits, of_z, to_z}
use Rattle.min_cost_flow.specs.ResidualArcs.{cost_at}
use Rattle.min_cost_flow.specs.Search.{arcs_of, labels, places, potential_of, IsArcCost}
use Rattle.min_cost_flow.proofs.Signs.{added, added_fits, added_is, label_over, label_under}
use Rattle.min_cost_flow.proofs.Reaching.{kept_same, same_z, served_after, served_less}
use Rattle.min_cost_flow.proofs.Searching.{label_fits_at, offering}
use Rattle.min_cost_flow.proofs.dijkstra.Search.relax.Goals as goal

pub bounds-self-node : goal.bounds-self-node
bounds-self-node c =
    let n = c.requires.scanning in
    omega (arith, n.node, n.search.size)

pub overflow_add-label : goal.overflow_add-label
overflow_add-label c =
    let n = c.requires.scanning in
    let cost : IsArcCost c.args.arc.now.cost = subst IsArcCost (sym c.requires.cost) (n.search.input.graph.cost c.args.number c.requires.number.inside) in
    added_fits _ _ (label_fits_at c.args.input c.args.self.now c.args.node n.search n.node n.labelled) cost

pub bounds-self-end : goal.bounds-self-end
bounds-self-end c =
    let n = c.requires.scanning in
    omega (arith, n.search.size, c.requires.end, n.search.input.graph.end c.args.number c.requires.number.inside)

pub reach-requires : goal.reach-requires
reach-requires c =
    let n = c.requires.scanning in
    let s = c.args.self.now in
    let g = c.args.input in
    let u = c.args.node in
    let k = c.args.number in
    let arc = c.args.arc.now in
    let known = label_fits_at g s u n.search n.node n.labelled in
    let cost : IsArcCost arc.cost = subst IsArcCost (sym c.requires.cost) (n.search.input.graph.cost k c.requires.number.inside) in
    let sum : to_z w16 (of_z w16 (added (labels s u) arc.cost)) ≡ labels s u +ℤ cost_at (arcs_of g) k = added_is _ _ known cost ∙ ap (λ (z : ℤ). labels s u +ℤ z) c.requires.cost in
    let fe : SFits w16 (labels s arc.end) = search rules in
    let less : (labels s u +ℤ cost_at (arcs_of g) k) <ℤ labels s arc.end = label_under (added (labels s u) arc.cost) _ _ sum fe c.if-label-self.true in
    rw sum (record { candidate = offering g s u (record { number = k; end = arc.end; label = labels s u +ℤ cost_at (arcs_of g) k }) n c.requires.number c.requires.end refl less })

pub returns-then-label-self : goal.returns-then-label-self
returns-then-label-self c =
    let n = c.requires.scanning in
    let s = c.args.self.now in
    let g = c.args.input in
    let u = c.args.node in
    let k = c.args.number in
    let arc = c.args.arc.now in
    let known = label_fits_at g s u n.search n.node n.labelled in
    let cost : IsArcCost arc.cost = subst IsArcCost (sym c.requires.cost) (n.search.input.graph.cost k c.requires.number.inside) in
    let sum : to_z w16 (of_z w16 (added (labels s u) arc.cost)) ≡ labels s u +ℤ cost_at (arcs_of g) k = added_is _ _ known cost ∙ ap (λ (z : ℤ). labels s u +ℤ z) c.requires.cost in
    let new = c.reach.new.self in
    let r = c.reach.ensures.relaxed in
    let placed : places s u < s.scanned = omega (arith, n.place) in
    record {
      relaxed = r;
      serves = served_after (arcs_of g) (potential_of g) (labels s) (labels new) new.bound u k arc.end (labels s u +ℤ cost_at (arcs_of g) k) c.requires.end refl (r.kept.same u n.node n.labelled placed).0 (rw sum at c.reach.ensures.served);
    }

pub returns-else-label-self : goal.returns-else-label-self
returns-else-label-self c =
    let n = c.requires.scanning in
    let s = c.args.self.now in
    let g = c.args.input in
    let u = c.args.node in
    let k = c.args.number in
    let arc = c.args.arc.now in
    let known = label_fits_at g s u n.search n.node n.labelled in
    let cost : IsArcCost arc.cost = subst IsArcCost (sym c.requires.cost) (n.search.input.graph.cost k c.requires.number.inside) in
    let sum : to_z w16 (of_z w16 (added (labels s u) arc.cost)) ≡ labels s u +ℤ cost_at (arcs_of g) k = added_is _ _ known cost ∙ ap (λ (z : ℤ). labels s u +ℤ z) c.requires.cost in
    let fe : SFits w16 (labels s arc.end) = search rules in
    record {
      relaxed = record { search = n.search; list = refl; kept = kept_same _ _ _ _; scanned = refl; radius = refl; bound = same_z s.bound };
      serves = served_less (arcs_of g) (potential_of g) (labels s) s.bound u k arc.end (labels s u +ℤ cost_at (arcs_of g) k) c.requires.end refl (label_over (added (labels s u) arc.cost) _ _ sum fe c.if-label-self.false);
    }
