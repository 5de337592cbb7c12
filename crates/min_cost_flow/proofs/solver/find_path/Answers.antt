use Rattle.std.proofs.Common.{rules, List, ◌≡◌, ◌≤◌, ◌<◌, ℕ, length, arith, sym, ◌∙◌, ap, subst}
use Rattle.std.specs.Prelude.{◌<ℤ◌, int_lt}
use Rattle.std.proofs.lemmas.List.{with_items_is}
use mir.Syntax.{w32}
use mir.Val.{SFits, of_z}
use Rattle.min_cost_flow.specs.Networks.{node_count}
use Rattle.min_cost_flow.specs.Flow.{at_nodes}
use Rattle.min_cost_flow.specs.ResidualArcs.{IsLinked}
use Rattle.min_cost_flow.specs.Search.{far, labels, predecessors, orders, places, IsGraph, AreFeasiblePotentials, IsReached, IsNearest, AreFeasible, IsRemaining}
use Rattle.min_cost_flow.proofs.Signs.{same_from_bits}
use Rattle.min_cost_flow.proofs.Reaching.{strictly, reached_fits}
use Rattle.min_cost_flow.specs.Overfull.{IsOverfull, HasStopped}
use Rattle.min_cost_flow.specs.declared.dijkstra.Visit.{Visit}
use Rattle.min_cost_flow.proofs.Solving.{is_graph, is_priced, can_augment, nothing_found, path_looks, short_path, label_bounds}
use Rattle.min_cost_flow.proofs.solver.find_path.Goals as goal

pub run-search-requires-clause-unlabelled : goal.run-search-requires-clause-unlabelled
run-search-requires-clause-unlabelled c =
    let net = c.requires.ready.0 in
    let r = c.requires.ready.1 in
    let n : length c.args.nodes.now.potential.items ≡ node_count net = r.potentials in
    let arcs = c.args.residual.now.arcs.items in
    let p = at_nodes c.args.nodes.now.potential.items in
    let e = at_nodes c.args.nodes.now.excess.items in
    let g : IsGraph (node_count net) arcs = is_graph _ _ _ r.network r.residual.filled in
    let pr : AreFeasiblePotentials (node_count net) arcs p e = is_priced _ _ _ _ _ r.network r.residual.filled r.round in
    rw (c.deref.ensures.value, c.deref-2.ensures.value, c.deref-3.ensures.value, c.deref-4.ensures.value) (record {
      input = record {
        excesses = r.excesses ∙ sym n;
        graph = subst (λ (t : ℕ). IsGraph t arcs) (sym n) g;
        linked = subst (λ (t : ℕ). IsLinked t c.args.residual.now.first.items arcs) (sym n) r.residual.linked;
        priced = subst (λ (t : ℕ). AreFeasiblePotentials t arcs p e) (sym n) pr;
        root = omega (arith, c.requires.root, r.excesses, n);
      };
      size = r.labels ∙ sym n;
      unlabelled = λ v b. r.unlabelled v (omega arith);
      root = c.requires.remaining;
    })

pub returns-then-search-clause-stopped : goal.returns-then-search-clause-stopped
returns-then-search-clause-stopped c net r =
    let f = c.run-search.ensures in
    let h = f.search in
    let t = c.run-search.result in
    let res = c.args.residual.now in
    let arcs = res.arcs.items in
    let pot = c.args.nodes.now.potential.items in
    let exc = c.args.nodes.now.excess.items in
    let p = at_nodes pot in
    let x = at_nodes exc in
    let re0 : IsReached (length pot) arcs p x c.args.root (labels t) (predecessors t) (orders t) (places t) t.scanned t.ordered t.reached t.radius = rw (c.deref-2.ensures.value, c.deref-3.ensures.value, c.deref-4.ensures.value) at h.reached in
    let sv0 : AreFeasible (length pot) arcs p (labels t) (places t) t.bound t.scanned = rw (c.deref-2.ensures.value, c.deref-3.ensures.value) at f.served in
    let remaining0 : IsRemaining (length pot) p (labels t) (places t) t.scanned t.bound = rw c.deref-3.ensures.value at f.remaining in
    let n = r.potentials in
    let fc : SFits w32 t.bound = search rules in
    let ff : SFits w32 far = search rules in
    let bound : t.bound ≡ far = same_from_bits _ _ fc ff c.if-search.true in
    let re = subst (λ (k : ℕ). IsReached k arcs p x c.args.root (labels t) (predecessors t) (orders t) (places t) t.scanned t.ordered t.reached t.radius) n re0 in
    let sv = subst (λ (k : ℕ). AreFeasible k arcs p (labels t) (places t) t.bound t.scanned) n sv0 in
    let remaining = subst (λ (k : ℕ). IsRemaining k p (labels t) (places t) t.scanned t.bound) n remaining0 in
    let short : IsOverfull net (λ v. int_lt (labels t v) far) = nothing_found _ _ _ _ _ _ _ _ _ _ _ _ _ _ _ r.network r.residual.filled r.round re sv remaining bound c.requires.remaining in
    let size0 : length t.visits.now ≡ length pot = rw c.deref-3.ensures.value at h.size in
    let stopped : HasStopped net t.visits.now = record { labels = size0 ∙ n; overfull = short } in
    let also : (vs : List Visit) → vs ≡ t.visits.now → HasStopped net vs = λ vs same. subst (λ (us : List Visit). HasStopped net us) (sym same) stopped in
    also _ (search (rules, f.list))

pub update_potentials-requires : goal.update_potentials-requires
update_potentials-requires c =
    let net = c.requires.ready.0 in
    let r = c.requires.ready.1 in
    let f = c.run-search.ensures in
    let h = f.search in
    let t = c.run-search.result in
    let res = c.args.residual.now in
    let arcs = res.arcs.items in
    let pot = c.args.nodes.now.potential.items in
    let exc = c.args.nodes.now.excess.items in
    let p = at_nodes pot in
    let x = at_nodes exc in
    let re0 : IsReached (length pot) arcs p x c.args.root (labels t) (predecessors t) (orders t) (places t) t.scanned t.ordered t.reached t.radius = rw (c.deref-2.ensures.value, c.deref-3.ensures.value, c.deref-4.ensures.value) at h.reached in
    let near0 : IsNearest (length pot) arcs p x c.args.root (labels t) (places t) t.scanned t.radius t.bound t.found = rw (c.deref-2.ensures.value, c.deref-3.ensures.value, c.deref-4.ensures.value) at h.nearest in
    let g0 : IsGraph (length pot) arcs = rw (c.deref-2.ensures.value, c.deref-3.ensures.value) at h.input.graph in
    let hit : t.bound <ℤ far = strictly _ _ near0.most (λ q. c.if-search.false (ap (of_z w32) q)) in
    let pr0 = rw (c.deref-2.ensures.value, c.deref-3.ensures.value, c.deref-4.ensures.value) at h.input.priced in
    let b : c.args.root < node_count net = omega (arith, c.requires.root, r.excesses) in
    let size : length t.visits.now ≡ length pot = rw c.deref-3.ensures.value at h.size in
    let le : t.scanned ≤ node_count net = omega (arith, re0.counts, r.potentials) in
    rw c.deref_mut.ensures.value (record {
      order = omega (arith, re0.counts, size);
      small = omega (arith, r.potentials, r.network.small);
      are_scanned = λ j b. re0.node j (omega (arith, re0.counts));
      sizes = size;
      labels = λ j b. reached_fits _ _ _ _ _ _ _ _ _ _ _ _ _ (orders t j) g0 pr0 re0 (re0.node j (omega (arith, re0.counts))) (re0.has_label j (omega (arith, re0.counts)));
      bound = label_bounds _ t.scanned (p c.args.root) t.bound r.network.small.0 le (near0.hit hit).near (r.round.low c.args.root b);
    })

pub clear-requires : goal.clear-requires
clear-requires c =
    let h = c.run-search.ensures.search in
    record {
      order = omega (arith, h.size, h.reached.counts.2);
      small = omega (arith, h.size, h.input.graph.nodes);
      nodes = λ j b. omega (arith, h.size, h.reached.node j b);
    }

pub returns-clause-found : goal.returns-clause-found
returns-clause-found c net r =
    let f = c.run-search.ensures in
    let h = f.search in
    let t = c.run-search.result in
    let res = c.args.residual.now in
    let arcs = res.arcs.items in
    let pot = c.args.nodes.now.potential.items in
    let exc = c.args.nodes.now.excess.items in
    let p = at_nodes pot in
    let x = at_nodes exc in
    let re0 : IsReached (length pot) arcs p x c.args.root (labels t) (predecessors t) (orders t) (places t) t.scanned t.ordered t.reached t.radius = rw (c.deref-2.ensures.value, c.deref-3.ensures.value, c.deref-4.ensures.value) at h.reached in
    let near0 : IsNearest (length pot) arcs p x c.args.root (labels t) (places t) t.scanned t.radius t.bound t.found = rw (c.deref-2.ensures.value, c.deref-3.ensures.value, c.deref-4.ensures.value) at h.nearest in
    let g0 : IsGraph (length pot) arcs = rw (c.deref-2.ensures.value, c.deref-3.ensures.value) at h.input.graph in
    let sv0 : AreFeasible (length pot) arcs p (labels t) (places t) t.bound t.scanned = rw (c.deref-2.ensures.value, c.deref-3.ensures.value) at f.served in
    let remaining0 : IsRemaining (length pot) p (labels t) (places t) t.scanned t.bound = rw c.deref-3.ensures.value at f.remaining in
    let hit : t.bound <ℤ far = strictly _ _ near0.most (λ q. c.if-search.false (ap (of_z w32) q)) in
    let up = c.update_potentials.ensures in
    let old = c.args.nodes.now.potential in
    let new = c.update_potentials.new.potential in
    let b : c.args.root < node_count net = omega (arith, c.requires.root, r.excesses) in
    let size : length t.visits.now ≡ length pot = rw c.deref-3.ensures.value at h.size in
    let same : length new ≡ length pot = rw c.deref_mut.ensures.value at up.size in
    let is = with_items_is old new (omega (arith, same)) in
    let others = rw c.deref_mut.ensures.value at up.others in
    rw is (can_augment net res pot exc new c.args.visits.now _ c.args.root t c.clear.new.search r b c.requires.remaining size g0 re0 near0 sv0 remaining0 hit up.moved others same c.clear.ensures.cleared (search (rules, f.list, c.clear.ensures.list)))

pub returns-clause-short : goal.returns-clause-short
returns-clause-short c =
    let net = c.requires.ready.0 in
    let r = c.requires.ready.1 in
    let f = c.run-search.ensures in
    let h = f.search in
    let t = c.run-search.result in
    let res = c.args.residual.now in
    let arcs = res.arcs.items in
    let pot = c.args.nodes.now.potential.items in
    let exc = c.args.nodes.now.excess.items in
    let p = at_nodes pot in
    let x = at_nodes exc in
    let re0 : IsReached (length pot) arcs p x c.args.root (labels t) (predecessors t) (orders t) (places t) t.scanned t.ordered t.reached t.radius = rw (c.deref-2.ensures.value, c.deref-3.ensures.value, c.deref-4.ensures.value) at h.reached in
    let near0 : IsNearest (length pot) arcs p x c.args.root (labels t) (places t) t.scanned t.radius t.bound t.found = rw (c.deref-2.ensures.value, c.deref-3.ensures.value, c.deref-4.ensures.value) at h.nearest in
    let hit : t.bound <ℤ far = strictly _ _ near0.most (λ q. c.if-search.false (ap (of_z w32) q)) in
    let n = r.potentials in
    let q = c.clear.ensures.cleared in
    let re = subst (λ (k : ℕ). IsReached k arcs p x c.args.root (labels t) (predecessors t) (orders t) (places t) t.scanned t.ordered t.reached t.radius) n re0 in
    let near = subst (λ (k : ℕ). IsNearest k arcs p x c.args.root (labels t) (places t) t.scanned t.radius t.bound t.found) n near0 in
    let short = path_looks _ _ _ _ _ _ _ _ _ _ _ _ _ _ _ _ r.residual.filled re (near.hit hit) in
    let looks = rw c.deref-2.ensures.value at f.looks in
    short_path _ t c.clear.new.search arcs c.args.looks.now c.run-search.new.looks q (search (rules, f.list, c.clear.ensures.list)) short looks
