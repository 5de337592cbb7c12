use Rattle.std.proofs.Common.{◌≡◌, ◌<◌, ◌≤◌, ℕ, min, sym, ◌∙◌, ap, subst, arith}
use Rattle.std.proofs.lemmas.List.{get_or_read}
use Rattle.min_cost_flow.specs.declared.residual_network.ResidualArc.{ResidualArc}
use Rattle.min_cost_flow.specs.Networks.{node_count}
use Rattle.min_cost_flow.specs.ResidualArcs.{start_at, end_at, capacity_at, no_residual_arc}
use Rattle.min_cost_flow.proofs.Augmenting.{place_read, enter_read}
use Rattle.min_cost_flow.specs.Path.{previous_of, capacity_into}
use Rattle.min_cost_flow.specs.SolverState.{excess_at, last_node, predecessors_in, places_in}
use Rattle.min_cost_flow.proofs.Augmenting.{IsNarrowed, narrowed_first, narrowed_more, narrowed_all, own_step, own_last, own_end, last_pair, step_pair, lesser_some, lesser_remaining, lesser_short}
use Rattle.min_cost_flow.proofs.solver.Solver.bottleneck.Goals as goal

pub index-requires : goal.index-requires
index-requires c = omega (arith, (last_pair c.requires.0 c.args.self.now c.args.root c.requires.1).here)

pub most_between-most-requires : goal.most_between-most-requires
most_between-most-requires c =
    let net = c.requires.0 in
    let s = c.args.self.now in
    let h = c.requires.1 in
    let d = c.deref.ensures.value in
    let n = last_pair net s c.args.root h in
    let target : c.from-target.result ≡ end_at s.residual.arcs.items s.found = c.from-target.ensures ∙ ap (λ (a : ResidualArc). a.end) (get_or_read s.residual.arcs.items s.found c.index.result.now n.here c.index.ensures no_residual_arc) in
    record {
      root = rw d (omega (arith, h.ready.excesses, h.root));
      target = rw (d, target) (omega (arith, h.ready.excesses, own_end net s c.args.root h));
      remaining = rw d h.remaining;
      deficit = rw (d, target) h.deficit;
    }

pub index-requires-2 : goal.index-requires-2
index-requires-2 c =
    let n = last_pair c.requires.0 c.args.self.now c.args.root c.requires.1 in omega (arith, n.here, n.sizes)

pub start-node-requires : goal.start-node-requires
start-node-requires c = (last_pair c.requires.0 c.args.self.now c.args.root c.requires.1).there

pub narrow-init : goal.narrow-init
narrow-init c =
    let net = c.requires.0 in
    let s = c.args.self.now in
    let h = c.requires.1 in
    let d = c.deref.ensures.value in
    let n = last_pair net s c.args.root h in
    let l = own_last net s c.args.root h in
    let at : c.start-node.result ≡ last_node s = c.start-node.ensures in
    let target : c.from-target.result ≡ end_at s.residual.arcs.items s.found = c.from-target.ensures ∙ ap (λ (a : ResidualArc). a.end) (get_or_read s.residual.arcs.items s.found c.index.result.now n.here c.index.ensures no_residual_arc) in
    let fits : c.index-2.result.now ≡ capacity_at s.residual.capacities.items s.found = get_or_read s.residual.capacities.items s.found c.index-2.result.now (omega (arith, n.here, n.sizes)) c.index-2.ensures 0 in
    let least : c.min-amount.result ≡ min c.most_between-most.result c.index-2.result.now = c.min-amount.ensures in
    let m = c.most_between-most.ensures in
    let next = previous_of s.residual.arcs.items (predecessors_in s) in
    let capacities = capacity_into s.residual.capacities.items (predecessors_in s) in
    record {
      node = λ net' g. subst (λ (t : ℕ). t < node_count net') (sym at) (own_last net' s c.args.root g).node;
      narrowed = subst (λ (t : ℕ). IsNarrowed next (places_in s) capacities (last_node s) t c.min-amount.result) (sym at) (narrowed_first next (places_in s) capacities (last_node s) c.min-amount.result);
      some = lesser_some c.most_between-most.result c.index-2.result.now c.min-amount.result least m.some (omega (arith, l.tight_arc.some));
      found = omega (arith, least);
      remaining = lesser_remaining c.most_between-most.result c.min-amount.result (excess_at s c.args.root) (omega (arith, least)) (rw d at m.remaining);
      short = lesser_short c.most_between-most.result c.min-amount.result (excess_at s (end_at s.residual.arcs.items s.found)) (omega (arith, least)) (rw (d, target) at m.deficit);
      on = λ net' g. ap g.path.on at ∙ (own_last net' s c.args.root g).member;
      most = λ k f. let under : k ≤ c.most_between-most.result = m.most k (rw d f.remaining) (rw (d, target) f.short) in omega (arith, least, under, f.found);
    }

pub narrow-smaller : goal.narrow-smaller
narrow-smaller c =
    let net = c.requires.0 in
    let s = c.args.self.now in
    let h = c.requires.1 in
    let i = c.narrow.invariant in
    let v = c.narrow.node in
    let pl : c.index-in-narrow.result.now.place ≡ places_in s v = place_read s.visits.items v c.index-in-narrow.result.now (omega (arith, i.node net h, h.ready.labels)) c.index-in-narrow.ensures in
    let some : 0 < places_in s v = omega (arith, c.narrow-test.true) in
    let en : c.index-in-narrow-2.result.now.predecessor ≡ predecessors_in s v = enter_read s.visits.items v c.index-in-narrow-2.result.now (omega (arith, i.node net h, h.ready.labels)) c.index-in-narrow-2.ensures in
    let at : c.start-node-in-narrow.result ≡ previous_of s.residual.arcs.items (predecessors_in s) v = c.start-node-in-narrow.ensures ∙ ap (λ (t : ℕ). start_at s.residual.arcs.items t) en in
    subst (λ (t : ℕ). places_in s t < places_in s v) (sym at) (own_step net s c.args.root h v (i.on net h) some).before

pub index-requires-in-narrow : goal.index-requires-in-narrow
index-requires-in-narrow c = let h = c.requires.1 in omega (arith, c.narrow.invariant.node c.requires.0 h, h.ready.labels)

pub index-requires-in-narrow-2 : goal.index-requires-in-narrow-2
index-requires-in-narrow-2 c = let h = c.requires.1 in omega (arith, c.narrow.invariant.node c.requires.0 h, h.ready.labels)

pub index-requires-in-narrow-3 : goal.index-requires-in-narrow-3
index-requires-in-narrow-3 c =
    let s = c.args.self.now in
    let net = c.requires.0 in
    let h = c.requires.1 in
    let i = c.narrow.invariant in
    let v = c.narrow.node in
    let pl : c.index-in-narrow.result.now.place ≡ places_in s v = place_read s.visits.items v c.index-in-narrow.result.now (omega (arith, i.node net h, h.ready.labels)) c.index-in-narrow.ensures in
    let some : 0 < places_in s v = omega (arith, c.narrow-test.true) in
    let en : c.index-in-narrow-2.result.now.predecessor ≡ predecessors_in s v = enter_read s.visits.items v c.index-in-narrow-2.result.now (omega (arith, i.node net h, h.ready.labels)) c.index-in-narrow-2.ensures in
    let n = step_pair net s c.args.root v h (i.on net h) some in
    omega (arith, n.here, n.sizes)

pub start-node-requires-in-narrow : goal.start-node-requires-in-narrow
start-node-requires-in-narrow c =
    let s = c.args.self.now in
    let net = c.requires.0 in
    let h = c.requires.1 in
    let i = c.narrow.invariant in
    let v = c.narrow.node in
    let pl : c.index-in-narrow.result.now.place ≡ places_in s v = place_read s.visits.items v c.index-in-narrow.result.now (omega (arith, i.node net h, h.ready.labels)) c.index-in-narrow.ensures in
    let some : 0 < places_in s v = omega (arith, c.narrow-test.true) in
    let en : c.index-in-narrow-2.result.now.predecessor ≡ predecessors_in s v = enter_read s.visits.items v c.index-in-narrow-2.result.now (omega (arith, i.node net h, h.ready.labels)) c.index-in-narrow-2.ensures in
    let n = step_pair net s c.args.root v h (i.on net h) some in
    rw en n.there

pub narrow-preserved : goal.narrow-preserved
narrow-preserved c =
    let net = c.requires.0 in
    let s = c.args.self.now in
    let h = c.requires.1 in
    let i = c.narrow.invariant in
    let v = c.narrow.node in
    let pl : c.index-in-narrow.result.now.place ≡ places_in s v = place_read s.visits.items v c.index-in-narrow.result.now (omega (arith, i.node net h, h.ready.labels)) c.index-in-narrow.ensures in
    let some : 0 < places_in s v = omega (arith, c.narrow-test.true) in
    let en : c.index-in-narrow-2.result.now.predecessor ≡ predecessors_in s v = enter_read s.visits.items v c.index-in-narrow-2.result.now (omega (arith, i.node net h, h.ready.labels)) c.index-in-narrow-2.ensures in
    let n = step_pair net s c.args.root v h (i.on net h) some in
    let rm : c.index-in-narrow-3.result.now ≡ capacity_at s.residual.capacities.items (predecessors_in s v) = get_or_read s.residual.capacities.items c.index-in-narrow-2.result.now.predecessor c.index-in-narrow-3.result.now (omega (arith, n.here, n.sizes)) c.index-in-narrow-3.ensures 0 ∙ ap (capacity_at s.residual.capacities.items) en in
    let at : c.start-node-in-narrow.result ≡ previous_of s.residual.arcs.items (predecessors_in s) v = c.start-node-in-narrow.ensures ∙ ap (λ (t : ℕ). start_at s.residual.arcs.items t) en in
    let st = own_step net s c.args.root h v (i.on net h) some in
    let k' = c.min-amount-in-narrow.result in
    let least : k' ≡ min c.narrow.amount c.index-in-narrow-3.result.now = c.min-amount-in-narrow.ensures in
    let less : k' ≤ c.narrow.amount = omega (arith, least) in
    let next = previous_of s.residual.arcs.items (predecessors_in s) in
    let capacities = capacity_into s.residual.capacities.items (predecessors_in s) in
    record {
      node = λ net' g. subst (λ (t : ℕ). t < node_count net') (sym at) (own_step net' s c.args.root g v (i.on net' g) some).node;
      narrowed = subst (λ (t : ℕ). IsNarrowed next (places_in s) capacities (last_node s) t k') (sym at) (narrowed_more next (places_in s) capacities (last_node s) v c.narrow.amount k' i.narrowed some less (omega (arith, least)));
      some = lesser_some c.narrow.amount c.index-in-narrow-3.result.now k' least i.some (omega (arith, st.tight_arc.some));
      found = omega (arith, less, i.found);
      remaining = lesser_remaining c.narrow.amount k' (excess_at s c.args.root) less i.remaining;
      short = lesser_short c.narrow.amount k' (excess_at s (end_at s.residual.arcs.items s.found)) less i.short;
      on = λ net' g. ap g.path.on at ∙ (own_step net' s c.args.root g v (i.on net' g) some).member;
      most = λ k f. omega (arith, least, rm, i.most k f, f.fits v i.narrowed.on some);
    }

pub returns : goal.returns
returns c =
    let s = c.args.self.now in
    let net = c.requires.0 in
    let h = c.requires.1 in
    let i = c.narrow.invariant in
    let v = c.narrow.node in
    let pl : c.index-in-narrow.result.now.place ≡ places_in s v = place_read s.visits.items v c.index-in-narrow.result.now (omega (arith, i.node net h, h.ready.labels)) c.index-in-narrow.ensures in
    let none : places_in s v ≡ 0 = omega (arith, c.narrow-test.false) in
    record {
      some = i.some;
      most = i.most;
      fitting = record {
        found = i.found;
        remaining = i.remaining;
        short = i.short;
        fits = λ u on some. narrowed_all (previous_of s.residual.arcs.items (predecessors_in s)) (places_in s) (capacity_into s.residual.capacities.items (predecessors_in s)) (last_node s) v c.narrow.amount i.narrowed none u on some;
      };
    }
