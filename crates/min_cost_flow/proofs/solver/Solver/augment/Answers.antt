use Rattle.std.proofs.Common.{◌≡◌, ◌≢◌, ◌<◌, ◌≤◌, ◌+◌, ℕ, List, length, pos, ◌+ℤ◌, refl, sym, ◌∙◌, ap, subst, arith}
use Rattle.std.specs.Prelude.{ℤ, ◌-ℤ◌}
use Rattle.std.proofs.lemmas.List.{get_or_read, get_or-set_same, get_or-set_other, length-set, with_items_is}
use Rattle.min_cost_flow.specs.declared.residual_network.ResidualArc.{ResidualArc}
use Rattle.min_cost_flow.specs.Networks.{NetworkModel, node_count, raised, moved}
use Rattle.min_cost_flow.proofs.Moving.{length-moved}
use Rattle.min_cost_flow.specs.Flow.{at_nodes}
use Rattle.min_cost_flow.specs.ResidualArcs.{start_at, end_at, reverse_of, capacity_at, no_residual_arc, AreResidualArcs, carried}
use Rattle.min_cost_flow.specs.declared.solver.Nodes.{Nodes}
use Rattle.min_cost_flow.proofs.Augmenting.{place_read, enter_read}
use Rattle.min_cost_flow.specs.declared.solver.Solver.{Solver}
use Rattle.min_cost_flow.specs.Excess.{Carries}
use Rattle.min_cost_flow.specs.Path.{IsOnPath, previous_of}
use Rattle.min_cost_flow.specs.Round.{carrying}
use Rattle.min_cost_flow.specs.SolverState.{excess_at, potential_at, flow_in, last_node, CanAugment, IsBottleneck, predecessors_in, places_in}
use Rattle.min_cost_flow.proofs.Changes.{taken_carries}
use Rattle.min_cost_flow.proofs.Rounds.{IsSent, sent_round}
use Rattle.min_cost_flow.proofs.Augmenting.{IsPushed, IsSending, is_paired, was_pushed, pushed_network, own_step, own_last, own_end, last_pair, step_pair, path_first, path_more, still_fits, sending_first, sending_more, filled_caps, few_remaining, sent_all, sent_less}
use Rattle.min_cost_flow.proofs.solver.Solver.augment.Goals as goal

-- where the path ends
abbrev end_of_path : Solver → ℕ
end_of_path s = end_at s.residual.arcs.items s.found

raised_here : (es : List ℤ) (v k : ℕ) → v < length es → at_nodes (raised es v k) v ≡ at_nodes es v +ℤ pos k
raised_here es v k b = get_or-set_same es v (at_nodes es v +ℤ pos k) (pos 0) b

raised_others : (es : List ℤ) (v k w : ℕ) → w ≢ v → at_nodes (raised es v k) w ≡ at_nodes es w
raised_others es v k w ne = get_or-set_other es v w (at_nodes es v +ℤ pos k) (pos 0) ne

-- so much has been sent from the root to the end of the path
own_sent : (net : NetworkModel) (s : Solver) (root k : ℕ) (capacity : ℕ → ℕ) (arcs : List ResidualArc) → (h : CanAugment net s root) → IsBottleneck s root k → AreResidualArcs net capacity arcs → Carries net (carried capacity) (at_nodes (raised s.nodes.excess.items (end_of_path s) k)) root k → ((i : ℕ) → i < length net.arcs → carried capacity i ≤ flow_in s i + k) → IsSent net (flow_in s) (carried capacity) (excess_at s) (at_nodes (moved s.nodes.excess.items (end_of_path s) root k)) root k
own_sent net s root k capacity arcs h b filled carries grown =
    let es = s.nodes.excess.items in
    let to = end_of_path s in
    let es' = raised es to k in
    let tb : to < length es = omega (arith, h.ready.excesses, own_end net s root h) in
    let long : length es' ≡ length es = length-set es to (at_nodes es to +ℤ pos k) in
    let sb : root < length es' = omega (arith, h.ready.excesses, h.root) in
    sent_all net (flow_in s) (carried capacity) (excess_at s) (at_nodes es') (at_nodes (moved es to root k)) root to k h.root h.remaining h.deficit b.fitting.remaining b.fitting.short
    (filled_caps net capacity arcs filled) carries
    (raised_here es to k tb) (raised_others es to k)
    (get_or-set_same es' root (at_nodes es' root -ℤ pos k) (pos 0) sb)
    (λ w ne. get_or-set_other es' root w (at_nodes es' root -ℤ pos k) (pos 0) ne)
    grown

pub index-requires : goal.index-requires
index-requires c = omega (arith, (last_pair c.requires.0 c.args.self.now c.args.root c.requires.1).here)

pub start-node-requires : goal.start-node-requires
start-node-requires c = (last_pair c.requires.0 c.args.self.now c.args.root c.requires.1).there

pub move_units-requires : goal.move_units-requires
move_units-requires c =
    let net = c.requires.0 in
    let s = c.args.self.now in
    let h = c.requires.1 in
    let r = h.ready in
    let b = c.bottleneck-amount.ensures in
    let m = c.deref_mut.ensures.value in
    let n = last_pair net s c.args.root h in
    let target : c.from-target.result ≡ end_of_path s = c.from-target.ensures ∙ ap (λ (a : ResidualArc). a.end) (get_or_read s.residual.arcs.items s.found c.index.result.now n.here c.index.ensures no_residual_arc) in
    record {
      from = rw (m, target) (omega (arith, r.excesses, own_end net s c.args.root h));
      to = rw m (omega (arith, r.excesses, h.root));
      few = few_remaining (excess_at s c.args.root) c.bottleneck-amount.result b.fitting.remaining (r.round.in_range c.args.root h.root).1;
      low = rw m (λ v d. (r.round.in_range v (omega (arith, r.excesses))).0);
      high = rw m (λ v d. (r.round.in_range v (omega (arith, r.excesses))).1);
    }

pub push-requires : goal.push-requires
push-requires c =
    record {
      pair = last_pair c.requires.0 c.args.self.now c.args.root c.requires.1;
      some = c.bottleneck-amount.ensures.some;
      fits = c.bottleneck-amount.ensures.fitting.found;
    }

pub along-init : goal.along-init
along-init c =
    let s = c.args.self.now in
    let k = c.bottleneck-amount.result in
    let q = c.push.ensures in
    let arcs = s.residual.arcs.items in
    let capacities = s.residual.capacities.items in
    let es = s.nodes.excess.items in
    let place = places_in s in
    let next = previous_of arcs (predecessors_in s) in
    let from = last_node s in
    let to = end_of_path s in
    let e = at_nodes (raised es to k) in
    let at : c.start-node.result ≡ from = c.start-node.ensures in
    let pushed : IsPushed (capacity_at capacities) (capacity_at c.push.new.residual.capacities.items) s.found k = was_pushed s.residual c.push.new.residual s.found k q in
    record {
      node = λ net h. subst (λ (t : ℕ). t < node_count net) (sym at) (own_last net s c.args.root h).node;
      residual = λ net h. pushed_network net s.residual c.push.new.residual s.found k h.ready.residual (own_last net s c.args.root h).inside q;
      ends = q.ends;
      nodes = refl;
      visits = refl;
      found = refl;
      searches = refl;
      looks = refl;
      on = λ net h. ap h.path.on at ∙ (own_last net s c.args.root h).member;
      on_path = subst (λ (t : ℕ). IsOnPath next place from t) (sym at) (path_first next place from);
      sending = λ net h.
          let r = h.ready in
          let tb : to < length es = omega (arith, r.excesses, own_end net s c.args.root h) in
          let taken : Carries net (flow_in s) e to k = taken_carries net (flow_in s) (excess_at s) e to k r.round.leaves (raised_here es to k tb) (raised_others es to k) in
          let most = carrying net (flow_in s) + place from + 1 in
          subst (λ (t : ℕ). IsSending net (potential_at s) e h.path.on place (flow_in s) (carried (capacity_at c.push.new.residual.capacities.items)) t k most) (sym at)
          (sending_first net (capacity_at capacities) (capacity_at c.push.new.residual.capacities.items) (potential_at s) e h.path.on place from s.found to k (own_last net s c.args.root h).tight_arc h.path.off taken r.round.priced pushed);
    }

pub index-requires-in-along : goal.index-requires-in-along
index-requires-in-along c =
    let i = c.along.invariant in
    let h = c.requires.1 in
    rw i.visits (omega (arith, i.node c.requires.0 h, h.ready.labels))

pub index-requires-in-along-2 : goal.index-requires-in-along-2
index-requires-in-along-2 c =
    let i = c.along.invariant in
    let h = c.requires.1 in
    rw i.visits (omega (arith, i.node c.requires.0 h, h.ready.labels))

pub push-requires-in-along : goal.push-requires-in-along
push-requires-in-along c =
    let net = c.requires.0 in
    let s = c.args.self.now in
    let h = c.requires.1 in
    let r = h.ready in
    let i = c.along.invariant in
    let v = c.along.node in
    let t = c.along.self in
    let k = c.bottleneck-amount.result in
    let place = places_in s in
    let predecessor = predecessors_in s in
    let size : length s.visits.items ≡ node_count net = r.labels in
    let wide : length s.visits.items ≡ node_count net = r.labels in
    let pl : c.index-in-along.result.now.place ≡ place v = rw i.visits at (place_read t.visits.items v c.index-in-along.result.now (rw i.visits (omega (arith, i.node net h))) c.index-in-along.ensures) in
    let some : 0 < place v = omega (arith, c.along-test.true) in
    let en : c.index-in-along-2.result.now.predecessor ≡ predecessor v = rw i.visits at (enter_read t.visits.items v c.index-in-along-2.result.now (rw i.visits (omega (arith, i.node net h))) c.index-in-along-2.ensures) in
    let st = own_step net s c.args.root h v (i.on net h) some in
    let arcs = s.residual.arcs.items in
    let capacities = s.residual.capacities.items in
    let from = last_node s in
    let to = end_of_path s in
    let e = at_nodes (raised s.nodes.excess.items to k) in
    let most = carrying net (flow_in s) + place from + 1 in
    let fits : k ≤ capacity_at t.residual.capacities.items (predecessor v) = still_fits net (capacity_at capacities) (capacity_at t.residual.capacities.items) arcs t.residual.arcs.items (potential_at s) e h.path.on place (previous_of arcs (predecessors_in s) v) (predecessor v) v k most r.residual.filled (i.residual net h).filled st.tight_arc st.member (i.on net h) st.before (i.sending net h) (c.bottleneck-amount.ensures.fitting.fits v i.on_path some) in
    rw en (record {
      pair = is_paired net t.residual (predecessor v) r.network (i.residual net h) (omega (arith, st.inside, r.residual.filled.arc_size, (i.residual net h).filled.arc_size));
      some = c.bottleneck-amount.ensures.some;
      fits = fits;
    })

pub start-node-requires-in-along : goal.start-node-requires-in-along
start-node-requires-in-along c =
    let net = c.requires.0 in
    let s = c.args.self.now in
    let h = c.requires.1 in
    let r = h.ready in
    let i = c.along.invariant in
    let v = c.along.node in
    let t = c.along.self in
    let k = c.bottleneck-amount.result in
    let place = places_in s in
    let predecessor = predecessors_in s in
    let size : length s.visits.items ≡ node_count net = r.labels in
    let wide : length s.visits.items ≡ node_count net = r.labels in
    let pl : c.index-in-along.result.now.place ≡ place v = rw i.visits at (place_read t.visits.items v c.index-in-along.result.now (rw i.visits (omega (arith, i.node net h))) c.index-in-along.ensures) in
    let some : 0 < place v = omega (arith, c.along-test.true) in
    let en : c.index-in-along-2.result.now.predecessor ≡ predecessor v = rw i.visits at (enter_read t.visits.items v c.index-in-along-2.result.now (rw i.visits (omega (arith, i.node net h))) c.index-in-along-2.ensures) in
    let st = own_step net s c.args.root h v (i.on net h) some in
    let q = c.push-in-along.ensures in
    let n = step_pair net s c.args.root v h (i.on net h) some in
    let long : length c.push-in-along.new.residual.arcs.items ≡ length s.residual.arcs.items = omega (arith, r.residual.filled.arc_size, q.arc_size, (i.residual net h).filled.arc_size) in
    rw en (omega (arith, n.there, long))

pub along-smaller : goal.along-smaller
along-smaller c =
    let net = c.requires.0 in
    let s = c.args.self.now in
    let h = c.requires.1 in
    let r = h.ready in
    let i = c.along.invariant in
    let v = c.along.node in
    let t = c.along.self in
    let k = c.bottleneck-amount.result in
    let place = places_in s in
    let predecessor = predecessors_in s in
    let size : length s.visits.items ≡ node_count net = r.labels in
    let wide : length s.visits.items ≡ node_count net = r.labels in
    let pl : c.index-in-along.result.now.place ≡ place v = rw i.visits at (place_read t.visits.items v c.index-in-along.result.now (rw i.visits (omega (arith, i.node net h))) c.index-in-along.ensures) in
    let some : 0 < place v = omega (arith, c.along-test.true) in
    let en : c.index-in-along-2.result.now.predecessor ≡ predecessor v = rw i.visits at (enter_read t.visits.items v c.index-in-along-2.result.now (rw i.visits (omega (arith, i.node net h))) c.index-in-along-2.ensures) in
    let st = own_step net s c.args.root h v (i.on net h) some in
    let q = c.push-in-along.ensures in
    let j = reverse_of (predecessor v) in
    let start = rw en at c.start-node-in-along.ensures in
    let at : c.start-node-in-along.result ≡ start_at s.residual.arcs.items (predecessor v) = start ∙ q.ends j ∙ i.ends j in
    subst (λ (u : ℕ). place u < place v) (sym at) st.before

pub along-preserved : goal.along-preserved
along-preserved c =
    let net = c.requires.0 in
    let s = c.args.self.now in
    let h = c.requires.1 in
    let r = h.ready in
    let i = c.along.invariant in
    let v = c.along.node in
    let t = c.along.self in
    let k = c.bottleneck-amount.result in
    let place = places_in s in
    let predecessor = predecessors_in s in
    let size : length s.visits.items ≡ node_count net = r.labels in
    let wide : length s.visits.items ≡ node_count net = r.labels in
    let pl : c.index-in-along.result.now.place ≡ place v = rw i.visits at (place_read t.visits.items v c.index-in-along.result.now (rw i.visits (omega (arith, i.node net h))) c.index-in-along.ensures) in
    let some : 0 < place v = omega (arith, c.along-test.true) in
    let en : c.index-in-along-2.result.now.predecessor ≡ predecessor v = rw i.visits at (enter_read t.visits.items v c.index-in-along-2.result.now (rw i.visits (omega (arith, i.node net h))) c.index-in-along-2.ensures) in
    let st = own_step net s c.args.root h v (i.on net h) some in
    let arcs = s.residual.arcs.items in
    let capacities = s.residual.capacities.items in
    let from = last_node s in
    let to = end_of_path s in
    let e = at_nodes (raised s.nodes.excess.items to k) in
    let most = carrying net (flow_in s) + place from + 1 in
    let q = c.push-in-along.ensures in
    let new = c.push-in-along.new.residual in
    let next = previous_of arcs (predecessors_in s) in
    let j = reverse_of (predecessor v) in
    let start = rw en at c.start-node-in-along.ensures in
    let at : c.start-node-in-along.result ≡ start_at arcs (predecessor v) = start ∙ q.ends j ∙ i.ends j in
    let pushed : IsPushed (capacity_at t.residual.capacities.items) (capacity_at new.capacities.items) (predecessor v) k = rw en at (was_pushed t.residual new c.index-in-along-2.result.now.predecessor k q) in
    record {
      node = λ net' g. subst (λ (u : ℕ). u < node_count net') (sym at) (own_step net' s c.args.root g v (i.on net' g) some).node;
      residual = λ net' g. pushed_network net' t.residual new (predecessor v) k (i.residual net' g) (omega (arith, (own_step net' s c.args.root g v (i.on net' g) some).inside, g.ready.residual.filled.arc_size, (i.residual net' g).filled.arc_size)) (rw en at q);
      ends = λ m. q.ends m ∙ i.ends m;
      nodes = i.nodes;
      visits = i.visits;
      found = i.found;
      searches = i.searches;
      looks = i.looks;
      on = λ net' g. ap g.path.on at ∙ (own_step net' s c.args.root g v (i.on net' g) some).member;
      on_path = subst (λ (u : ℕ). IsOnPath next place from u) (sym at) (path_more next place from v i.on_path some);
      sending = λ net' g.
          let l = own_step net' s c.args.root g v (i.on net' g) some in
          let most' = carrying net' (flow_in s) + place from + 1 in
          subst (λ (u : ℕ). IsSending net' (potential_at s) e g.path.on place (flow_in s) (carried (capacity_at new.capacities.items)) u k most') (sym at)
          (sending_more net' (capacity_at capacities) (capacity_at t.residual.capacities.items) (capacity_at new.capacities.items) (potential_at s) e g.path.on place (start_at arcs (predecessor v)) (predecessor v) v k most' l.tight_arc l.member (i.on net' g) l.before (i.sending net' g) pushed);
    }

pub returns-clause-sent : goal.returns-clause-sent
returns-clause-sent c net h =
    let s = c.args.self.now in
    let r = h.ready in
    let i = c.along.invariant in
    let v = c.along.node in
    let t = c.along.self in
    let k = c.bottleneck-amount.result in
    let place = places_in s in
    let predecessor = predecessors_in s in
    let size : length s.visits.items ≡ node_count net = r.labels in
    let wide : length s.visits.items ≡ node_count net = r.labels in
    let pl : c.index-in-along.result.now.place ≡ place v = rw i.visits at (place_read t.visits.items v c.index-in-along.result.now (rw i.visits (omega (arith, i.node net h))) c.index-in-along.ensures) in
    let arcs = s.residual.arcs.items in
    let capacities = s.residual.capacities.items in
    let from = last_node s in
    let to = end_of_path s in
    let e = at_nodes (raised s.nodes.excess.items to k) in
    let most = carrying net (flow_in s) + place from + 1 in
    let none : place v ≡ 0 = omega (arith, c.along-test.false) in
    let at : v ≡ c.args.root = h.path.root_is v (i.on net h) none in
    let y = carried (capacity_at t.residual.capacities.items) in
    let sd = i.sending net h in
    let carries : Carries net y e c.args.root k = subst (λ (u : ℕ). Carries net y e u k) at sd.carries in
    let sent : IsSent net (flow_in s) y (excess_at s) (at_nodes (moved s.nodes.excess.items to c.args.root k)) c.args.root k = own_sent net s c.args.root k (capacity_at t.residual.capacities.items) t.residual.arcs.items h c.bottleneck-amount.ensures (i.residual net h).filled carries sd.grown in
    let n = last_pair net s c.args.root h in
    let target : c.from-target.result ≡ to = c.from-target.ensures ∙ ap (λ (a : ResidualArc). a.end) (get_or_read arcs s.found c.index.result.now n.here c.index.ensures no_residual_arc) in
    let units = c.move_units.new.units in
    let value : units ≡ moved s.nodes.excess.items to c.args.root k = rw (c.deref_mut.ensures.value, target) at c.move_units.ensures in
    let excess_is : t.nodes.excess.items ≡ moved s.nodes.excess.items to c.args.root k = ap (λ (m : Nodes). m.excess.items) i.nodes ∙ with_items_is s.nodes.excess units (omega arith) ∙ value in
    let potential_is : t.nodes.potential ≡ s.nodes.potential = ap (λ (m : Nodes). m.potential) i.nodes in
    record {
      ready = record {
        network = r.network;
        residual = i.residual net h;
        potentials = rw potential_is r.potentials;
        excesses = rw excess_is (length-moved s.nodes.excess.items to c.args.root k ∙ r.excesses);
        labels = rw i.visits r.labels;
        round = rw (potential_is, excess_is) (sent_round net (flow_in s) y (potential_at s) (excess_at s) (at_nodes (moved s.nodes.excess.items to c.args.root k)) c.args.root k sent sd.priced r.round);
        unlabelled = rw i.visits r.unlabelled;
      };
      less = rw excess_is (sent_less net (flow_in s) y (excess_at s) (at_nodes (moved s.nodes.excess.items to c.args.root k)) c.args.root k sent c.bottleneck-amount.ensures.some);
      carrying = omega (arith, sd.few);
    }

pub returns-clause-work : goal.returns-clause-work
returns-clause-work c = (c.along.invariant.searches, c.along.invariant.looks)
