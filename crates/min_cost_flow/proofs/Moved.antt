-- After one node supplies more and another less: what holds before the next search.
use Rattle.std.proofs.Common.{◌≡◌, ◌≢◌, ◌<◌, ◌≤◌, ℕ, ◌+◌, ◌*◌, Bool, List, length, cond, eqb, true, false, refl, sym, ◌∙◌, subst, inl, inr, arith}
use Rattle.std.specs.Prelude.{ℤ, pos, negsuc, ◌+ℤ◌, ◌-ℤ◌, ◌≤ℤ◌, ◌<ℤ◌}
use Rattle.std.proofs.lemmas.Bool.{cases_eq, ne_eqb, eqb-true, cond-false}
use Rattle.std.proofs.lemmas.Int.{ints}
use Rattle.min_cost_flow.specs.declared.network.TheConstants.{MAX_SUPPLY}
use Rattle.min_cost_flow.specs.declared.network.TheConstants.{MAX_NODES}
use Rattle.min_cost_flow.specs.declared.warm_start.TheConstants.{MAX_CARRIED}
use borrow.Author.Differences.{up}
use Rattle.common.specs.Sums.{sum_below}
use Rattle.common.proofs.Sums.{sum_below-changed, sum_below-none}
use Rattle.min_cost_flow.specs.Networks.{NetworkModel, node_count, arc_count, supply_at, moved, shifted, IsInSupplyRange, IsNetwork}
use Rattle.min_cost_flow.proofs.Moving.{delta, moved_at, length-moved}
use Rattle.min_cost_flow.specs.Flow.{SolvedModel, Flow, Solves, amounts, at_nodes, cost_of, net_outflow, start_of, end_of, unit_cost, HasPotentials}
use Rattle.min_cost_flow.specs.declared.residual_network.ResidualArc.{ResidualArc}
use Rattle.min_cost_flow.specs.ResidualArcs.{IsLinked}
use Rattle.min_cost_flow.specs.Round.{remaining_units, IsRound}
use Rattle.min_cost_flow.specs.Networks.{HasSuppliesInRange}
use Rattle.min_cost_flow.specs.Residuals.{IsResidualNetwork, flow_of}
use Rattle.min_cost_flow.proofs.Moving.{still_network}
use Rattle.min_cost_flow.specs.declared.solver.Solver.{Solver}
use Rattle.min_cost_flow.specs.SolverState.{IsShown, IsSized, IsReady, IsAllSent, IsReadyIn}
use Rattle.min_cost_flow.proofs.Ends.{start_in, end_in}
use Rattle.min_cost_flow.proofs.Duality.{least_by_potentials}
use Rattle.min_cost_flow.proofs.Rounds.{flow_at, flow_same, potentials_same}

-- ---- at one node

still_leaves : (b e e' s s' d : ℤ) → b +ℤ e ≡ s → e' ≡ e +ℤ d → s' ≡ s +ℤ d → b +ℤ e' ≡ s'
still_leaves b e e' s s' d h k l = omega (arith, ints)

fair_delta : (e e' : ℤ) (x y : ℕ) → e ≡ pos 0 → e' ≡ e +ℤ (pos x -ℤ pos y) → x ≤ MAX_SUPPLY → y ≤ MAX_SUPPLY → IsInSupplyRange e'
fair_delta e e' x y z h a b = (omega (arith, ints), omega (arith, ints))

some_less : (e e' : ℤ) (x y : ℕ) → e ≡ pos 0 → e' ≡ e +ℤ (pos x -ℤ pos y) → e' <ℤ pos 0 → 0 < y
some_less e e' x y z h w = omega (arith, ints)

no_more : (e e' : ℤ) (x y : ℕ) → e ≡ pos 0 → e' ≡ e +ℤ (pos x -ℤ pos y) → x ≡ 0 → e' ≤ℤ pos 0
no_more e e' x y z h w = omega (arith, ints)

up_few : (e e' : ℤ) (x y k : ℕ) → e ≡ pos 0 → e' ≡ e +ℤ (pos x -ℤ pos y) → x ≤ k → up e' ≤ k
up_few e (pos n) x y k z h w = omega (arith, ints)
up_few e (negsuc n) x y k z h w = omega (arith, ints)

up_none : (e e' : ℤ) (x y : ℕ) → e ≡ pos 0 → e' ≡ e +ℤ (pos x -ℤ pos y) → x ≡ 0 → up e' ≡ 0
up_none e (pos n) x y z h w = omega (arith, ints)
up_none e (negsuc n) x y z h w = omega (arith, ints)

own_base : (a b : ℤ) → a ≡ b -ℤ b → a ≡ pos 0
own_base a b h = omega (arith, ints)

same_cost : (c a b a' b' z : ℤ) → a' ≡ a -ℤ z → b' ≡ b -ℤ z → pos 0 ≤ℤ (c +ℤ a -ℤ b) → pos 0 ≤ℤ (c +ℤ a' -ℤ b')
same_cost c a b a' b' z h k l = omega (arith, ints)

same_unit_cost : (c a b a' b' : ℤ) → a' ≡ a → b' ≡ b → pos 0 ≤ℤ (c +ℤ a -ℤ b) → pos 0 ≤ℤ (c +ℤ a' -ℤ b')
same_unit_cost c a b a' b' h k l = omega (arith, ints)

chosen_few : (b : Bool) (k : ℕ) → cond {A = ℕ} b k 0 ≤ k
chosen_few true k = omega arith
chosen_few false k = omega arith

-- ---- the whole

abbrev none_at : (es : List ℤ) (n : ℕ) → Type 0
none_at es n = (v : ℕ) → v < n → at_nodes es v ≡ pos 0

-- only the first of the two nodes has anything left over
pub others_none : (es : List ℤ) (n f t k v : ℕ) → length es ≡ n → none_at es n → f < n → t < n → v < n → v ≢ f → at_nodes (moved es f t k) v ≤ℤ pos 0
others_none es n f t k v size none fb tb vb ne =
    no_more (at_nodes es v) (at_nodes (moved es f t k) v) (cond {A = ℕ} (eqb v f) k 0) (cond {A = ℕ} (eqb v t) k 0)
    (none v vb)
    (moved_at es f t k v (omega arith) (omega arith))
    (cond-false {A = ℕ} (eqb v f) k 0 (ne_eqb v f ne))

remaining_few : (net : NetworkModel) (es : List ℤ) (f t k : ℕ) → length es ≡ node_count net → none_at es (node_count net) → f < node_count net → t < node_count net → remaining_units net (at_nodes (moved es f t k)) ≤ k
remaining_few net es f t k size none fb tb =
    let n = node_count net in
    let e' = at_nodes (moved es f t k) in
    let here : up (e' f) ≤ k = up_few (at_nodes es f) (e' f) (cond {A = ℕ} (eqb f f) k 0) (cond {A = ℕ} (eqb f t) k 0) k (none f fb) (moved_at es f t k f (omega arith) (omega arith)) (chosen_few (eqb f f) k) in
    let sums : remaining_units net e' + 0 ≡ sum_below n (λ _. 0) + up (e' f) =
    sum_below-changed n f (λ v. up (e' v)) (λ _. 0) fb
    (λ v b ne. up_none (at_nodes es v) (e' v) (cond {A = ℕ} (eqb v f) k 0) (cond {A = ℕ} (eqb v t) k 0) (none v b) (moved_at es f t k v (omega arith) (omega arith)) (cond-false {A = ℕ} (eqb v f) k 0 (ne_eqb v f ne))) in
    omega (arith, sum_below-none n (λ _. 0) (λ i b. refl))

wanting_is : (b : Bool) (k : ℕ) → 0 < cond {A = ℕ} b k 0 → b ≡ true
wanting_is true k h = refl
wanting_is false k h = absurd (omega arith)

pub moved_round : (net : NetworkModel) (x : ℕ → ℕ) (p p' : ℕ → ℤ) (es : List ℤ) (f t k : ℕ) → IsNetwork net → IsRound net x p (at_nodes es) → length es ≡ node_count net → none_at es (node_count net) → f < node_count net → t < node_count net → k ≤ MAX_SUPPLY
    → ((v : ℕ) → v < node_count net → p' v ≡ p v -ℤ p t)
    → ((v : ℕ) → v < node_count net → (pos 0 ≤ℤ (p' v +ℤ pos (2 * node_count net))) × (p' v ≤ℤ pos (2 * node_count net)))
    → ((i : ℕ) → i < arc_count net → x i + k ≤ MAX_CARRIED)
    → IsRound (shifted net f t k) x p' (at_nodes (moved es f t k))
moved_round net x p p' es f t k nw r size none fb tb few base low capacity =
    let n = node_count net in
    let long : length (moved net.supplies f t k) ≡ n = length-moved net.supplies f t k in
    let e' = at_nodes (moved es f t k) in
    let at : (v : ℕ) → e' v ≡ at_nodes es v +ℤ delta f t k v = λ v. moved_at es f t k v (omega arith) (omega arith) in
    record {
      leaves = record {
        at_node = λ v b.
            let vb : v < n = omega arith in
            still_leaves (net_outflow net x v) (at_nodes es v) (e' v) (supply_at net v) (supply_at (shifted net f t k) v) (delta f t k v)
            (r.leaves.at_node v vb) (at v) (moved_at net.supplies f t k v fb tb);
      };
      caps = r.caps;
      priced = record {
        residual = λ i back b res. same_cost (unit_cost net i back) (p (start_of net i back)) (p (end_of net i back)) (p' (start_of net i back)) (p' (end_of net i back)) (p t)
            (base (start_of net i back) (start_in net i back nw.ends b)) (base (end_of net i back) (end_in net i back nw.ends b)) (r.priced.residual i back b res);
      };
      low = λ v b. let vb : v < n = omega arith in subst (λ (m : ℕ). (pos 0 ≤ℤ (p' v +ℤ pos (2 * m))) × (p' v ≤ℤ pos (2 * m))) (sym long) (low v vb);
      zero = λ v b w.
          let vb : v < n = omega arith in
          let some : 0 < cond {A = ℕ} (eqb v t) k 0 = some_less (at_nodes es v) (e' v) (cond {A = ℕ} (eqb v f) k 0) (cond {A = ℕ} (eqb v t) k 0) (none v vb) (at v) w in
          let same : v ≡ t = eqb-true v t (wanting_is (eqb v t) k some) in
          subst (λ (u : ℕ). p' u ≡ pos 0) (sym same) (own_base (p' t) (p t) (base t tb));
      in_range = λ v b.
          let vb : v < n = omega arith in
          fair_delta (at_nodes es v) (e' v) (cond {A = ℕ} (eqb v f) k 0) (cond {A = ℕ} (eqb v t) k 0) (none v vb) (at v)
          (omega (arith, chosen_few (eqb v f) k)) (omega (arith, chosen_few (eqb v t) k));
      capacity = λ i b.
          let over : remaining_units (shifted net f t k) e' ≤ k = subst (λ (m : ℕ). sum_below m (λ v. up (e' v)) ≤ k) (sym long) (remaining_few net es f t k size none fb tb) in
          omega (arith, capacity i b);
    }

-- ---- the residual arcs stay as they are

pub linked_still : (net : NetworkModel) (first : List ℕ) (arcs : List ResidualArc) (f t k : ℕ) → IsLinked (node_count net) first arcs → IsLinked (node_count (shifted net f t k)) first arcs
linked_still net first arcs f t k l = rw (length-moved net.supplies f t k) l

-- nothing is left over where it is so at the one node and at all others
pub over_none : (es : List ℤ) (n s : ℕ) → ((v : ℕ) → v < n → v ≢ s → at_nodes es v ≤ℤ pos 0) → at_nodes es s ≤ℤ pos 0 → (v : ℕ) → v < n → at_nodes es v ≤ℤ pos 0
over_none es n s others here v b =
    elim (cases_eq v s) [
      | inl e ↦ subst (λ (u : ℕ). at_nodes es u ≤ℤ pos 0) (sym e) here
      | inr ne ↦ others v b ne
    ]

-- ---- where nothing is left over or wanting, the flow is one of least cost

none_over : (e : ℤ) → e ≡ pos 0 → e ≤ℤ pos 0
none_over e h = omega (arith, ints)

none_wanting : (e : ℤ) → e ≡ pos 0 → pos 0 ≤ℤ e
none_wanting e h = omega (arith, ints)

pub sent_flow : (net : NetworkModel) (x : ℕ → ℕ) (p e : ℕ → ℤ) → IsRound net x p e → ((v : ℕ) → v < node_count net → e v ≡ pos 0) → Flow net x
sent_flow net x p e r sent = flow_at net x e r.caps r.leaves (λ v b. none_over (e v) (sent v b)) (λ v b. none_wanting (e v) (sent v b))

pub solves_at : (net : NetworkModel) (x : ℕ → ℕ) (p e : ℕ → ℤ) (solved : SolvedModel) → IsNetwork net → IsRound net x p e → ((v : ℕ) → v < node_count net → e v ≡ pos 0) → length solved.flow ≡ arc_count net → length solved.potential ≡ node_count net → ((i : ℕ) → i < arc_count net → amounts solved.flow i ≡ x i) → ((v : ℕ) → at_nodes solved.potential v ≡ p v) → Solves net solved
solves_at net x p e solved n r sent flows potentials same prices =
    let flow : Flow net (amounts solved.flow) = flow_same net x (amounts solved.flow) same (sent_flow net x p e r sent) in
    let own : HasPotentials net (amounts solved.flow) p = potentials_same net x (amounts solved.flow) p same r.priced in
    let priced : HasPotentials net (amounts solved.flow) (at_nodes solved.potential) = record {
      residual = λ i back b res. same_unit_cost (unit_cost net i back) (p (start_of net i back)) (p (end_of net i back)) (at_nodes solved.potential (start_of net i back)) (at_nodes solved.potential (end_of net i back)) (prices (start_of net i back)) (prices (end_of net i back)) (own.residual i back b res);
    } in
    record {
      flow_count = flows;
      potential_count = potentials;
      flow = flow;
      potentials = priced;
      least = least_by_potentials net (amounts solved.flow) (at_nodes solved.potential) n.ends flow priced;
    }

pub shown_at : (net : NetworkModel) (x : ℕ → ℕ) (ps : List ℤ) (e : ℕ → ℤ) (cost : ℕ) → IsNetwork net → IsRound net x (at_nodes ps) e → ((v : ℕ) → v < node_count net → e v ≡ pos 0) → length ps ≡ node_count net → cost ≡ cost_of net x → IsShown net cost ps
shown_at net x ps e cost n r sent size is =
    let flow : Flow net x = sent_flow net x (at_nodes ps) e r sent in
    record {
      count = size;
      amounts = x;
      flow = flow;
      potentials = r.priced;
      least = least_by_potentials net x (at_nodes ps) n.ends flow r.priced;
      costs = sym is;
    }

-- the lists of a flow have the sizes that its network needs after supplies have moved
pub sized_moved : (net : NetworkModel) (l l' : Solver) (f t k : ℕ) → IsReady net l → HasSuppliesInRange (shifted net f t k) → l'.residual ≡ l.residual → length l'.nodes.potential.items ≡ length l.nodes.potential.items → l'.nodes.excess ≡ l.nodes.excess → l'.visits ≡ l.visits → IsSized (shifted net f t k) l'
sized_moved net l l' f t k r in_range re pe ee he =
    let long : length (moved net.supplies f t k) ≡ node_count net = length-moved net.supplies f t k in
    record {
      network = still_network net f t k r.network in_range;
      capacity = record {
        starts = rw re (r.residual.linked.starts ∙ sym long);
        arc_size = rw re r.residual.filled.arc_size;
        capacities_size = rw re r.residual.capacities_size;
      };
      potentials = omega (arith, r.potentials);
      excesses = rw ee (omega (arith, r.excesses));
      labels = rw he (omega (arith, r.labels));
      unlabelled = λ v b. rw he (r.unlabelled v (omega (arith, long, b)));
    }

-- confined potentials can be lowered by one of them
pub low_bounds : (n : ℕ) (z : ℤ) → n ≤ MAX_NODES → (pos 0 ≤ℤ (z +ℤ pos (2 * n))) × (z ≤ℤ pos (2 * n)) → ((pos 0 -ℤ pos (2 * MAX_NODES)) ≤ℤ z) × (z ≤ℤ pos (2 * MAX_NODES))
low_bounds n z s (a, b) = (grind (arith, ints), grind (arith, ints))

-- a flow that stands, after supplies have moved and potentials were lowered by one of them
pub ready_moved : (net : NetworkModel) (l : Solver) (potential excess : List ℤ) (f t k : ℕ) → IsAllSent net l → HasSuppliesInRange (shifted net f t k) → f < node_count net → t < node_count net → k ≤ MAX_SUPPLY
    → ((v : ℕ) → v < node_count net → at_nodes potential v ≡ at_nodes l.nodes.potential.items v -ℤ at_nodes l.nodes.potential.items t)
    → ((v : ℕ) → v < node_count net → (pos 0 ≤ℤ (at_nodes potential v +ℤ pos (2 * node_count net))) × (at_nodes potential v ≤ℤ pos (2 * node_count net)))
    → ((i : ℕ) → i < arc_count net → flow_of l.residual i + k ≤ MAX_CARRIED)
    → length potential ≡ length l.nodes.potential.items → excess ≡ moved l.nodes.excess.items f t k
    → IsReadyIn (shifted net f t k) l.residual potential excess l.visits.items
ready_moved net l potential excess f t k st in_range fb tb few base low capacity pe ee =
    let r = st.ready in
    let w = r.residual.filled in
    let long : length (moved net.supplies f t k) ≡ node_count net = length-moved net.supplies f t k in
    let wide : length (moved l.nodes.excess.items f t k) ≡ length l.nodes.excess.items = length-moved l.nodes.excess.items f t k in
    let here : IsResidualNetwork (shifted net f t k) l.residual = record {
      linked = linked_still net l.residual.first.items l.residual.arcs.items f t k r.residual.linked;
      filled = record { arc_size = w.arc_size; end = λ i b c. w.end i b c; cost = λ i b c. w.cost i b c; fits = λ i b. w.fits i b };
      capacities_size = r.residual.capacities_size;
      limits = λ i b. r.residual.limits i b;
    } in
    record {
      network = still_network net f t k r.network in_range;
      residual = here;
      potentials = omega (arith, r.potentials);
      excesses = rw ee (omega (arith, r.excesses));
      labels = omega (arith, r.labels);
      round = rw ee (moved_round net (flow_of l.residual) (at_nodes l.nodes.potential.items) (at_nodes potential) l.nodes.excess.items f t k r.network r.round r.excesses st.sent fb tb few base low capacity);
      unlabelled = λ v b. r.unlabelled v (omega arith);
    }
