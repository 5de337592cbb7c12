-- From the residual arcs of a flow to a search, and from a search to new potentials and a path.
use Rattle.std.proofs.Common.{length, zero, suc, ◌≡◌, ◌≢◌, ◌≤◌, ◌<◌, ◌⊎◌, ℕ, ◌+◌, ◌*◌, Bool, true, false, ◌&&◌, cond, eqb, ltb, refl, sym, ◌∙◌, ap, subst, inl, inr, arith, List}
use Rattle.std.proofs.Math.Path.{fun_ext}
use Rattle.std.specs.Prelude.{ℤ, pos, negsuc, ◌+ℤ◌, ◌-ℤ◌, ◌≤ℤ◌, ◌<ℤ◌}
use Rattle.std.proofs.lemmas.Bool.{cases_eq, cases_lt, cases_Bool, eq-eqb, ne_eqb, eqb-true, lt-ltb, ltb-true, cond-false, and_parts, and_from}
use Rattle.std.proofs.lemmas.Int.{ints, to_z-of_z}
use mir.Syntax.{w16, w32}
use mir.Val.{of_z, to_z}
use Rattle.min_cost_flow.specs.declared.network.TheConstants.{MAX_NODES}
use Rattle.min_cost_flow.specs.declared.residual_network.TheConstants.{SATURATED}
use lib.Signed.{lt_z}
use Rattle.common.specs.Sums.{sum_below}
use Rattle.common.proofs.Sums.{sum_below-le, sum_below-constant}
use Rattle.min_cost_flow.specs.declared.network.Cap.{Cap}
use Rattle.min_cost_flow.specs.declared.network.Cap.TheVariants.{AtMost, Any}
use Rattle.min_cost_flow.specs.declared.residual_network.ResidualArc.{ResidualArc}
use Rattle.min_cost_flow.specs.Networks.{NetworkModel, node_count, arc_count, arc_at, HasUnitCosts, IsNetwork}
use Rattle.min_cost_flow.specs.Flow.{IsUnsaturated, IsResidual, HasPotentials, start_of, end_of, unit_cost, reduced_cost}
use Rattle.min_cost_flow.specs.declared.warm_start.TheConstants.{MAX_CARRIED}
use Rattle.min_cost_flow.specs.Round.{IsRound}
use Rattle.min_cost_flow.specs.declared.residual_network.Residual.{Residual}
use Rattle.min_cost_flow.specs.Flow.{at_nodes}
use Rattle.min_cost_flow.specs.declared.dijkstra.Search.{Search}
use Rattle.min_cost_flow.specs.declared.dijkstra.Visit.{Visit}
use Rattle.min_cost_flow.specs.SolverState.{IsReadyIn, CanAugmentIn, IsCleared}
use Rattle.min_cost_flow.specs.ResidualArcs.{start_at, end_at, cost_at, reverse_of, capacity_at, StartsAt, out_degree, number_of, units_of, AreResidualArcs, carried}
use Rattle.min_cost_flow.specs.Search.{far, IsArcCost, HasResidualCapacity, IsGraph, AreFeasiblePotentials, IsNear, IsReached, IsHit, IsNearest, AreFeasible, IsRemaining, IsPut, IsWithinFar, looked, place_at, labels, predecessors, orders, places}
use Rattle.min_cost_flow.specs.Path.{HasTightPath}
use Rattle.min_cost_flow.specs.Overfull.{IsOverfull}
use Rattle.min_cost_flow.proofs.OverfullSets.{overfull_where_closed}
use Rattle.min_cost_flow.proofs.Ends.{start_in, end_in}
use Rattle.min_cost_flow.proofs.Links.{reverse_twice, reverse_below, number_parts, arc_below, start_is, starts_there, some_start}
use Rattle.min_cost_flow.proofs.Signs.{plain_lt, fits_within, label_fits}
use Rattle.min_cost_flow.proofs.Comparisons.{lt_true}
use Rattle.min_cost_flow.proofs.Reaching.{below_or_not, not_less}

-- ---- costs, capacities and residual arcs

unit_cost_low : (net : NetworkModel) (i : ℕ) (back : Bool) → HasUnitCosts net → i < arc_count net → (negsuc 0 ≤ℤ unit_cost net i back) × (unit_cost net i back ≤ℤ pos 1)
unit_cost_low net i false costs b = (omega (arith, ints), omega (arith, ints, costs i b))
unit_cost_low net i true costs b = (omega (arith, ints, costs i b), omega (arith, ints))

code_when : (r : ℕ) (c z : ℤ) → z ≡ cond (eqb r 0) (c +ℤ SATURATED) c → (negsuc 0 ≤ℤ c) × (c ≤ℤ pos 1) → ((r ≡ 0) × (z ≡ c +ℤ SATURATED)) ⊎ ((0 < r) × (z ≡ c))
code_when zero c z h b = inl (refl, h)
code_when (suc r) c z h b = inr (omega arith, h ∙ cond-false {A = ℤ} (eqb (suc r) 0) (c +ℤ SATURATED) c (ne_eqb (suc r) 0 (λ t. absurd (omega arith))))

saturated_cost : (c z : ℤ) → z ≡ c +ℤ SATURATED → (negsuc 0 ≤ℤ c) × (c ≤ℤ pos 1) → ((SATURATED -ℤ pos 1) ≤ℤ z) × (z ≤ℤ (SATURATED +ℤ pos 1))
saturated_cost c z h (a, b) = (omega (arith, ints), omega (arith, ints))

not_open : (c z : ℤ) → z ≡ c +ℤ SATURATED → (negsuc 0 ≤ℤ c) × (c ≤ℤ pos 1) → z ≤ℤ pos 1 → ⊥
not_open c z h (a, b) o = omega (arith, ints)

-- the cost of residual arc (i, back): what a unit costs where something fits, and more where nothing does
pub code_cases : (net : NetworkModel) (capacity : ℕ → ℕ) (arcs : List ResidualArc) (i : ℕ) (back : Bool) → IsNetwork net → AreResidualArcs net capacity arcs → i < arc_count net → ((capacity (number_of i back) ≡ 0) × (cost_at arcs (number_of i back) ≡ unit_cost net i back +ℤ SATURATED)) ⊎ ((0 < capacity (number_of i back)) × (cost_at arcs (number_of i back) ≡ unit_cost net i back))
code_cases net capacity arcs i back k f b = code_when (capacity (number_of i back)) (unit_cost net i back) (cost_at arcs (number_of i back)) (f.cost i back b) (unit_cost_low net i back k.costs b)

unsaturated_capacity : (c : Cap) (r x : ℕ) → r + x ≡ units_of c → x ≤ MAX_CARRIED → IsUnsaturated c x → 0 < r
unsaturated_capacity (AtMost k) r x h l o = omega arith
unsaturated_capacity Any r x h l o = let big : units_of Any ≡ 1073741824 = refl in omega arith

capacity_unsaturated : (c : Cap) (r x : ℕ) → r + x ≡ units_of c → 0 < r → IsUnsaturated c x
capacity_unsaturated (AtMost k) r x h o = omega arith
capacity_unsaturated Any r x h o = tt

pub has_residual : (net : NetworkModel) (capacity : ℕ → ℕ) (arcs : List ResidualArc) (i : ℕ) (back : Bool) → AreResidualArcs net capacity arcs → i < arc_count net → carried capacity i ≤ MAX_CARRIED → IsResidual net (carried capacity) i back → 0 < capacity (number_of i back)
has_residual net capacity arcs i false f b l r = unsaturated_capacity (arc_at net i).cap (capacity (number_of i false)) (carried capacity i) (f.fits i b) l r
has_residual net capacity arcs i true f b l r = r

pub with_capacity : (net : NetworkModel) (capacity : ℕ → ℕ) (arcs : List ResidualArc) (i : ℕ) (back : Bool) → AreResidualArcs net capacity arcs → i < arc_count net → 0 < capacity (number_of i back) → IsResidual net (carried capacity) i back
with_capacity net capacity arcs i false f b o = capacity_unsaturated (arc_at net i).cap (capacity (number_of i false)) (carried capacity i) (f.fits i b) o
with_capacity net capacity arcs i true f b o = o

-- a residual arc along which something fits has capacity, and its cost is what a unit costs
pub unit_cost_open : (net : NetworkModel) (capacity : ℕ → ℕ) (arcs : List ResidualArc) (i : ℕ) (back : Bool) → IsNetwork net → AreResidualArcs net capacity arcs → i < arc_count net → 0 < capacity (number_of i back) → (cost_at arcs (number_of i back) ≡ unit_cost net i back) × HasResidualCapacity arcs (number_of i back)
unit_cost_open net capacity arcs i back k f b o =
    elim (code_cases net capacity arcs i back k f b) [
      | inl h ↦ absurd (omega (arith, h.0))
      | inr h ↦ (h.1, subst (λ (z : ℤ). z ≤ℤ pos 1) (sym h.1) (unit_cost_low net i back k.costs b).1)
    ]

-- and along an unsaturated one something fits
pub open_unit_cost : (net : NetworkModel) (capacity : ℕ → ℕ) (arcs : List ResidualArc) (i : ℕ) (back : Bool) → IsNetwork net → AreResidualArcs net capacity arcs → i < arc_count net → HasResidualCapacity arcs (number_of i back) → (0 < capacity (number_of i back)) × (cost_at arcs (number_of i back) ≡ unit_cost net i back)
open_unit_cost net capacity arcs i back k f b o =
    elim (code_cases net capacity arcs i back k f b) [
      | inl h ↦ absurd (not_open (unit_cost net i back) (cost_at arcs (number_of i back)) h.1 (unit_cost_low net i back k.costs b) o)
      | inr h ↦ h
    ]

pub is_graph : (net : NetworkModel) (capacity : ℕ → ℕ) (arcs : List ResidualArc) → IsNetwork net → AreResidualArcs net capacity arcs → IsGraph (node_count net) arcs
is_graph net capacity arcs k f = record {
  nodes = k.small.0;
  few = omega (arith, k.small, f.arc_size);
  end = λ j b.
      let (i, back, e) = number_parts j in
      let inside : i < arc_count net = arc_below (arc_count net) j i back e (omega (arith, f.arc_size)) in
      subst (λ (t : ℕ). end_at arcs t < node_count net) e (subst (λ (t : ℕ). t < node_count net) (sym (f.end i back inside)) (end_in net i back k.ends inside));
  cost = λ j b.
      let (i, back, e) = number_parts j in
      let inside : i < arc_count net = arc_below (arc_count net) j i back e (omega (arith, f.arc_size)) in
      let unit = unit_cost_low net i back k.costs inside in
      subst (λ (t : ℕ). IsArcCost (cost_at arcs t)) e (elim (code_cases net capacity arcs i back k f inside) [
        | inl h ↦ inr (saturated_cost (unit_cost net i back) (cost_at arcs (number_of i back)) h.1 unit)
        | inr h ↦ inl (subst (λ (z : ℤ). (negsuc 0 ≤ℤ z) × (z ≤ℤ pos 1)) (sym h.1) unit)
      ]);
}

-- reduced costs by number, and by arc
pub reduced_by_number : (net : NetworkModel) (capacity : ℕ → ℕ) (arcs : List ResidualArc) (p : ℕ → ℤ) → IsNetwork net → AreResidualArcs net capacity arcs → HasPotentials net (carried capacity) p → (k : ℕ) → k < length arcs → HasResidualCapacity arcs k → pos 0 ≤ℤ (cost_at arcs k +ℤ p (start_at arcs k) -ℤ p (end_at arcs k))
reduced_by_number net capacity arcs p n f h k b op =
    let (i, back, e) = number_parts k in
    let inside : i < arc_count net = arc_below (arc_count net) k i back e (omega (arith, f.arc_size)) in
    let j : ℕ = number_of i back in
    let here : HasResidualCapacity arcs j = subst (λ (t : ℕ). HasResidualCapacity arcs t) (sym e) op in
    let (fits, unit_is) = open_unit_cost net capacity arcs i back n f inside here in
    let red : pos 0 ≤ℤ reduced_cost net p i back = h.residual i back inside (with_capacity net capacity arcs i back f inside fits) in
    let at : pos 0 ≤ℤ (cost_at arcs j +ℤ p (start_at arcs j) -ℤ p (end_at arcs j)) = rw (unit_is, start_is net capacity arcs i back f inside, f.end i back inside) red in
    subst (λ (t : ℕ). pos 0 ≤ℤ (cost_at arcs t +ℤ p (start_at arcs t) -ℤ p (end_at arcs t))) e at

pub potentials_by_arc : (net : NetworkModel) (capacity : ℕ → ℕ) (arcs : List ResidualArc) (p : ℕ → ℤ) → IsNetwork net → AreResidualArcs net capacity arcs → ((i : ℕ) → i < arc_count net → carried capacity i ≤ MAX_CARRIED) → ((v k : ℕ) → v < node_count net → StartsAt arcs v k → HasResidualCapacity arcs k → pos 0 ≤ℤ (cost_at arcs k +ℤ p v -ℤ p (end_at arcs k))) → HasPotentials net (carried capacity) p
potentials_by_arc net capacity arcs p n f few h = record {
  residual = λ i back b r.
      let fits : 0 < capacity (number_of i back) = has_residual net capacity arcs i back f b (few i b) r in
      let (unit_is, op) = unit_cost_open net capacity arcs i back n f b fits in
      let red : pos 0 ≤ℤ (cost_at arcs (number_of i back) +ℤ p (start_of net i back) -ℤ p (end_at arcs (number_of i back))) = h (start_of net i back) (number_of i back) (start_in net i back n.ends b) (starts_there net capacity arcs i back f b) op in
      rw (unit_is, f.end i back b) at red;
}

pub is_priced : (net : NetworkModel) (capacity : ℕ → ℕ) (arcs : List ResidualArc) (p e : ℕ → ℤ) → IsNetwork net → AreResidualArcs net capacity arcs → IsRound net (carried capacity) p e → AreFeasiblePotentials (node_count net) arcs p e
is_priced net capacity arcs p e n f r = record {
  reduced = reduced_by_number net capacity arcs p n f r.priced;
  low = r.low;
  zero = r.zero;
}

-- ---- new potentials

-- the potentials p' after a search that found something: labels less the bound where a node was scanned
pub record IsMovedTo (n : ℕ) (p p' q : ℕ → ℤ) (place : ℕ → ℕ) (scanned : ℕ) (bound : ℤ) : Type 0 where
  pub are_scanned : (v : ℕ) → v < n → q v <ℤ far → place v < scanned → p' v ≡ q v -ℤ bound
  pub unlabelled : (v : ℕ) → v < n → far ≤ℤ q v → p' v ≡ p v
  pub behind : (v : ℕ) → v < n → q v <ℤ far → scanned ≤ place v → p' v ≡ p v

pub moved_to : (n : ℕ) (arcs : List ResidualArc) (p p' e : ℕ → ℤ) (s : ℕ) (q : ℕ → ℤ) (predecessor order place : ℕ → ℕ) (scanned ordered reached : ℕ) (radius bound : ℤ) → IsReached n arcs p e s q predecessor order place scanned ordered reached radius → ((j : ℕ) → j < scanned → p' (order j) ≡ q (order j) -ℤ bound) → ((v : ℕ) → ((j : ℕ) → j < scanned → order j ≢ v) → p' v ≡ p v) → IsMovedTo n p p' q place scanned bound
moved_to n arcs p p' e s q predecessor order place scanned ordered reached radius bound r moved others =
    let le : scanned ≤ reached = omega (arith, r.counts) in
    record {
      are_scanned = λ v b l h. let back : order (place v) ≡ v = (r.listed v b l).1 in subst (λ (t : ℕ). p' t ≡ q t -ℤ bound) back (moved (place v) h);
      unlabelled = λ v b l. others v (λ j h t. not_less (q v) far (subst (λ (i : ℕ). q i <ℤ far) t (r.has_label j (omega arith))) l);
      behind = λ v b l h. others v (λ j d t. let at : place v ≡ j = ap place (sym t) ∙ r.at j (omega arith) in absurd (omega arith));
    }

below_label : (p' p q radius bound : ℤ) → p' ≡ q -ℤ bound → (q -ℤ p) ≤ℤ radius → radius ≤ℤ bound → p' ≤ℤ p
below_label p' p q radius bound h a b = omega (arith, ints)

remaining_label : (p' p q bound : ℤ) → p' ≡ p → bound ≤ℤ (q -ℤ p) → p' ≤ℤ (q -ℤ bound)
remaining_label p' p q bound h a = omega (arith, ints)

same_below : (a b : ℤ) → a ≡ b → a ≤ℤ b
same_below a b h = omega (arith, ints)

pub potentials_fall : (n : ℕ) (arcs : List ResidualArc) (p p' e : ℕ → ℤ) (s : ℕ) (q : ℕ → ℤ) (predecessor order place : ℕ → ℕ) (scanned ordered reached : ℕ) (radius bound : ℤ) (k : ℕ) → IsReached n arcs p e s q predecessor order place scanned ordered reached radius → IsNearest n arcs p e s q place scanned radius bound k → IsMovedTo n p p' q place scanned bound → (v : ℕ) → v < n → p' v ≤ℤ p v
potentials_fall n arcs p p' e s q predecessor order place scanned ordered reached radius bound k r near m v b =
    elim (below_or_not (q v) far) [
      | inl l ↦ elim (cases_lt (place v) scanned) [
        | inl h ↦ below_label (p' v) (p v) (q v) radius bound (m.are_scanned v b l h) (r.under v b l (omega (arith, r.counts))) near.above
        | inr h ↦ same_below (p' v) (p v) (m.behind v b l h)
      ]
      | inr f ↦ same_below (p' v) (p v) (m.unlabelled v b f)
    ]

labels_fall : (n : ℕ) (p p' q : ℕ → ℤ) (place : ℕ → ℕ) (scanned : ℕ) (bound : ℤ) → IsMovedTo n p p' q place scanned bound → IsRemaining n p q place scanned bound → (v : ℕ) → v < n → q v <ℤ far → p' v ≤ℤ (q v -ℤ bound)
labels_fall n p p' q place scanned bound m remaining v b l =
    elim (cases_lt (place v) scanned) [
      | inl h ↦ same_below (p' v) (q v -ℤ bound) (m.are_scanned v b l h)
      | inr h ↦ remaining_label (p' v) (p v) (q v) bound (m.behind v b l h) (remaining v b l h)
    ]

both_lower : (c a b b' : ℤ) → pos 0 ≤ℤ (c +ℤ a -ℤ b) → b' ≤ℤ b → pos 0 ≤ℤ (c +ℤ a -ℤ b')
both_lower c a b b' h k = omega (arith, ints)

far_end : (c a q b b' bound : ℤ) → a ≡ q -ℤ bound → bound ≤ℤ (q +ℤ c -ℤ b) → b' ≤ℤ b → pos 0 ≤ℤ (c +ℤ a -ℤ b')
far_end c a q b b' bound h k l = omega (arith, ints)

near_end : (c a q qe b' bound : ℤ) → a ≡ q -ℤ bound → qe ≤ℤ (q +ℤ c) → b' ≤ℤ (qe -ℤ bound) → pos 0 ≤ℤ (c +ℤ a -ℤ b')
near_end c a q qe b' bound h k l = omega (arith, ints)

label_step : (ps q c qe : ℤ) (n h : ℕ) → n ≤ MAX_NODES → h ≤ n → ps ≤ℤ pos (2 * n) → IsNear ps h q → c ≤ℤ pos 1 → qe ≤ℤ (q +ℤ c) → qe <ℤ far
label_step ps q c qe n h small le low (a, b) o k = omega (arith, ints)

pub moved_priced : (n : ℕ) (arcs : List ResidualArc) (p p' e : ℕ → ℤ) (s : ℕ) (q : ℕ → ℤ) (predecessor order place : ℕ → ℕ) (scanned ordered reached : ℕ) (radius bound : ℤ) (f : ℕ) → IsGraph n arcs → AreFeasiblePotentials n arcs p e → IsReached n arcs p e s q predecessor order place scanned ordered reached radius → IsNearest n arcs p e s q place scanned radius bound f → AreFeasible n arcs p q place bound scanned → IsRemaining n p q place scanned bound → IsMovedTo n p p' q place scanned bound → (v k : ℕ) → v < n → StartsAt arcs v k → HasResidualCapacity arcs k → pos 0 ≤ℤ (cost_at arcs k +ℤ p' v -ℤ p' (end_at arcs k))
moved_priced n arcs p p' e s q predecessor order place scanned ordered reached radius bound f g pr r near sv remaining m v k b st op =
    let eb : end_at arcs k < n = g.end k st.inside in
    let fall : p' (end_at arcs k) ≤ℤ p (end_at arcs k) = potentials_fall n arcs p p' e s q predecessor order place scanned ordered reached radius bound f r near m (end_at arcs k) eb in
    let old : p' v ≡ p v → pos 0 ≤ℤ (cost_at arcs k +ℤ p' v -ℤ p' (end_at arcs k)) = λ t. subst (λ (z : ℤ). pos 0 ≤ℤ (cost_at arcs k +ℤ z -ℤ p' (end_at arcs k))) (sym t) (both_lower (cost_at arcs k) (p v) (p (end_at arcs k)) (p' (end_at arcs k)) (subst (λ (u : ℕ). pos 0 ≤ℤ (cost_at arcs k +ℤ p u -ℤ p (end_at arcs k))) st.start (pr.reduced k st.inside op)) fall) in
    elim (below_or_not (q v) far) [
      | inl l ↦ elim (cases_lt (place v) scanned) [
        | inl h ↦ elim (below_or_not (q v +ℤ cost_at arcs k -ℤ p (end_at arcs k)) bound) [
          | inl near ↦
              let less : q (end_at arcs k) ≤ℤ (q v +ℤ cost_at arcs k) = sv.served v k b l h st op near in
              let le : scanned ≤ n = omega (arith, r.counts) in
              let given_label : q (end_at arcs k) <ℤ far = label_step (p s) (q v) (cost_at arcs k) (q (end_at arcs k)) n scanned g.nodes le (pr.low s r.root.0).1 (r.near v b l) op less in
              near_end (cost_at arcs k) (p' v) (q v) (q (end_at arcs k)) (p' (end_at arcs k)) bound (m.are_scanned v b l h) less (labels_fall n p p' q place scanned bound m remaining (end_at arcs k) eb given_label)
          | inr away ↦ far_end (cost_at arcs k) (p' v) (q v) (p (end_at arcs k)) (p' (end_at arcs k)) bound (m.are_scanned v b l h) away fall
        ]
        | inr h ↦ old (m.behind v b l h)
      ]
      | inr u ↦ old (m.unlabelled v b u)
    ]

deep_enough : (ps q bound p' : ℤ) (n h : ℕ) → h ≤ n → IsNear ps h q → IsNear ps h bound → p' ≡ q -ℤ bound → pos 0 ≤ℤ (p' +ℤ pos (2 * n))
deep_enough ps q bound p' n h le (a, b) (c, d) k = omega (arith, ints)

low_too : (a b c : ℤ) → a ≤ℤ b → b ≤ℤ c → a ≤ℤ c
low_too a b c h k = omega (arith, ints)

pub moved_low : (n : ℕ) (arcs : List ResidualArc) (p p' e : ℕ → ℤ) (s : ℕ) (q : ℕ → ℤ) (predecessor order place : ℕ → ℕ) (scanned ordered reached : ℕ) (radius bound : ℤ) (f : ℕ) → AreFeasiblePotentials n arcs p e → IsReached n arcs p e s q predecessor order place scanned ordered reached radius → IsNearest n arcs p e s q place scanned radius bound f → bound <ℤ far → IsMovedTo n p p' q place scanned bound → (v : ℕ) → v < n → (pos 0 ≤ℤ (p' v +ℤ pos (2 * n))) × (p' v ≤ℤ pos (2 * n))
moved_low n arcs p p' e s q predecessor order place scanned ordered reached radius bound f pr r near hit m v b =
    let low : p' v ≤ℤ pos (2 * n) = low_too (p' v) (p v) (pos (2 * n)) (potentials_fall n arcs p p' e s q predecessor order place scanned ordered reached radius bound f r near m v b) (pr.low v b).1 in
    let le : scanned ≤ n = omega (arith, r.counts) in
    let old : p' v ≡ p v → pos 0 ≤ℤ (p' v +ℤ pos (2 * n)) = λ t. subst (λ (z : ℤ). pos 0 ≤ℤ (z +ℤ pos (2 * n))) (sym t) (pr.low v b).0 in (
      elim (below_or_not (q v) far) [
        | inl l ↦ elim (cases_lt (place v) scanned) [
          | inl h ↦ deep_enough (p s) (q v) bound (p' v) n scanned le (r.near v b l) (near.hit hit).near (m.are_scanned v b l h)
          | inr h ↦ old (m.behind v b l h)
        ]
        | inr u ↦ old (m.unlabelled v b u)
      ],
      low,
    )

-- a node where units are wanting has no label
pub wanting_far : (n : ℕ) (arcs : List ResidualArc) (p e : ℕ → ℤ) (s : ℕ) (q : ℕ → ℤ) (predecessor order place : ℕ → ℕ) (scanned ordered reached : ℕ) (radius : ℤ) (v : ℕ) → IsReached n arcs p e s q predecessor order place scanned ordered reached radius → v < n → e v <ℤ pos 0 → far ≤ℤ q v
wanting_far n arcs p e s q predecessor order place scanned ordered reached radius v r b w =
    elim (below_or_not (q v) far) [
      | inl l ↦ absurd (not_less (e v) (pos 0) w (r.nonnegative v b l))
      | inr f ↦ f
    ]

-- ---- the round after the potentials have moved

pub moved_round : (net : NetworkModel) (capacity : ℕ → ℕ) (arcs : List ResidualArc) (p p' e : ℕ → ℤ) (s : ℕ) (q : ℕ → ℤ) (predecessor order place : ℕ → ℕ) (scanned ordered reached : ℕ) (radius bound : ℤ) (f : ℕ) → IsNetwork net → AreResidualArcs net capacity arcs → IsRound net (carried capacity) p e → IsReached (node_count net) arcs p e s q predecessor order place scanned ordered reached radius → IsNearest (node_count net) arcs p e s q place scanned radius bound f → AreFeasible (node_count net) arcs p q place bound scanned → IsRemaining (node_count net) p q place scanned bound → bound <ℤ far → IsMovedTo (node_count net) p p' q place scanned bound → IsRound net (carried capacity) p' e
moved_round net capacity arcs p p' e s q predecessor order place scanned ordered reached radius bound f k fl rd r near sv remaining hit m =
    let n = node_count net in
    let g : IsGraph n arcs = is_graph net capacity arcs k fl in
    let pr : AreFeasiblePotentials n arcs p e = is_priced net capacity arcs p e k fl rd in
    record {
      leaves = rd.leaves;
      caps = rd.caps;
      priced = potentials_by_arc net capacity arcs p' k fl (λ i b. omega (arith, rd.capacity i b)) (moved_priced n arcs p p' e s q predecessor order place scanned ordered reached radius bound f g pr r near sv remaining m);
      low = moved_low n arcs p p' e s q predecessor order place scanned ordered reached radius bound f pr r near hit m;
      zero = λ v b w. m.unlabelled v b (wanting_far n arcs p e s q predecessor order place scanned ordered reached radius v r b w) ∙ rd.zero v b w;
      in_range = rd.in_range;
      capacity = rd.capacity;
    }

-- ---- the path

tight_step : (c a b qa qb bound : ℤ) → a ≡ qa -ℤ bound → b ≡ qb -ℤ bound → qb ≡ qa +ℤ c → c +ℤ a -ℤ b ≡ pos 0
tight_step c a b qa qb bound h k l = omega (arith, ints)

tight_end : (c a b qa pb bound : ℤ) → a ≡ qa -ℤ bound → b ≡ pb → bound ≡ qa +ℤ c -ℤ pb → c +ℤ a -ℤ b ≡ pos 0
tight_end c a b qa pb bound h k l = omega (arith, ints)

abbrev on_path : (ℕ → ℕ) → (ℕ → ℕ) → ℕ → ℕ → Bool
on_path order place scanned v = ltb (place v) scanned && eqb (order (place v)) v

is_on : (order place : ℕ → ℕ) (scanned v : ℕ) → place v < scanned → order (place v) ≡ v → on_path order place scanned v ≡ true
is_on order place scanned v h back = and_from (ltb (place v) scanned) (eqb (order (place v)) v) (lt-ltb (place v) scanned h) (eq-eqb (order (place v)) v back)

on_is : (order place : ℕ → ℕ) (scanned v : ℕ) → on_path order place scanned v ≡ true → (place v < scanned) × (order (place v) ≡ v)
on_is order place scanned v h = let (a, b) = and_parts (ltb (place v) scanned) (eqb (order (place v)) v) h in (ltb-true (place v) scanned a, eqb-true (order (place v)) v b)

pub has_path : (n : ℕ) (arcs : List ResidualArc) (p p' e : ℕ → ℤ) (s : ℕ) (q : ℕ → ℤ) (predecessor order place : ℕ → ℕ) (scanned ordered reached : ℕ) (radius bound : ℤ) (f : ℕ) → IsGraph n arcs → IsReached n arcs p e s q predecessor order place scanned ordered reached radius → IsNearest n arcs p e s q place scanned radius bound f → bound <ℤ far → IsMovedTo n p p' q place scanned bound → HasTightPath n arcs p' predecessor place s f
has_path n arcs p p' e s q predecessor order place scanned ordered reached radius bound f g r near hit m =
    let le : scanned ≤ reached = omega (arith, r.counts) in
    let h = near.hit hit in
    let eb : end_at arcs f < n = g.end f h.leaves.inside in
    let off : far ≤ℤ q (end_at arcs f) = wanting_far n arcs p e s q predecessor order place scanned ordered reached radius (end_at arcs f) r eb h.deficit in
    let labelled : (v : ℕ) → on_path order place scanned v ≡ true → (v < n) × (q v <ℤ far) = λ v o. let (a, back) = on_is order place scanned v o in (subst (λ (t : ℕ). t < n) back (r.node (place v) (omega arith)), subst (λ (t : ℕ). q t <ℤ far) back (r.has_label (place v) (omega arith))) in
    let order_s : order 0 ≡ s = ap order (sym r.root.2) ∙ (r.listed s r.root.0 r.root.1).1 in
    record {
      on = on_path order place scanned;
      node = λ v o. (labelled v o).0;
      root_is = λ v o z. sym (on_is order place scanned v o).1 ∙ ap order z ∙ order_s;
      after = λ v o some.
          let (vb, vl) = labelled v o in
          let (vh, back) = on_is order place scanned v o in
          let x = r.entered v vb vl (λ t. let z : place v ≡ 0 = ap place t ∙ r.root.2 in absurd (omega arith)) in
          let xh : place x.start < scanned = x.are_scanned in
          record {
            start = x.start;
            member = is_on order place scanned x.start xh (r.listed x.start x.node x.labelled).1;
            before = x.before;
            step = record {
              leaves = x.leaves;
              has_capacity = x.has_capacity;
              arrives = x.arrives;
              at_zero = tight_step (cost_at arcs (predecessor v)) (p' x.start) (p' v) (q x.start) (q v) bound (m.are_scanned x.start x.node x.labelled xh) (m.are_scanned v vb vl vh) x.label;
            };
          };
      last = h.start;
      member = is_on order place scanned h.start h.are_scanned (r.listed h.start h.node h.labelled).1;
      off = elim (cases_Bool (on_path order place scanned (end_at arcs f))) [
        | inl t ↦ absurd (not_less (q (end_at arcs f)) far (labelled (end_at arcs f) t).1 off)
        | inr t ↦ t
      ];
      step = record {
        leaves = h.leaves;
        has_capacity = h.has_capacity;
        arrives = refl;
        at_zero = tight_end (cost_at arcs f) (p' h.start) (p' (end_at arcs f)) (q h.start) (p (end_at arcs f)) bound (m.are_scanned h.start h.node h.labelled h.are_scanned) (m.unlabelled (end_at arcs f) eb off) h.distance;
      };
    }

-- ---- nothing found

in_reach : (ps q pv : ℤ) (n h : ℕ) → n ≤ MAX_NODES → h ≤ n → ps ≤ℤ pos (2 * n) → IsNear ps h q → pos 0 ≤ℤ (pv +ℤ pos (2 * n)) → (q -ℤ pv) <ℤ far
in_reach ps q pv n h small le low (a, b) d = omega (arith, ints)

in_reach_step : (ps q pe c : ℤ) (n h : ℕ) → n ≤ MAX_NODES → h ≤ n → ps ≤ℤ pos (2 * n) → IsNear ps h q → pos 0 ≤ℤ (pe +ℤ pos (2 * n)) → c ≤ℤ pos 1 → (q +ℤ c -ℤ pe) <ℤ far
in_reach_step ps q pe c n h small le low (a, b) d o = omega (arith, ints)

pub nothing_found : (net : NetworkModel) (capacity : ℕ → ℕ) (arcs : List ResidualArc) (p e : ℕ → ℤ) (s : ℕ) (q : ℕ → ℤ) (predecessor order place : ℕ → ℕ) (scanned ordered reached : ℕ) (radius bound : ℤ) → IsNetwork net → AreResidualArcs net capacity arcs → IsRound net (carried capacity) p e → IsReached (node_count net) arcs p e s q predecessor order place scanned ordered reached radius → AreFeasible (node_count net) arcs p q place bound scanned → IsRemaining (node_count net) p q place scanned bound → bound ≡ far → pos 0 <ℤ e s → IsOverfull net (λ v. lt_z (q v) far)
nothing_found net capacity arcs p e s q predecessor order place scanned ordered reached radius bound k fl rd r sv remaining none over =
    let n = node_count net in
    let le : scanned ≤ n = omega (arith, r.counts) in
    let low : p s ≤ℤ pos (2 * n) = (rd.low s r.root.0).1 in
    let in_set : ℕ → Bool = λ v. lt_z (q v) far in
    let are_scanned : (v : ℕ) → v < n → q v <ℤ far → place v < scanned = λ v b m. elim (cases_lt (place v) scanned) [
      | inl h ↦ h
      | inr h ↦ absurd (not_less (q v -ℤ p v) far (in_reach (p s) (q v) (p v) n scanned k.small.0 le low (r.near v b m) (rd.low v b).0) (subst (λ (z : ℤ). z ≤ℤ (q v -ℤ p v)) none (remaining v b m h)))
    ] in
    overfull_where_closed net (carried capacity) e in_set s k.ends rd.leaves
    (record {
      stays = λ i back b res so.
          let u = start_of net i back in
          let j = number_of i back in
          let ub : u < n = start_in net i back k.ends b in
          let m : q u <ℤ far = plain_lt (q u) far so in
          let fits : 0 < capacity j = has_residual net capacity arcs i back fl b (omega (arith, rd.capacity i b)) res in
          let op : HasResidualCapacity arcs j = (unit_cost_open net capacity arcs i back k fl b fits).1 in
          let st : StartsAt arcs u j = starts_there net capacity arcs i back fl b in
          let ends : end_at arcs j ≡ end_of net i back = fl.end i back b in
          let eb : end_at arcs j < n = subst (λ (t : ℕ). t < n) (sym ends) (end_in net i back k.ends b) in
          let near : (q u +ℤ cost_at arcs j -ℤ p (end_at arcs j)) <ℤ bound = subst (λ (z : ℤ). (q u +ℤ cost_at arcs j -ℤ p (end_at arcs j)) <ℤ z) (sym none) (in_reach_step (p s) (q u) (p (end_at arcs j)) (cost_at arcs j) n scanned k.small.0 le low (r.near u ub m) (rd.low (end_at arcs j) eb).0 op) in
          let less : q (end_at arcs j) ≤ℤ (q u +ℤ cost_at arcs j) = sv.served u j ub m (are_scanned u ub m) st op near in
          subst (λ (t : ℕ). lt_z (q t) far ≡ true) ends (lt_true (q (end_at arcs j)) far (label_step (p s) (q u) (cost_at arcs j) (q (end_at arcs j)) n scanned k.small.0 le low (r.near u ub m) op less));
    })
    (λ v b m. r.nonnegative v b (plain_lt (q v) far m))
    r.root.0 (lt_true (q s) far r.root.1) over

-- ---- each scanned node has a residual arc

-- the end of a residual arc has one of its own
has_own : (net : NetworkModel) (capacity : ℕ → ℕ) (arcs : List ResidualArc) (u k : ℕ) → AreResidualArcs net capacity arcs → StartsAt arcs u k → 0 < out_degree arcs (end_at arcs k)
has_own net capacity arcs u k f st =
    some_start arcs (end_at arcs k) (reverse_of k)
    (record {
      inside = omega (arith, f.arc_size, reverse_below (arc_count net) k (omega (arith, st.inside, f.arc_size)));
      start = ap (end_at arcs) (reverse_twice k);
    })

root_out_degree : (n : ℕ) (arcs : List ResidualArc) (p e : ℕ → ℤ) (s : ℕ) (q : ℕ → ℤ) (predecessor order place : ℕ → ℕ) (scanned ordered reached : ℕ) (radius : ℤ) (b v : ℕ) → IsReached n arcs p e s q predecessor order place scanned ordered reached radius → place v < b → v < n → q v <ℤ far → v ≢ s → 0 < out_degree arcs s
root_out_degree n arcs p e s q predecessor order place scanned ordered reached radius zero v r less vb l ne = absurd (omega arith)
root_out_degree n arcs p e s q predecessor order place scanned ordered reached radius (suc b) v r less vb l ne =
    let x = r.entered v vb l ne in
    let before : place x.start < place v = x.before in
    elim (cases_eq x.start s) [
      | inl t ↦ some_start arcs s (predecessor v) (subst (λ (i : ℕ). StartsAt arcs i (predecessor v)) t x.leaves)
      | inr d ↦ root_out_degree n arcs p e s q predecessor order place scanned ordered reached radius b x.start r (omega arith) x.node x.labelled d
    ]

one_each : (net : NetworkModel) (capacity : ℕ → ℕ) (arcs : List ResidualArc) (p e : ℕ → ℤ) (s : ℕ) (q : ℕ → ℤ) (predecessor order place : ℕ → ℕ) (scanned ordered reached : ℕ) (radius bound : ℤ) (f : ℕ) → AreResidualArcs net capacity arcs → IsReached (node_count net) arcs p e s q predecessor order place scanned ordered reached radius → IsHit (node_count net) arcs p e s q place scanned bound f → (v : ℕ) → v < node_count net → q v <ℤ far → 0 < out_degree arcs v
one_each net capacity arcs p e s q predecessor order place scanned ordered reached radius bound f fl r h v b m =
    elim (cases_eq v s) [
      | inl t ↦ subst (λ (i : ℕ). 0 < out_degree arcs i) (sym t) (elim (cases_eq h.start s) [
        | inl d ↦ some_start arcs s f (subst (λ (i : ℕ). StartsAt arcs i f) d h.leaves)
        | inr d ↦ root_out_degree (node_count net) arcs p e s q predecessor order place scanned ordered reached radius (place h.start + 1) h.start r (omega arith) h.node h.labelled d
      ])
      | inr ne ↦
          let x = r.entered v b m ne in
          subst (λ (i : ℕ). 0 < out_degree arcs i) x.arrives (has_own net capacity arcs x.start (predecessor v) fl x.leaves)
    ]

-- so a search that finds something looks at no fewer residual arcs than it scans nodes
pub many_looks : (net : NetworkModel) (capacity : ℕ → ℕ) (arcs : List ResidualArc) (p e : ℕ → ℤ) (s : ℕ) (q : ℕ → ℤ) (predecessor order place : ℕ → ℕ) (scanned ordered reached : ℕ) (radius bound : ℤ) (f : ℕ) → AreResidualArcs net capacity arcs → IsReached (node_count net) arcs p e s q predecessor order place scanned ordered reached radius → IsHit (node_count net) arcs p e s q place scanned bound f → scanned ≤ looked arcs order scanned
many_looks net capacity arcs p e s q predecessor order place scanned ordered reached radius bound f fl r h =
    let le : scanned ≤ reached = omega (arith, r.counts) in
    let more : sum_below scanned (λ _. 1) ≤ looked arcs order scanned = sum_below-le scanned (λ _. 1) (λ j. out_degree arcs (order j)) (λ j b. one_each net capacity arcs p e s q predecessor order place scanned ordered reached radius bound f fl r h (order j) (r.node j (omega arith)) (r.has_label j (omega arith))) in
    omega (arith, sum_below-constant scanned 1)

-- the path has no more residual arcs than that
pub path_looks : (net : NetworkModel) (capacity : ℕ → ℕ) (arcs : List ResidualArc) (p e : ℕ → ℤ) (s : ℕ) (q : ℕ → ℤ) (predecessor order place : ℕ → ℕ) (scanned ordered reached : ℕ) (radius bound : ℤ) (f : ℕ) → AreResidualArcs net capacity arcs → IsReached (node_count net) arcs p e s q predecessor order place scanned ordered reached radius → IsHit (node_count net) arcs p e s q place scanned bound f → place (start_at arcs f) + 1 ≤ looked arcs order scanned
path_looks net capacity arcs p e s q predecessor order place scanned ordered reached radius bound f fl r h =
    let last : place (start_at arcs f) ≡ place h.start = ap place h.leaves.start in
    let scan : place h.start < scanned = h.are_scanned in
    omega (arith, many_looks net capacity arcs p e s q predecessor order place scanned ordered reached radius bound f fl r h)

-- labels and the bound fit
pub label_bounds : (n h : ℕ) (ps z : ℤ) → n ≤ MAX_NODES → h ≤ n → IsNear ps h z → (pos 0 ≤ℤ (ps +ℤ pos (2 * n))) × (ps ≤ℤ pos (2 * n)) → IsWithinFar z
label_bounds n h ps z small le (a, b) (c, d) = (omega (arith, ints), omega (arith, ints))

-- ---- writing along a list

below_other : (order : ℕ → ℕ) (i j : ℕ) → i < j + 1 → order i ≢ order j → i < j
below_other order i j b ne = elim (cases_lt i j) [ inl h ↦ h | inr h ↦ absurd (ne (ap order (omega arith))) ]

pub moved_more : (p p₀ p' q : ℕ → ℤ) (order : ℕ → ℕ) (j : ℕ) (bound : ℤ) → IsPut p p' (order j) (q (order j) -ℤ bound) → ((i : ℕ) → i < j → p (order i) ≡ q (order i) -ℤ bound) → ((i : ℕ) → i < j + 1 → p' (order i) ≡ q (order i) -ℤ bound)
moved_more p p₀ p' q order j bound put done i b =
    elim (cases_eq (order i) (order j)) [
      | inl t ↦ subst (λ (v : ℕ). p' v ≡ q v -ℤ bound) (sym t) put.here
      | inr ne ↦ put.others (order i) ne ∙ done i (below_other order i j b ne)
    ]

both_far : (a : ℤ) → a ≤ℤ far → far ≤ℤ a → a ≡ far
both_far a h k = omega (arith, ints)

pub all_cleared : (n : ℕ) (arcs : List ResidualArc) (p e : ℕ → ℤ) (s : ℕ) (q q' : ℕ → ℤ) (predecessor order place : ℕ → ℕ) (scanned ordered reached : ℕ) (radius : ℤ) → IsReached n arcs p e s q predecessor order place scanned ordered reached radius → ((j : ℕ) → j < reached → q' (order j) ≡ far) → ((v : ℕ) → q v ≡ far → q' v ≡ far) → (v : ℕ) → v < n → q' v ≡ far
all_cleared n arcs p e s q q' predecessor order place scanned ordered reached radius r cleared others v b =
    elim (below_or_not (q v) far) [
      | inl l ↦ let (a, back) = r.listed v b l in subst (λ (t : ℕ). q' t ≡ far) back (cleared (place v) a)
      | inr f ↦ others v (both_far (q v) (r.most v b) f)
    ]

-- the potentials have moved and the labels are taken away, so units can be sent along the path
pub can_augment : (net : NetworkModel) (r : Residual) (potential excess potential' : List ℤ) (visits visits' : List Visit) (root : ℕ) (t t' : Search) → IsReadyIn net r potential excess visits → root < node_count net → pos 0 <ℤ at_nodes excess root
    → length t.visits.now ≡ length potential
    → IsGraph (length potential) r.arcs.items
    → IsReached (length potential) r.arcs.items (at_nodes potential) (at_nodes excess) root (labels t) (predecessors t) (orders t) (places t) t.scanned t.ordered t.reached t.radius
    → IsNearest (length potential) r.arcs.items (at_nodes potential) (at_nodes excess) root (labels t) (places t) t.scanned t.radius t.bound t.found
    → AreFeasible (length potential) r.arcs.items (at_nodes potential) (labels t) (places t) t.bound t.scanned
    → IsRemaining (length potential) (at_nodes potential) (labels t) (places t) t.scanned t.bound
    → t.bound <ℤ far
    → ((j : ℕ) → j < t.scanned → at_nodes potential' (orders t j) ≡ labels t (orders t j) -ℤ t.bound)
    → ((v : ℕ) → ((j : ℕ) → j < t.scanned → orders t j ≢ v) → at_nodes potential' v ≡ at_nodes potential v)
    → length potential' ≡ length potential
    → IsCleared t t' → visits' ≡ t'.visits.now
    → CanAugmentIn net r potential' excess visits' t'.found root
can_augment net res potential excess potential' visits visits' root t t' r b over size g h near sv remaining hit moved others same q list =
    let n = r.potentials in
    let arcs = res.arcs.items in
    let capacities = res.capacities.items in
    let p = at_nodes potential in
    let p' = at_nodes potential' in
    let x = at_nodes excess in
    let m = moved_to _ _ _ p' _ _ _ _ _ _ _ _ _ _ t.bound h moved others in
    let re = subst (λ (k : ℕ). IsReached k arcs p x root (labels t) (predecessors t) (orders t) (places t) t.scanned t.ordered t.reached t.radius) n h in
    let nt = subst (λ (k : ℕ). IsNearest k arcs p x root (labels t) (places t) t.scanned t.radius t.bound t.found) n near in
    let sn = subst (λ (k : ℕ). AreFeasible k arcs p (labels t) (places t) t.bound t.scanned) n sv in
    let ln = subst (λ (k : ℕ). IsRemaining k p (labels t) (places t) t.scanned t.bound) n remaining in
    let mn = subst (λ (k : ℕ). IsMovedTo k p p' (labels t) (places t) t.scanned t.bound) n m in
    let path = has_path _ _ _ p' _ _ _ _ _ _ _ _ _ _ _ t.found g h near hit m in
    let way = subst (λ (k : ℕ). HasTightPath k arcs p' (predecessors t) (places t) root t.found) n path in
    let round = moved_round net (capacity_at capacities) arcs p p' x root (labels t) (predecessors t) (orders t) (places t) t.scanned t.ordered t.reached t.radius t.bound t.found r.network r.residual.filled r.round re nt sn ln hit mn in
    record {
      ready = record {
        network = r.network;
        residual = r.residual;
        potentials = same ∙ n;
        excesses = r.excesses;
        labels = ap length list ∙ q.size ∙ size ∙ n;
        round = round;
        unlabelled = λ v c. rw list (all_cleared _ _ _ _ _ _ (labels t') _ _ _ _ _ _ _ h q.cleared q.others v (omega arith));
      };
      path = rw (list, fun_ext q.predecessor, fun_ext q.place, q.found) way;
      root = b;
      remaining = over;
      deficit = rw q.found (near.hit hit).deficit;
    }

-- the path that was found has no more residual arcs than the search looked at
pub short_path : (visits : List Visit) (t t' : Search) (arcs : List ResidualArc) (looks looks' : ℕ) → IsCleared t t' → visits ≡ t'.visits.now
    → places t (start_at arcs t.found) + 1 ≤ looked arcs (orders t) t.scanned → looks' ≡ looks + looked arcs (orders t) t.scanned
    → looks + place_at visits (start_at arcs t'.found) + 1 ≤ looks'
short_path visits t t' arcs looks looks' q list short e =
    rw (list, q.found, q.place (start_at arcs t.found)) (omega (arith, short, e))

-- the label that was read less the bound, as it is written
pub put_label : (p p' : ℕ → ℤ) (v : ℕ) (z bound : ℤ) → IsWithinFar z → IsWithinFar bound → IsPut p p' v (to_z w16 (of_z w16 z) -ℤ to_z w32 (of_z w32 bound)) → IsPut p p' v (z -ℤ bound)
put_label p p' v z bound a b put = rw (to_z-of_z w16 z (label_fits z a), to_z-of_z w32 bound (fits_within bound b)) at put
