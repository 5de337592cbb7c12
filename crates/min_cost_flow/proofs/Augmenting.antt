-- Sending along a path: what one push changes, and what pushes along the path from its end leave.
use Rattle.std.proofs.Common.{◌≡◌, ◌≢◌, ◌≤◌, ◌<◌, ℕ, suc, min, ◌+◌, cond, eqb, Bool, true, false, refl, sym, ◌∙◌, ap, subst, inl, inr, arith, List}
use Rattle.std.specs.Prelude.{ℤ, pos, negsuc, ◌+ℤ◌, ◌-ℤ◌, ◌≤ℤ◌, ◌<ℤ◌}
use Rattle.std.proofs.lemmas.Bool.{both_ways, cases_eq, cases_lt, eq-eqb, ne_eqb, cond-true, cond-false}
use Rattle.std.proofs.lemmas.Int.{ints}
use Rattle.min_cost_flow.specs.declared.network.TheConstants.{MAX_SUPPLY}
use Rattle.min_cost_flow.specs.declared.residual_network.TheConstants.{SATURATED}
use Rattle.common.proofs.Sums.{sum_below-same, sum_below-changed}
use Rattle.min_cost_flow.specs.declared.network.Cap.{Cap}
use Rattle.min_cost_flow.specs.declared.network.Cap.TheVariants.{AtMost, Any}
use Rattle.min_cost_flow.specs.declared.residual_network.ResidualArc.{ResidualArc}
use Rattle.min_cost_flow.specs.Networks.{NetworkModel, node_count, arc_count, arc_at, HasUnitCosts, IsNetwork}
use Rattle.min_cost_flow.specs.Flow.{outflow, inflow, IsWithinCap, IsUnsaturated, IsResidual, HasPotentials, start_of, end_of, unit_cost, reduced_cost}
use Rattle.min_cost_flow.specs.declared.dijkstra.Visit.{Visit}
use Rattle.min_cost_flow.specs.Search.{predecessor_at, place_at, no_visit}
use Rattle.std.proofs.lemmas.List.{get_or_read}
use Rattle.std.specs.Prelude.{length, slice_index_or}
use Rattle.min_cost_flow.specs.Excess.{IsWithinCaps, Carries}
use Rattle.min_cost_flow.specs.Residual.{IsMoved}
use Rattle.min_cost_flow.specs.declared.residual_network.Residual.{Residual}
use Rattle.min_cost_flow.specs.ResidualArcs.{start_at, end_at, cost_at, reverse_of, capacity_at, number_of, units_of, AreResidualArcs, carried}
use Rattle.min_cost_flow.specs.Residuals.{IsResidualNetwork}
use Rattle.min_cost_flow.specs.Path.{IsTight, HasTightPath, path_node, IsOnPath}
use Rattle.min_cost_flow.specs.Round.{IsLess, carrying}
use Rattle.min_cost_flow.specs.declared.solver.Solver.{Solver}
use Rattle.min_cost_flow.specs.SolverState.{potential_at, predecessors_in, places_in, CanAugment, HasUnitCost, IsPaired, IsPushedAlong}
use Rattle.min_cost_flow.proofs.Ends.{end_in, unit_cost_most}
use Rattle.min_cost_flow.proofs.Links.{other_way, reverse_is, reverse_below, reverse_apart, number_parts, number_alone, arc_below, stems_from_arc, linked_same}
use Rattle.min_cost_flow.proofs.Changes.{SameBut, moved_carries, carried_leaves, potentials_stay}
use Rattle.min_cost_flow.proofs.Rounds.{IsSent, remaining_falls}

-- ---- what is read of a visit

pub place_read : (visits : List Visit) (v : ℕ) (x : Visit) → v < length visits → x ≡ slice_index_or visits v x → x.place ≡ place_at visits v
place_read visits v x b e = ap (λ (y : Visit). y.place) (get_or_read visits v x b e no_visit)

pub enter_read : (visits : List Visit) (v : ℕ) (x : Visit) → v < length visits → x ≡ slice_index_or visits v x → x.predecessor ≡ predecessor_at visits v
enter_read visits v x b e = ap (λ (y : Visit). y.predecessor) (get_or_read visits v x b e no_visit)

-- ---- one push

-- what a push along residual arc k changes
pub record IsPushed (capacity capacity' : ℕ → ℕ) (k amount : ℕ) : Type 0 where
  pub less : capacity' k + amount ≡ capacity k
  pub more : capacity' (reverse_of k) ≡ capacity (reverse_of k) + amount
  pub others : (j : ℕ) → j ≢ k → j ≢ reverse_of k → capacity' j ≡ capacity j

reverse_place : (k : ℕ) (i : ℕ) (back : Bool) → number_of i back ≡ k → reverse_of k ≡ number_of i (other_way back)
reverse_place k i back e = ap reverse_of (sym e) ∙ reverse_is i back

unit_cost_least : (net : NetworkModel) (i : ℕ) (back : Bool) → HasUnitCosts net → i < arc_count net → negsuc 0 ≤ℤ unit_cost net i back
unit_cost_least net i false costs b = omega (arith, ints)
unit_cost_least net i true costs b = omega (arith, ints, costs i b)

-- the cost of a residual arc along which r fits, where a unit costs z
coded : ℤ → ℕ → ℤ
coded z r = cond (eqb r 0) (z +ℤ SATURATED) z

coded_none : (z : ℤ) (r : ℕ) → r ≡ 0 → coded z r ≡ z +ℤ SATURATED
unfolding coded
coded_none z r h = cond-true {A = ℤ} (eqb r 0) (z +ℤ SATURATED) z (eq-eqb r 0 h)

coded_some : (z : ℤ) (r : ℕ) → 0 < r → coded z r ≡ z
unfolding coded
coded_some z r h = cond-false {A = ℤ} (eqb r 0) (z +ℤ SATURATED) z (ne_eqb r 0 (λ e. omega arith))

code_is : (net : NetworkModel) (capacity : ℕ → ℕ) (arcs : List ResidualArc) (i : ℕ) (back : Bool) → AreResidualArcs net capacity arcs → i < arc_count net → cost_at arcs (number_of i back) ≡ coded (unit_cost net i back) (capacity (number_of i back))
unfolding coded
code_is net capacity arcs i back f b = f.cost i back b

-- what fits along a residual arc and its reverse
both_fit : (net : NetworkModel) (capacity : ℕ → ℕ) (arcs : List ResidualArc) (i : ℕ) (back : Bool) → AreResidualArcs net capacity arcs → i < arc_count net → capacity (number_of i back) + capacity (number_of i (other_way back)) ≡ units_of (arc_at net i).cap
unfolding other_way
both_fit net capacity arcs i false f b = f.fits i b
both_fit net capacity arcs i true f b = omega (arith, f.fits i b)

cost_in : (net : NetworkModel) (r : Residual) (i : ℕ) (back : Bool) → IsNetwork net → IsResidualNetwork net r → i < arc_count net → HasUnitCost r (number_of i back)
cost_in net r i back n s b = (unit_cost net i back, unit_cost_least net i back n.costs b, unit_cost_most net i back n.costs b, s.filled.cost i back b)

-- each residual arc has a reverse
pub is_paired : (net : NetworkModel) (r : Residual) (k : ℕ) → IsNetwork net → IsResidualNetwork net r → k < length r.arcs.items → IsPaired r k
is_paired net r k n s b =
    let f = s.filled in
    let (i, back, place) = number_parts k in
    let low : k < arc_count net + arc_count net = omega (arith, f.arc_size) in
    let inside : i < arc_count net = arc_below (arc_count net) k i back place low in
    let e : reverse_of k ≡ number_of i (other_way back) = reverse_place k i back place in
    let there : capacity_at r.capacities.items (reverse_of k) ≡ capacity_at r.capacities.items (number_of i (other_way back)) = ap (capacity_at r.capacities.items) e in
    let here : capacity_at r.capacities.items (number_of i back) ≡ capacity_at r.capacities.items k = ap (capacity_at r.capacities.items) place in
    record {
      sizes = s.capacities_size ∙ sym f.arc_size;
      here = b;
      there = omega (arith, f.arc_size, reverse_below (arc_count net) k low);
      apart = reverse_apart k;
      cost = subst (λ (t : ℕ). HasUnitCost r t) place (cost_in net r i back n s inside);
      back_cost = subst (λ (t : ℕ). HasUnitCost r t) (sym e) (cost_in net r i (other_way back) n s inside);
      capacity = omega (arith, both_fit net (capacity_at r.capacities.items) r.arcs.items i back f inside, s.limits i inside);
    }

-- ---- what a push keeps

moved_fits : (a b a' b' m k : ℕ) → a + b ≡ k → a' + m ≡ a → b' ≡ b + m → a' + b' ≡ k
moved_fits a b a' b' m k h x y = omega arith

-- the capacities along and against an arc, in either order
either_order : (capacity : ℕ → ℕ) (i k : ℕ) (b : Bool) → capacity (number_of i b) + capacity (number_of i (other_way b)) ≡ k → capacity (number_of i false) + capacity (number_of i true) ≡ k
unfolding other_way
either_order capacity i k false h = h
either_order capacity i k true h = omega arith

pushed_fits : (net : NetworkModel) (capacity capacity' : ℕ → ℕ) (arcs : List ResidualArc) (i j : ℕ) (b : Bool) (k amount : ℕ) → AreResidualArcs net capacity arcs → i < arc_count net → number_of i b ≡ k → IsPushed capacity capacity' k amount → j < arc_count net → capacity' (number_of j false) + capacity' (number_of j true) ≡ units_of (arc_at net j).cap
pushed_fits net capacity capacity' arcs i j b k amount f inside e s inside' =
    let back = reverse_place k i b e in
    elim (cases_eq j i) [
      | inl q ↦
          subst (λ (t : ℕ). capacity' (number_of t false) + capacity' (number_of t true) ≡ units_of (arc_at net t).cap) (sym q)
          (either_order capacity' i (units_of (arc_at net i).cap) b
          (moved_fits (capacity (number_of i b)) (capacity (number_of i (other_way b))) (capacity' (number_of i b)) (capacity' (number_of i (other_way b))) amount (units_of (arc_at net i).cap) (both_fit net capacity arcs i b f inside)
          (subst (λ (t : ℕ). capacity' t + amount ≡ capacity t) (sym e) s.less)
          (subst (λ (t : ℕ). capacity' t ≡ capacity t + amount) back s.more)))
      | inr ne ↦
          let same : (c : Bool) → capacity' (number_of j c) ≡ capacity (number_of j c) =
          λ c. s.others (number_of j c) (λ h. ne (number_alone j i c b (h ∙ sym e)).0) (λ h. ne (number_alone j i c (other_way b) (h ∙ back)).0) in
          omega (arith, same false, same true, f.fits j inside')
    ]

pub was_pushed : (r r' : Residual) (k amount : ℕ) → IsPushedAlong r r' k amount → IsPushed (capacity_at r.capacities.items) (capacity_at r'.capacities.items) k amount
was_pushed r r' k amount s = record { less = s.less; more = s.more; others = s.others }

-- the residual arcs are still those of the network
pub pushed_network : (net : NetworkModel) (r r' : Residual) (k amount : ℕ) → IsResidualNetwork net r → k < length r.arcs.items → IsPushedAlong r r' k amount → IsResidualNetwork net r'
pushed_network net r r' k amount s b p =
    let f = s.filled in
    let (i, back, place) = number_parts k in
    let inside : i < arc_count net = arc_below (arc_count net) k i back place (omega (arith, f.arc_size)) in
    record {
      linked = rw p.first (linked_same (node_count net) r.first.items r.arcs.items r'.arcs.items p.arc_size p.ends p.nexts s.linked);
      filled = record {
        arc_size = p.arc_size ∙ f.arc_size;
        end = λ j c h. p.ends (number_of j c) ∙ f.end j c h;
        cost = λ j c h. p.costs (number_of j c) (unit_cost net j c) (f.cost j c h);
        fits = λ j h. pushed_fits net (capacity_at r.capacities.items) (capacity_at r'.capacities.items) r.arcs.items i j back k amount f inside place (was_pushed r r' k amount p) h;
      };
      capacities_size = p.capacities_size ∙ s.capacities_size;
      limits = s.limits;
    }

-- ---- what a push does to the amounts that the arcs carry

-- y differs from x at i alone, among the arcs
abbrev pub SameOthers : NetworkModel → ℕ → (ℕ → ℕ) → (ℕ → ℕ) → Type 0
SameOthers net i x y = (j : ℕ) → j < arc_count net → j ≢ i → y j ≡ x j

carries_same : (net : NetworkModel) (x y : ℕ → ℕ) (e : ℕ → ℤ) (v k : ℕ) → ((i : ℕ) → i < arc_count net → y i ≡ x i) → Carries net x e v k → Carries net y e v k
carries_same net x y e v k same c = record {
  at_node = λ w b.
      let m = arc_count net in
      let l : outflow net y w ≡ outflow net x w = sum_below-same m (λ i. cond (eqb (arc_at net i).from w) (y i) 0) (λ i. cond (eqb (arc_at net i).from w) (x i) 0) (λ i d. ap (λ (t : ℕ). cond (eqb (arc_at net i).from w) t 0) (same i d)) in
      let n : inflow net y w ≡ inflow net x w = sum_below-same m (λ i. cond (eqb (arc_at net i).to w) (y i) 0) (λ i. cond (eqb (arc_at net i).to w) (x i) 0) (λ i d. ap (λ (t : ℕ). cond (eqb (arc_at net i).to w) t 0) (same i d)) in
      rw (l, n) (c.at_node w b);
}

residual_too : (net : NetworkModel) (x y : ℕ → ℕ) (j : ℕ) (back : Bool) → y j ≡ x j → IsResidual net y j back → IsResidual net x j back
residual_too net x y j false e h = let P : ℕ → Type 0 = λ t. IsUnsaturated (arc_at net j).cap t in subst P e h
residual_too net x y j true e h = omega arith

-- x with another amount at i
changed : ℕ → ℕ → (ℕ → ℕ) → ℕ → ℕ
changed i z x j = cond (eqb j i) z (x j)

changed_here : (i z : ℕ) (x : ℕ → ℕ) → changed i z x i ≡ z
unfolding changed
changed_here i z x = cond-true {A = ℕ} (eqb i i) z (x i) (eq-eqb i i refl)

changed_others : (i z : ℕ) (x : ℕ → ℕ) → SameBut i x (changed i z x)
unfolding changed
changed_others i z x j ne = cond-false {A = ℕ} (eqb j i) z (x j) (ne_eqb j i ne)

is_changed : (net : NetworkModel) (i : ℕ) (x y : ℕ → ℕ) → SameOthers net i x y → (j : ℕ) → j < arc_count net → y j ≡ changed i (y i) x j
is_changed net i x y others j b =
    elim (cases_eq j i) [
      | inl q ↦ ap y q ∙ sym (changed_here i (y i) x) ∙ ap (changed i (y i) x) (sym q)
      | inr ne ↦ others j b ne ∙ sym (changed_others i (y i) x j ne)
    ]

pushed_carries : (net : NetworkModel) (x y : ℕ → ℕ) (e : ℕ → ℤ) (i k : ℕ) (back : Bool) → i < arc_count net → IsMoved back (x i) k (y i) → SameOthers net i x y → Carries net x e (end_of net i back) k → Carries net y e (start_of net i back) k
pushed_carries net x y e i k back b moved others c =
    let z = changed i (y i) x in
    carries_same net z y e (start_of net i back) k (is_changed net i x y others)
    (moved_carries net x z e i k back b (subst (λ (t : ℕ). IsMoved back (x i) k t) (sym (changed_here i (y i) x)) moved) (changed_others i (y i) x) c)

pushed_priced : (net : NetworkModel) (x y : ℕ → ℕ) (p : ℕ → ℤ) (i : ℕ) (back : Bool) → SameOthers net i x y → reduced_cost net p i back ≡ pos 0 → HasPotentials net x p → HasPotentials net y p
pushed_priced net x y p i back others at_zero h =
    let z = changed i (y i) x in
    let stay : HasPotentials net z p = potentials_stay net x z p i back (changed_others i (y i) x) at_zero h in
    record { residual = λ j other b r. stay.residual j other b (residual_too net z y j other (is_changed net i x y others j b) r) }

one_most : (b : Bool) → cond b 0 1 ≤ 1
one_most true = omega arith
one_most false = omega arith

-- one arc more carries units, at most
carrying_more : (net : NetworkModel) (x y : ℕ → ℕ) (i : ℕ) → i < arc_count net → SameOthers net i x y → carrying net y ≤ carrying net x + 1
carrying_more net x y i b others =
    let sums : carrying net y + cond (eqb (x i) 0) 0 1 ≡ carrying net x + cond (eqb (y i) 0) 0 1 =
    sum_below-changed (arc_count net) i (λ j. cond (eqb (y j) 0) 0 1) (λ j. cond (eqb (x j) 0) 0 1) b (λ j c ne. ap (λ (t : ℕ). cond (eqb t 0) 0 1) (others j c ne)) in
    omega (arith, one_most (eqb (y i) 0))

moved_most : (back : Bool) (was amount is : ℕ) → IsMoved back was amount is → is ≤ was + amount
moved_most false was amount is h = omega arith
moved_most true was amount is h = omega arith

-- ---- the pushes along the path, from its end on

-- pushes have brought an amount from node v to the end of the path, and changed no arc between nodes of
-- the path that are no further on than v
pub record IsSending (net : NetworkModel) (p e : ℕ → ℤ) (on : ℕ → Bool) (place : ℕ → ℕ) (x y : ℕ → ℕ) (v amount most : ℕ) : Type 0 where
  pub carries : Carries net y e v amount
  pub priced : HasPotentials net y p
  pub kept : (i : ℕ) → i < arc_count net → on (arc_at net i).from ≡ true → on (arc_at net i).to ≡ true → place (arc_at net i).from ≤ place v → place (arc_at net i).to ≤ place v → y i ≡ x i
  pub grown : (i : ℕ) → i < arc_count net → y i ≤ x i + amount
  pub few : carrying net y + place v ≤ most

end_beyond : (net : NetworkModel) (on : ℕ → Bool) (place : ℕ → ℕ) (i u v : ℕ) (back : Bool) → end_of net i back ≡ v → (on v ≡ true → place u < place v) → on (arc_at net i).from ≡ true → on (arc_at net i).to ≡ true → place (arc_at net i).from ≤ place u → place (arc_at net i).to ≤ place u → ⊥
end_beyond net on place i u v false e beyond a b c d =
    let h : place u < place (arc_at net i).to = subst (λ (t : ℕ). on t ≡ true → place u < place t) (sym e) beyond b in
    omega arith
end_beyond net on place i u v true e beyond a b c d =
    let h : place u < place (arc_at net i).from = subst (λ (t : ℕ). on t ≡ true → place u < place t) (sym e) beyond a in
    omega arith

pub sent_on : (net : NetworkModel) (p e : ℕ → ℤ) (on : ℕ → Bool) (place : ℕ → ℕ) (x y z : ℕ → ℕ) (i : ℕ) (back : Bool) (u v amount most : ℕ) → i < arc_count net → IsMoved back (y i) amount (z i) → SameOthers net i y z → reduced_cost net p i back ≡ pos 0 → start_of net i back ≡ u → end_of net i back ≡ v → y i ≡ x i → (on v ≡ true → place u < place v) → ((j : ℕ) → j < arc_count net → on (arc_at net j).from ≡ true → on (arc_at net j).to ≡ true → place (arc_at net j).from ≤ place u → place (arc_at net j).to ≤ place u → y j ≡ x j) → Carries net y e v amount → HasPotentials net y p → ((j : ℕ) → j < arc_count net → y j ≤ x j + amount) → carrying net y + place u + 1 ≤ most → IsSending net p e on place x z u amount most
sent_on net p e on place x y z i back u v amount most b moved others at_zero start finish own beyond kept carries priced grown few = record {
  carries = subst (λ (t : ℕ). Carries net z e t amount) start (pushed_carries net y z e i amount back b moved others (subst (λ (t : ℕ). Carries net y e t amount) (sym finish) carries));
  priced = pushed_priced net y z p i back others at_zero priced;
  kept = λ j c f t d g. elim (cases_eq j i) [
    | inl q ↦ absurd (end_beyond net on place i u v back finish beyond (subst (λ (n : ℕ). on (arc_at net n).from ≡ true) q f) (subst (λ (n : ℕ). on (arc_at net n).to ≡ true) q t) (subst (λ (n : ℕ). place (arc_at net n).from ≤ place u) q d) (subst (λ (n : ℕ). place (arc_at net n).to ≤ place u) q g))
    | inr ne ↦ others j c ne ∙ kept j c f t d g
  ];
  grown = λ j c. elim (cases_eq j i) [
    | inl q ↦ let most_here : z i ≤ y i + amount = moved_most back (y i) amount (z i) moved in subst (λ (n : ℕ). z n ≤ x n + amount) (sym q) (omega arith)
    | inr ne ↦ let same : z j ≡ y j = others j c ne in omega (arith, grown j c)
  ];
  few = omega (arith, carrying_more net y z i b others);
}

-- ---- one residual arc of the path

-- residual arc k leads from u to v, something fits along it, and it costs nothing
pub record IsTightArc (net : NetworkModel) (capacity : ℕ → ℕ) (p : ℕ → ℤ) (u k v : ℕ) : Type 0 where
  pub arc : ℕ
  pub back : Bool
  pub inside : arc < arc_count net
  pub place : number_of arc back ≡ k
  pub start : start_of net arc back ≡ u
  pub end : end_of net arc back ≡ v
  pub some : 0 < capacity k
  pub at_zero : reduced_cost net p arc back ≡ pos 0

some_coded : (z c : ℤ) (r : ℕ) → negsuc 0 ≤ℤ z → c ≡ coded z r → c ≤ℤ pos 1 → 0 < r
some_coded z c r least e h =
    elim (cases_eq r 0) [
      | inl q ↦ let t : coded z r ≡ z +ℤ SATURATED = coded_none z r q in absurd (omega (arith, ints))
      | inr ne ↦ omega arith
    ]

zero_cost : (c z a b a' b' : ℤ) → c +ℤ a -ℤ b ≡ pos 0 → c ≡ z → a' ≡ a → b' ≡ b → z +ℤ a' -ℤ b' ≡ pos 0
zero_cost c z a b a' b' h e f g = omega (arith, ints)

pub tight_arc_of : (net : NetworkModel) (capacity : ℕ → ℕ) (arcs : List ResidualArc) (p : ℕ → ℤ) (u k v : ℕ) → IsNetwork net → AreResidualArcs net capacity arcs → IsTight arcs p u k v → IsTightArc net capacity p u k v
tight_arc_of net capacity arcs p u k v n f t =
    let o = stems_from_arc net capacity arcs u k f t.leaves in
    let z = unit_cost net o.arc o.back in
    let cost : cost_at arcs k ≡ coded z (capacity k) = subst (λ (q : ℕ). cost_at arcs q ≡ coded z (capacity q)) o.place (code_is net capacity arcs o.arc o.back f o.inside) in
    let some : 0 < capacity k = some_coded z (cost_at arcs k) (capacity k) (unit_cost_least net o.arc o.back n.costs o.inside) cost t.has_capacity in
    let finish : end_of net o.arc o.back ≡ v = sym (f.end o.arc o.back o.inside) ∙ ap (end_at arcs) o.place ∙ t.arrives in
    record {
      arc = o.arc;
      back = o.back;
      inside = o.inside;
      place = o.place;
      start = o.start;
      end = finish;
      some = some;
      at_zero = zero_cost (cost_at arcs k) z (p u) (p v) (p (start_of net o.arc o.back)) (p (end_of net o.arc o.back)) t.at_zero (cost ∙ coded_some z (capacity k) some) (ap p o.start) (ap p finish);
    }

-- what a push does to the amount of its own arc, and to the others
moved_by : (net : NetworkModel) (capacity capacity' : ℕ → ℕ) (i : ℕ) (b : Bool) (k amount : ℕ) → i < arc_count net → number_of i b ≡ k → IsPushed capacity capacity' k amount → IsMoved b (carried capacity i) amount (carried capacity' i)
unfolding other_way
moved_by net capacity capacity' i false k amount b e s = subst (λ (t : ℕ). capacity' t ≡ capacity t + amount) (reverse_place k i false e) s.more
moved_by net capacity capacity' i true k amount b e s = sym (subst (λ (t : ℕ). capacity' t + amount ≡ capacity t) (sym e) s.less)

kept_by : (net : NetworkModel) (capacity capacity' : ℕ → ℕ) (i : ℕ) (b : Bool) (k amount : ℕ) → i < arc_count net → number_of i b ≡ k → IsPushed capacity capacity' k amount → SameOthers net i (carried capacity) (carried capacity')
kept_by net capacity capacity' i b k amount inside e s j c ne =
    s.others (number_of j true)
    (λ h. ne (number_alone j i true b (h ∙ sym e)).0)
    (λ h. ne (number_alone j i true (other_way b) (h ∙ reverse_place k i b e)).0)

-- where an arc carries what it carried, the same fits along it
same_capacity : (net : NetworkModel) (capacity capacity' : ℕ → ℕ) (arcs arcs' : List ResidualArc) (i : ℕ) (back : Bool) → AreResidualArcs net capacity arcs → AreResidualArcs net capacity' arcs' → i < arc_count net → carried capacity' i ≡ carried capacity i → capacity' (number_of i back) ≡ capacity (number_of i back)
same_capacity net capacity capacity' arcs arcs' i true f f' b h = h
same_capacity net capacity capacity' arcs arcs' i false f f' b h = omega (arith, f.fits i b, f'.fits i b)

both_ends : (net : NetworkModel) (on : ℕ → Bool) (place : ℕ → ℕ) (x y : ℕ → ℕ) (i : ℕ) (back : Bool) (u v : ℕ) → start_of net i back ≡ u → end_of net i back ≡ v → on u ≡ true → on v ≡ true → place u < place v → (on (arc_at net i).from ≡ true → on (arc_at net i).to ≡ true → place (arc_at net i).from ≤ place v → place (arc_at net i).to ≤ place v → y i ≡ x i) → y i ≡ x i
both_ends net on place x y i false u v s e a b less kept =
    let f : place (arc_at net i).from ≡ place u = ap place s in
    let t : place (arc_at net i).to ≡ place v = ap place e in
    kept (ap on s ∙ a) (ap on e ∙ b) (omega arith) (omega arith)
both_ends net on place x y i true u v s e a b less kept =
    let t : place (arc_at net i).to ≡ place u = ap place s in
    let f : place (arc_at net i).from ≡ place v = ap place e in
    kept (ap on e ∙ b) (ap on s ∙ a) (omega arith) (omega arith)

arc_kept : (net : NetworkModel) (capacity : ℕ → ℕ) (p e : ℕ → ℤ) (on : ℕ → Bool) (place : ℕ → ℕ) (x y : ℕ → ℕ) (u k v amount most : ℕ) → (t : IsTightArc net capacity p u k v) → on u ≡ true → on v ≡ true → place u < place v → IsSending net p e on place x y v amount most → y t.arc ≡ x t.arc
arc_kept net capacity p e on place x y u k v amount most t a b less s =
    both_ends net on place x y t.arc t.back u v t.start t.end a b less (s.kept t.arc t.inside)

-- what fitted along the next residual arc still does
pub still_fits : (net : NetworkModel) (capacity capacity' : ℕ → ℕ) (arcs arcs' : List ResidualArc) (p e : ℕ → ℤ) (on : ℕ → Bool) (place : ℕ → ℕ) (u k v amount most : ℕ) → AreResidualArcs net capacity arcs → AreResidualArcs net capacity' arcs' → IsTightArc net capacity p u k v → on u ≡ true → on v ≡ true → place u < place v → IsSending net p e on place (carried capacity) (carried capacity') v amount most → amount ≤ capacity k → amount ≤ capacity' k
still_fits net capacity capacity' arcs arcs' p e on place u k v amount most f f' t a b less s fits =
    let own = arc_kept net capacity p e on place (carried capacity) (carried capacity') u k v amount most t a b less s in
    let same : capacity' k ≡ capacity k = subst (λ (q : ℕ). capacity' q ≡ capacity q) t.place (same_capacity net capacity capacity' arcs arcs' t.arc t.back f f' t.inside own) in
    omega arith

-- a push along the next residual arc
pub sending_more : (net : NetworkModel) (capacity capacity' capacity'' : ℕ → ℕ) (p e : ℕ → ℤ) (on : ℕ → Bool) (place : ℕ → ℕ) (u k v amount most : ℕ) → IsTightArc net capacity p u k v → on u ≡ true → on v ≡ true → place u < place v → IsSending net p e on place (carried capacity) (carried capacity') v amount most → IsPushed capacity' capacity'' k amount → IsSending net p e on place (carried capacity) (carried capacity'') u amount most
sending_more net capacity capacity' capacity'' p e on place u k v amount most t a b less s pushed =
    sent_on net p e on place (carried capacity) (carried capacity') (carried capacity'') t.arc t.back u v amount most t.inside
    (moved_by net capacity' capacity'' t.arc t.back k amount t.inside t.place pushed)
    (kept_by net capacity' capacity'' t.arc t.back k amount t.inside t.place pushed)
    t.at_zero t.start t.end
    (arc_kept net capacity p e on place (carried capacity) (carried capacity') u k v amount most t a b less s)
    (λ _. less) (λ j c f g d h. s.kept j c f g (omega arith) (omega arith)) s.carries s.priced s.grown (omega (arith, s.few))

-- the push along the last residual arc
pub sending_first : (net : NetworkModel) (capacity capacity' : ℕ → ℕ) (p e : ℕ → ℤ) (on : ℕ → Bool) (place : ℕ → ℕ) (u k v amount : ℕ) → IsTightArc net capacity p u k v → on v ≡ false → Carries net (carried capacity) e v amount → HasPotentials net (carried capacity) p → IsPushed capacity capacity' k amount → IsSending net p e on place (carried capacity) (carried capacity') u amount (carrying net (carried capacity) + place u + 1)
sending_first net capacity capacity' p e on place u k v amount t off carries priced pushed =
    let x = carried capacity in
    sent_on net p e on place x x (carried capacity') t.arc t.back u v amount (carrying net x + place u + 1) t.inside
    (moved_by net capacity capacity' t.arc t.back k amount t.inside t.place pushed)
    (kept_by net capacity capacity' t.arc t.back k amount t.inside t.place pushed)
    t.at_zero t.start t.end refl
    (λ h. absurd (both_ways (on v) off h)) (λ j c f g d h. refl) carries priced (λ j c. omega arith) (omega arith)

-- ---- the way back along the path

pub path_first : (next place : ℕ → ℕ) (v : ℕ) → IsOnPath next place v v
path_first next place v = record { steps = 0; at = refl; high = λ i b. absurd (omega arith) }

high_more : (next place : ℕ → ℕ) (v k : ℕ) → ((i : ℕ) → i < k → 0 < place (path_node next v i)) → 0 < place (path_node next v k) → (i : ℕ) → i < suc k → 0 < place (path_node next v i)
high_more next place v k high here i b =
    elim (cases_eq i k) [
      | inl q ↦ subst (λ (t : ℕ). 0 < place (path_node next v t)) (sym q) here
      | inr ne ↦ high i (omega arith)
    ]

pub path_more : (next place : ℕ → ℕ) (v w : ℕ) → IsOnPath next place v w → 0 < place w → IsOnPath next place v (next w)
path_more next place v w h some = record {
  steps = suc h.steps;
  at = ap next h.at;
  high = high_more next place v h.steps h.high (subst (λ (t : ℕ). 0 < place t) h.at some);
}

-- an amount fits at each node of the way from v as far as w
pub record IsNarrowed (next place capacity : ℕ → ℕ) (v w amount : ℕ) : Type 0 where
  pub on : IsOnPath next place v w
  pub fits : (i : ℕ) → i < on.steps → amount ≤ capacity (path_node next v i)

pub narrowed_first : (next place capacity : ℕ → ℕ) (v amount : ℕ) → IsNarrowed next place capacity v v amount
unfolding path_first
narrowed_first next place capacity v amount = record { on = path_first next place v; fits = λ i b. absurd (omega arith) }

fits_more : (next capacity : ℕ → ℕ) (v k amount amount' : ℕ) → ((i : ℕ) → i < k → amount ≤ capacity (path_node next v i)) → amount' ≤ amount → amount' ≤ capacity (path_node next v k) → (i : ℕ) → i < suc k → amount' ≤ capacity (path_node next v i)
fits_more next capacity v k amount amount' fits less here i b =
    elim (cases_eq i k) [
      | inl q ↦ subst (λ (t : ℕ). amount' ≤ capacity (path_node next v t)) (sym q) here
      | inr ne ↦ omega (arith, fits i (omega arith))
    ]

pub narrowed_more : (next place capacity : ℕ → ℕ) (v w amount amount' : ℕ) → IsNarrowed next place capacity v w amount → 0 < place w → amount' ≤ amount → amount' ≤ capacity w → IsNarrowed next place capacity v (next w) amount'
unfolding path_more
narrowed_more next place capacity v w amount amount' h some less here = record {
  on = path_more next place v w h.on some;
  fits = fits_more next capacity v h.on.steps amount amount' h.fits less (subst (λ (t : ℕ). amount' ≤ capacity t) h.on.at here);
}

-- once the way has come to place 0 the amount fits everywhere on it
pub narrowed_all : (next place capacity : ℕ → ℕ) (v w amount : ℕ) → IsNarrowed next place capacity v w amount → place w ≡ 0 → (u : ℕ) → IsOnPath next place v u → 0 < place u → amount ≤ capacity u
narrowed_all next place capacity v w amount h none u on some =
    let last : place (path_node next v h.on.steps) ≡ 0 = subst (λ (t : ℕ). place t ≡ 0) h.on.at none in
    elim (cases_lt on.steps h.on.steps) [
      | inl less ↦ subst (λ (t : ℕ). amount ≤ capacity t) (sym on.at) (h.fits on.steps less)
      | inr over ↦ elim (cases_eq on.steps h.on.steps) [
        | inl q ↦
            let at : u ≡ path_node next v h.on.steps = on.at ∙ ap (path_node next v) q in
            let here : place u ≡ place (path_node next v h.on.steps) = ap place at in
            absurd (omega arith)
        | inr ne ↦ let high : 0 < place (path_node next v h.on.steps) = on.high h.on.steps (omega arith) in absurd (omega arith)
      ]
    ]

-- ---- the end

within_limit : (c : Cap) (a b : ℕ) → a + b ≡ units_of c → IsWithinCap c b
within_limit (AtMost k) a b h = omega arith
within_limit Any a b h = tt

pub filled_caps : (net : NetworkModel) (capacity : ℕ → ℕ) (arcs : List ResidualArc) → AreResidualArcs net capacity arcs → IsWithinCaps net (carried capacity)
filled_caps net capacity arcs f i b = within_limit (arc_at net i).cap (capacity (number_of i false)) (capacity (number_of i true)) (f.fits i b)

apart : (e : ℕ → ℤ) (u v : ℕ) → pos 0 <ℤ e u → e v ≤ℤ pos 0 → v ≢ u
apart e u v a b h = let same : e v ≡ e u = ap e h in omega (arith, ints)

under : (z w : ℤ) → z <ℤ w → z ≤ℤ w
under z w h = omega (arith, ints)

same_both : (z w : ℤ) → w ≡ z → z ≤ℤ pos 0 → (z ≤ℤ w) × (w ≤ℤ pos 0)
same_both z w e h = (omega (arith, ints), omega (arith, ints))

raised_both : (z w : ℤ) (k : ℕ) → w ≡ z +ℤ pos k → (z +ℤ pos k) ≤ℤ pos 0 → (z ≤ℤ w) × (w ≤ℤ pos 0)
raised_both z w k e h = (omega (arith, ints), omega (arith, ints))

not_want : (z w : ℤ) → z ≡ w → pos 0 <ℤ z → w <ℤ pos 0 → ⊥
not_want z w e a b = omega (arith, ints)

remaining_there : (z w : ℤ) (k : ℕ) → w ≡ z -ℤ pos k → pos k ≤ℤ z → pos 0 ≤ℤ w
remaining_there z w k e h = omega (arith, ints)

-- an amount went from u to v: from e, by e' where v has it and u still has, to e''
pub sent_all : (net : NetworkModel) (x y : ℕ → ℕ) (e e' e'' : ℕ → ℤ) (u v k : ℕ) → u < node_count net → pos 0 <ℤ e u → e v <ℤ pos 0 → pos k ≤ℤ e u → (e v +ℤ pos k) ≤ℤ pos 0 → IsWithinCaps net y → Carries net y e' u k → e' v ≡ e v +ℤ pos k → ((w : ℕ) → w ≢ v → e' w ≡ e w) → e'' u ≡ e' u -ℤ pos k → ((w : ℕ) → w ≢ u → e'' w ≡ e' w) → ((i : ℕ) → i < arc_count net → y i ≤ x i + k) → IsSent net x y e e'' u k
sent_all net x y e e' e'' u v k node over want remaining short caps carries there others here others' grown =
    let ne : v ≢ u = apart e u v over (under (e v) (pos 0) want) in
    let same : e' u ≡ e u = others u (λ h. ne (sym h)) in
    let here_all : e'' u ≡ e u -ℤ pos k = here ∙ ap (λ (z : ℤ). z -ℤ pos k) same in
    record {
      node = node;
      root = over;
      caps = caps;
      leaves = carried_leaves net y e' e'' u k carries here others';
      here = here_all;
      remaining = remaining_there (e u) (e'' u) k here_all remaining;
      deficit = λ w b h. elim (cases_eq w v) [
        | inl q ↦ subst (λ (t : ℕ). (e t ≤ℤ e'' t) × (e'' t ≤ℤ pos 0)) (sym q) (raised_both (e v) (e'' v) k (others' v ne ∙ there) short)
        | inr d ↦ same_both (e w) (e'' w) (others' w (apart e u w over h) ∙ others w d) h
      ];
      others = λ w b d o. others' w d ∙ others w (λ h. let at : e w ≡ e v = ap e h in not_want (e w) (e v) at o want);
      grown = grown;
    }

pub sent_less : (net : NetworkModel) (x y : ℕ → ℕ) (e e' : ℕ → ℤ) (u k : ℕ) → IsSent net x y e e' u k → 0 < k → IsLess net e e'
sent_less net x y e e' u k s some = record {
  less = omega (arith, remaining_falls net x y e e' u k s);
  done = λ v b h. (s.deficit v b h).1;
}

-- ---- the residual arcs of the path

-- residual arc k, by which node v of the path was entered, leads there from a node of a lesser place
pub record IsStep (net : NetworkModel) (capacity : ℕ → ℕ) (arcs : List ResidualArc) (p : ℕ → ℤ) (on : ℕ → Bool) (place : ℕ → ℕ) (v k : ℕ) : Type 0 where
  pub node : start_at arcs k < node_count net
  pub member : on (start_at arcs k) ≡ true
  pub before : place (start_at arcs k) < place v
  pub inside : k < length arcs
  pub tight_arc : IsTightArc net capacity p (start_at arcs k) k v

pub path_step : (net : NetworkModel) (capacity : ℕ → ℕ) (arcs : List ResidualArc) (p : ℕ → ℤ) (predecessor place : ℕ → ℕ) (root found : ℕ) → IsNetwork net → AreResidualArcs net capacity arcs → (h : HasTightPath (node_count net) arcs p predecessor place root found) → (v : ℕ) → h.on v ≡ true → 0 < place v → IsStep net capacity arcs p h.on place v (predecessor v)
path_step net capacity arcs p predecessor place root found n f h v on some =
    let a = h.after v on some in
    let b : a.start < node_count net = h.node a.start a.member in
    let s : start_at arcs (predecessor v) ≡ a.start = a.step.leaves.start in
    record {
      node = subst (λ (t : ℕ). t < node_count net) (sym s) b;
      member = ap h.on s ∙ a.member;
      before = subst (λ (t : ℕ). place t < place v) (sym s) a.before;
      inside = a.step.leaves.inside;
      tight_arc = subst (λ (t : ℕ). IsTightArc net capacity p t (predecessor v) v) (sym s) (tight_arc_of net capacity arcs p a.start (predecessor v) v n f a.step);
    }

-- the last residual arc of the path leads off it
pub record IsLast (net : NetworkModel) (capacity : ℕ → ℕ) (arcs : List ResidualArc) (p : ℕ → ℤ) (on : ℕ → Bool) (k : ℕ) : Type 0 where
  pub node : start_at arcs k < node_count net
  pub member : on (start_at arcs k) ≡ true
  pub inside : k < length arcs
  pub tight_arc : IsTightArc net capacity p (start_at arcs k) k (end_at arcs k)

pub path_last : (net : NetworkModel) (capacity : ℕ → ℕ) (arcs : List ResidualArc) (p : ℕ → ℤ) (predecessor place : ℕ → ℕ) (root found : ℕ) → IsNetwork net → AreResidualArcs net capacity arcs → (h : HasTightPath (node_count net) arcs p predecessor place root found) → IsLast net capacity arcs p h.on found
path_last net capacity arcs p predecessor place root found n f h =
    let b : h.last < node_count net = h.node h.last h.member in
    let s : start_at arcs found ≡ h.last = h.step.leaves.start in
    record {
      node = subst (λ (t : ℕ). t < node_count net) (sym s) b;
      member = ap h.on s ∙ h.member;
      inside = h.step.leaves.inside;
      tight_arc = subst (λ (t : ℕ). IsTightArc net capacity p t found (end_at arcs found)) (sym s) (tight_arc_of net capacity arcs p h.last found (end_at arcs found) n f h.step);
    }

pub tight_arc_end : (net : NetworkModel) (capacity : ℕ → ℕ) (p : ℕ → ℤ) (u k v : ℕ) → IsNetwork net → IsTightArc net capacity p u k v → v < node_count net
tight_arc_end net capacity p u k v n t = subst (λ (q : ℕ). q < node_count net) t.end (end_in net t.arc t.back n.ends t.inside)

-- the same of the solver's own lists
pub own_step : (net : NetworkModel) (s : Solver) (root : ℕ) → (h : CanAugment net s root) → (v : ℕ) → h.path.on v ≡ true → 0 < places_in s v → IsStep net (capacity_at s.residual.capacities.items) s.residual.arcs.items (potential_at s) h.path.on (places_in s) v (predecessors_in s v)
own_step net s root h v on some =
    path_step net (capacity_at s.residual.capacities.items) s.residual.arcs.items (potential_at s) (predecessors_in s) (places_in s) root s.found h.ready.network h.ready.residual.filled h.path v on some

pub own_last : (net : NetworkModel) (s : Solver) (root : ℕ) → (h : CanAugment net s root) → IsLast net (capacity_at s.residual.capacities.items) s.residual.arcs.items (potential_at s) h.path.on s.found
own_last net s root h =
    path_last net (capacity_at s.residual.capacities.items) s.residual.arcs.items (potential_at s) (predecessors_in s) (places_in s) root s.found h.ready.network h.ready.residual.filled h.path

pub own_end : (net : NetworkModel) (s : Solver) (root : ℕ) → CanAugment net s root → end_at s.residual.arcs.items s.found < node_count net
own_end net s root h = tight_arc_end net (capacity_at s.residual.capacities.items) (potential_at s) (start_at s.residual.arcs.items s.found) s.found (end_at s.residual.arcs.items s.found) h.ready.network (own_last net s root h).tight_arc

pub last_pair : (net : NetworkModel) (s : Solver) (root : ℕ) → CanAugment net s root → IsPaired s.residual s.found
last_pair net s root h = is_paired net s.residual s.found h.ready.network h.ready.residual (own_last net s root h).inside

pub step_pair : (net : NetworkModel) (s : Solver) (root v : ℕ) → (h : CanAugment net s root) → h.path.on v ≡ true → 0 < places_in s v → IsPaired s.residual (predecessors_in s v)
step_pair net s root v h on some = is_paired net s.residual (predecessors_in s v) h.ready.network h.ready.residual (own_step net s root h v on some).inside

-- ---- the least of what fits

pub lesser_some : (a b k : ℕ) → k ≡ min a b → 0 < a → 0 < b → 0 < k
lesser_some a b k h x y = omega arith

pub lesser_remaining : (a k : ℕ) (z : ℤ) → k ≤ a → pos a ≤ℤ z → pos k ≤ℤ z
lesser_remaining a k z h x = omega (arith, ints)

pub lesser_short : (a k : ℕ) (z : ℤ) → k ≤ a → (z +ℤ pos a) ≤ℤ pos 0 → (z +ℤ pos k) ≤ℤ pos 0
lesser_short a k z h x = omega (arith, ints)

pub few_remaining : (z : ℤ) (k : ℕ) → pos k ≤ℤ z → z ≤ℤ pos MAX_SUPPLY → k ≤ MAX_SUPPLY
few_remaining z k h m = omega (arith, ints)
