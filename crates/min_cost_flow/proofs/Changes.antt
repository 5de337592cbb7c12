-- What an amount sent along one residual arc changes, and what it keeps.
use Rattle.std.proofs.Common.{◌≡◌, ◌≢◌, ◌<◌, ℕ, ◌+◌, cond, eqb, Bool, true, false, sym, ap, subst, inl, inr, arith}
use Rattle.std.specs.Prelude.{ℤ, pos, ◌+ℤ◌, ◌-ℤ◌, ◌≤ℤ◌}
use Rattle.std.proofs.lemmas.Bool.{cases_eq, eq-eqb, ne_eqb, cond-true, cond-false}
use Rattle.std.proofs.lemmas.Int.{ints}
use Rattle.common.specs.Sums.{sum_below}
use Rattle.common.proofs.Sums.{sum_below-changed}
use Rattle.min_cost_flow.specs.Networks.{NetworkModel, arc_count, arc_at, supply_at}
use Rattle.min_cost_flow.specs.Flow.{outflow, inflow, net_outflow, IsUnsaturated, IsResidual, HasPotentials, start_of, end_of, reduced_cost}
use Rattle.min_cost_flow.specs.Excess.{HasExcess, Carries}
use Rattle.min_cost_flow.specs.Residual.{IsMoved}

-- y differs from x at most at i
abbrev pub SameBut : ℕ → (ℕ → ℕ) → (ℕ → ℕ) → Type 0
SameBut i x y = (j : ℕ) → j ≢ i → y j ≡ x j

-- ---- conservation

-- the sums of one side of a node, before and after
side_changed : (m i w : ℕ) (at x y : ℕ → ℕ) → i < m → SameBut i x y → sum_below m (λ j. cond (eqb (at j) w) (y j) 0) + cond (eqb (at i) w) (x i) 0 ≡ sum_below m (λ j. cond (eqb (at j) w) (x j) 0) + cond (eqb (at i) w) (y i) 0
side_changed m i w at x y b others =
    sum_below-changed m i (λ j. cond (eqb (at j) w) (y j) 0) (λ j. cond (eqb (at j) w) (x j) 0) b
    (λ j c ne. ap (λ (t : ℕ). cond (eqb (at j) w) t 0) (others j ne))

moved_forward : (f t : Bool) (l l' n n' x y k : ℕ) (e s : ℤ) → y ≡ x + k → l' + cond f x 0 ≡ l + cond f y 0 → n' + cond t x 0 ≡ n + cond t y 0 → (pos l -ℤ pos n) +ℤ e ≡ s +ℤ pos (cond t k 0) → (pos l' -ℤ pos n') +ℤ e ≡ s +ℤ pos (cond f k 0)
moved_forward true true l l' n n' x y k e s h a b c = omega (arith, ints)
moved_forward true false l l' n n' x y k e s h a b c = omega (arith, ints)
moved_forward false true l l' n n' x y k e s h a b c = omega (arith, ints)
moved_forward false false l l' n n' x y k e s h a b c = omega (arith, ints)

moved_backward : (f t : Bool) (l l' n n' x y k : ℕ) (e s : ℤ) → x ≡ y + k → l' + cond f x 0 ≡ l + cond f y 0 → n' + cond t x 0 ≡ n + cond t y 0 → (pos l -ℤ pos n) +ℤ e ≡ s +ℤ pos (cond f k 0) → (pos l' -ℤ pos n') +ℤ e ≡ s +ℤ pos (cond t k 0)
moved_backward true true l l' n n' x y k e s h a b c = omega (arith, ints)
moved_backward true false l l' n n' x y k e s h a b c = omega (arith, ints)
moved_backward false true l l' n n' x y k e s h a b c = omega (arith, ints)
moved_backward false false l l' n n' x y k e s h a b c = omega (arith, ints)

-- k units that have left the end of a residual arc, brought there along it, have left its start
pub moved_carries : (net : NetworkModel) (x y : ℕ → ℕ) (e : ℕ → ℤ) (i k : ℕ) (back : Bool) → i < arc_count net → IsMoved back (x i) k (y i) → SameBut i x y → Carries net x e (end_of net i back) k → Carries net y e (start_of net i back) k
moved_carries net x y e i k false b moved others c = record {
  at_node = λ w d.
      moved_forward (eqb (arc_at net i).from w) (eqb (arc_at net i).to w) (outflow net x w) (outflow net y w) (inflow net x w) (inflow net y w) (x i) (y i) k (e w) (supply_at net w) moved
      (side_changed (arc_count net) i w (λ j. (arc_at net j).from) x y b others)
      (side_changed (arc_count net) i w (λ j. (arc_at net j).to) x y b others) (c.at_node w d);
}
moved_carries net x y e i k true b moved others c = record {
  at_node = λ w d.
      moved_backward (eqb (arc_at net i).from w) (eqb (arc_at net i).to w) (outflow net x w) (outflow net y w) (inflow net x w) (inflow net y w) (x i) (y i) k (e w) (supply_at net w) moved
      (side_changed (arc_count net) i w (λ j. (arc_at net j).from) x y b others)
      (side_changed (arc_count net) i w (λ j. (arc_at net j).to) x y b others) (c.at_node w d);
}

taken_here : (b e e' s : ℤ) (k : ℕ) → b +ℤ e ≡ s → e' ≡ e +ℤ pos k → b +ℤ e' ≡ s +ℤ pos k
taken_here b e e' s k h t = omega (arith, ints)

plus_none : (z s : ℤ) → z ≡ s → z ≡ s +ℤ pos 0
plus_none z s h = omega (arith, ints)

-- k units more are left over at v, once k have been sent out of v that did not arrive
pub taken_carries : (net : NetworkModel) (x : ℕ → ℕ) (e e' : ℕ → ℤ) (v k : ℕ) → HasExcess net x e → e' v ≡ e v +ℤ pos k → ((w : ℕ) → w ≢ v → e' w ≡ e w) → Carries net x e' v k
taken_carries net x e e' v k lv here others = record {
  at_node = λ w b. elim (cases_eq v w) [
    | inl q ↦
        let at : net_outflow net x w +ℤ e w ≡ supply_at net w = lv.at_node w b in
        let mine : e' w ≡ e w +ℤ pos k = subst (λ (t : ℕ). e' t ≡ e t +ℤ pos k) q here in
        let one : cond (eqb v w) k 0 ≡ k = cond-true {A = ℕ} (eqb v w) k 0 (eq-eqb v w q) in
        rw one (taken_here (net_outflow net x w) (e w) (e' w) (supply_at net w) k at mine)
    | inr ne ↦
        let at : net_outflow net x w +ℤ e w ≡ supply_at net w = lv.at_node w b in
        let same : e' w ≡ e w = others w (λ q. ne (sym q)) in
        let none : cond (eqb v w) k 0 ≡ 0 = cond-false {A = ℕ} (eqb v w) k 0 (ne_eqb v w ne) in
        rw (none, same) (plus_none (net_outflow net x w +ℤ e w) (supply_at net w) at)
  ];
}

given_here : (b e e' s : ℤ) (k : ℕ) → b +ℤ e ≡ s +ℤ pos k → e' ≡ e -ℤ pos k → b +ℤ e' ≡ s
given_here b e e' s k h t = omega (arith, ints)

minus_none : (z s : ℤ) → z ≡ s +ℤ pos 0 → z ≡ s
minus_none z s h = omega (arith, ints)

-- what was sent out of v is taken from what is left over there
pub carried_leaves : (net : NetworkModel) (x : ℕ → ℕ) (e e' : ℕ → ℤ) (v k : ℕ) → Carries net x e v k → e' v ≡ e v -ℤ pos k → ((w : ℕ) → w ≢ v → e' w ≡ e w) → HasExcess net x e'
carried_leaves net x e e' v k c here others = record {
  at_node = λ w b. elim (cases_eq v w) [
    | inl q ↦
        let one : cond (eqb v w) k 0 ≡ k = cond-true {A = ℕ} (eqb v w) k 0 (eq-eqb v w q) in
        let at : net_outflow net x w +ℤ e w ≡ supply_at net w +ℤ pos k = rw one at (c.at_node w b) in
        let mine : e' w ≡ e w -ℤ pos k = subst (λ (t : ℕ). e' t ≡ e t -ℤ pos k) q here in
        given_here (net_outflow net x w) (e w) (e' w) (supply_at net w) k at mine
    | inr ne ↦
        let none : cond (eqb v w) k 0 ≡ 0 = cond-false {A = ℕ} (eqb v w) k 0 (ne_eqb v w ne) in
        let at : net_outflow net x w +ℤ e w ≡ supply_at net w +ℤ pos 0 = rw none at (c.at_node w b) in
        let same : e' w ≡ e w = others w (λ q. ne (sym q)) in
        rw same (minus_none (net_outflow net x w +ℤ e w) (supply_at net w) at)
  ];
}

-- ---- potentials

residual_same : (net : NetworkModel) (x y : ℕ → ℕ) (j : ℕ) (back : Bool) → y j ≡ x j → IsResidual net y j back → IsResidual net x j back
residual_same net x y j false e h = let P : ℕ → Type 0 = λ t. IsUnsaturated (arc_at net j).cap t in subst P e h
residual_same net x y j true e h = omega arith

negated : (c s t : ℤ) → c +ℤ s -ℤ t ≡ pos 0 → pos 0 ≤ℤ ((pos 0 -ℤ c) +ℤ t -ℤ s)
negated c s t h = omega (arith, ints)

unnegated : (c s t : ℤ) → (pos 0 -ℤ c) +ℤ t -ℤ s ≡ pos 0 → pos 0 ≤ℤ (c +ℤ s -ℤ t)
unnegated c s t h = omega (arith, ints)

not_under : (z : ℤ) → z ≡ pos 0 → pos 0 ≤ℤ z
not_under z h = omega (arith, ints)

-- an arc of reduced cost 0 costs nothing under the potentials either way
zero_both_ways : (net : NetworkModel) (p : ℕ → ℤ) (i : ℕ) (back other : Bool) → reduced_cost net p i back ≡ pos 0 → pos 0 ≤ℤ reduced_cost net p i other
zero_both_ways net p i false false h = not_under (reduced_cost net p i false) h
zero_both_ways net p i true true h = not_under (reduced_cost net p i true) h
zero_both_ways net p i false true h = negated (pos (arc_at net i).cost) (p (arc_at net i).from) (p (arc_at net i).to) h
zero_both_ways net p i true false h = unnegated (pos (arc_at net i).cost) (p (arc_at net i).from) (p (arc_at net i).to) h

-- an arc of reduced cost 0 may change as it will
pub potentials_stay : (net : NetworkModel) (x y : ℕ → ℕ) (p : ℕ → ℤ) (i : ℕ) (back : Bool) → SameBut i x y → reduced_cost net p i back ≡ pos 0 → HasPotentials net x p → HasPotentials net y p
potentials_stay net x y p i back others at_zero h = record {
  residual = λ j other b r. elim (cases_eq j i) [
    | inl q ↦ let P : ℕ → Type 0 = λ t. pos 0 ≤ℤ reduced_cost net p t other in subst P (sym q) (zero_both_ways net p i back other at_zero)
    | inr ne ↦ h.residual j other b (residual_same net x y j other (others j ne) r)
  ];
}
