-- Where no residual path leads from what is left over to what is wanting, there is no flow.
use Rattle.std.proofs.Common.{◌≡◌, ◌≢◌, ◌<◌, ℕ, zero, suc, cond, ltb, Bool, true, false, refl, inl, inr, arith}
use Rattle.std.specs.Prelude.{ℤ, pos, negsuc, ◌≤ℤ◌, ◌<ℤ◌}
use Rattle.std.proofs.lemmas.Bool.{both_ways, ltb-true, lt-ltb}
use Rattle.std.proofs.lemmas.Int.{ints}
use borrow.Author.Differences.{up}
use Rattle.min_cost_flow.specs.declared.network.Cap.{Cap}
use Rattle.min_cost_flow.specs.declared.network.Cap.TheVariants.{AtMost, Any}
use Rattle.min_cost_flow.specs.Networks.{NetworkModel, node_count, arc_count, arc_at, HasEnds}
use Rattle.min_cost_flow.specs.Flow.{IsUnsaturated, IsResidual, start_of, end_of, HasNoFlow}
use Rattle.min_cost_flow.specs.Excess.{HasExcess, IsClosedOut, IsResidualPath, HasNoAugmentingPath}
use Rattle.min_cost_flow.proofs.Cut.{no_flow_out}
use Rattle.min_cost_flow.proofs.Ends.{end_in}
use Rattle.min_cost_flow.proofs.Rounds.{sign_of, over_or_not, no_flow_wanting}
use Rattle.min_cost_flow.proofs.Spreading.{Steps, IsClosedUnder, Passes, spread_from, found_below}

-- ---- residual arcs by a test

is_unsaturated : Cap → ℕ → Bool
is_unsaturated (AtMost k) x = ltb x k
is_unsaturated Any x = true

unsaturated_is : (c : Cap) (x : ℕ) → is_unsaturated c x ≡ true → IsUnsaturated c x
unfolding is_unsaturated
unsaturated_is (AtMost k) x h = ltb-true x k h
unsaturated_is Any x h = tt

is_room : (c : Cap) (x : ℕ) → IsUnsaturated c x → is_unsaturated c x ≡ true
unfolding is_unsaturated
is_room (AtMost k) x h = lt-ltb x k h
is_room Any x h = refl

is_residual : NetworkModel → (ℕ → ℕ) → ℕ → Bool → Bool
is_residual net x i back = cond back (ltb 0 (x i)) (is_unsaturated (arc_at net i).cap (x i))

residual_is : (net : NetworkModel) (x : ℕ → ℕ) (i : ℕ) (back : Bool) → is_residual net x i back ≡ true → IsResidual net x i back
unfolding is_residual
residual_is net x i false h = unsaturated_is (arc_at net i).cap (x i) h
residual_is net x i true h = ltb-true 0 (x i) h

is_residual_at : (net : NetworkModel) (x : ℕ → ℕ) (i : ℕ) (back : Bool) → IsResidual net x i back → is_residual net x i back ≡ true
unfolding is_residual
is_residual_at net x i false h = is_room (arc_at net i).cap (x i) h
is_residual_at net x i true h = lt-ltb 0 (x i) h

residual_steps : NetworkModel → (ℕ → ℕ) → Steps
residual_steps net x = record {
  count = arc_count net;
  passes = is_residual net x;
  start = start_of net;
  finish = end_of net;
}

-- ---- what a path can reach

-- some path leads from u to v
IsReachable : NetworkModel → (ℕ → ℕ) → ℕ → ℕ → Type 0
IsReachable net x u v = (k : ℕ) × IsResidualPath net x u v k

path_on : (net : NetworkModel) (x : ℕ → ℕ) (u i : ℕ) (back : Bool) → i < arc_count net → IsResidual net x i back → IsReachable net x u (start_of net i back) → IsReachable net x u (end_of net i back)
unfolding IsReachable
path_on net x u i back b r p = let (k, path) = p in (suc k, (i, back, b, r, refl, path))

path_itself : (net : NetworkModel) (x : ℕ → ℕ) (u : ℕ) → IsReachable net x u u
unfolding IsReachable
path_itself net x u = (zero, refl)

paths_pass : (net : NetworkModel) (x : ℕ → ℕ) (u : ℕ) → HasEnds net → Passes (IsReachable net x u) (node_count net) (residual_steps net x)
unfolding residual_steps
paths_pass net x u ends = record {
  on = λ i back b h p. path_on net x u i back b (residual_is net x i back h) p;
  node = λ i back b. end_in net i back ends b;
}

closed_out : (net : NetworkModel) (x : ℕ → ℕ) (s : ℕ → Bool) → IsClosedUnder (residual_steps net x) s → IsClosedOut net x s
unfolding residual_steps
closed_out net x s c = record { stays = λ i back b r h. c.stays i back b (is_residual_at net x i back r) h }

not_wanting : (net : NetworkModel) (x : ℕ → ℕ) (e : ℕ → ℤ) (u v : ℕ) → HasNoAugmentingPath net x e → u < node_count net → v < node_count net → pos 0 <ℤ e u → IsReachable net x u v → pos 0 ≤ℤ e v
unfolding IsReachable
not_wanting net x e u v bound ub vb over p =
    elim (sign_of (e v)) [
      | inl w ↦ let (k, path) = p in absurd (bound.apart u v k ub vb over w path)
      | inr o ↦ o
    ]

no_flow_over : (net : NetworkModel) (x : ℕ → ℕ) (e : ℕ → ℤ) (u : ℕ) → HasEnds net → HasExcess net x e → HasNoAugmentingPath net x e → u < node_count net → pos 0 <ℤ e u → HasNoFlow net
no_flow_over net x e u ends lv bound ub over =
    let (t, r, closed) = spread_from (IsReachable net x u) (node_count net) (residual_steps net x) u (paths_pass net x u ends) (path_itself net x u) in
    no_flow_out net x e t u ends lv (closed_out net x t closed) (λ v b h. not_wanting net x e u v bound ub b over (r.each v h)) ub r.inside over

is_over : (z : ℤ) → ltb 0 (up z) ≡ true → pos 0 <ℤ z
is_over (pos n) h = omega (arith, ints, ltb-true 0 n h)
is_over (negsuc n) h = absurd (omega (arith, ltb-true 0 0 h))

over_up : (z : ℤ) → pos 0 <ℤ z → 0 < up z
over_up (pos n) h = omega (arith, ints)
over_up (negsuc n) h = absurd (omega (arith, ints))

not_over : (z : ℤ) → ltb 0 (up z) ≡ false → z ≤ℤ pos 0
not_over z h =
    elim (over_or_not z) [
      | inl o ↦ absurd (both_ways (ltb 0 (up z)) h (lt-ltb 0 (up z) (over_up z o)))
      | inr l ↦ l
    ]

below_then : (z : ℤ) → z ≤ℤ pos 0 → z ≢ pos 0 → z <ℤ pos 0
below_then (pos zero) l ne = absurd (ne refl)
below_then (pos (suc n)) l ne = absurd (omega (arith, ints))
below_then (negsuc n) l ne = omega (arith, ints)

-- where something is left over or wanting, and no residual path leads from the one to the other,
-- there is no flow
pub no_flow_without_path : (net : NetworkModel) (x : ℕ → ℕ) (e : ℕ → ℤ) (u : ℕ) → HasEnds net → HasExcess net x e → HasNoAugmentingPath net x e → u < node_count net → e u ≢ pos 0 → HasNoFlow net
no_flow_without_path net x e u ends lv bound ub ne =
    elim (over_or_not (e u)) [
      | inl over ↦ no_flow_over net x e u ends lv bound ub over
      | inr l ↦ elim (found_below (node_count net) (λ v. ltb 0 (up (e v)))) [
        | inl f ↦ let (v, b, h) = f in no_flow_over net x e v ends lv bound b (is_over (e v) h)
        | inr none ↦ no_flow_wanting net x e u ends lv (λ v b. not_over (e v) (none v b)) ub (below_then (e u) l ne)
      ]
    ]
