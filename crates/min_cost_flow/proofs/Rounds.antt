-- From one search to the next: what holds before the first, what sending along a path leaves, and the end.
use Rattle.std.proofs.Common.{◌≡◌, ◌≢◌, ◌≤◌, ◌<◌, ◌⊎◌, ℕ, zero, suc, ◌+◌, ◌*◌, cond, eqb, Bool, true, false, refl, sym, ap, subst, inl, inr, arith}
use Rattle.std.specs.Prelude.{ℤ, pos, negsuc, ◌+ℤ◌, ◌-ℤ◌, ◌≤ℤ◌, ◌<ℤ◌}
use Rattle.std.proofs.lemmas.Bool.{cases_eq, eq-eqb, cond-true}
use Rattle.std.proofs.lemmas.Int.{ints}
use Rattle.min_cost_flow.specs.declared.network.TheConstants.{MAX_SUPPLY}
use Rattle.min_cost_flow.specs.declared.network.TheConstants.{MAX_ARCS, MAX_NODES}
use Rattle.min_cost_flow.specs.declared.residual_network.TheConstants.{MAX_RESIDUAL_ARCS}
use Rattle.min_cost_flow.specs.declared.warm_start.TheConstants.{MAX_CARRIED}
use borrow.Author.Differences.{up}
use Rattle.common.specs.Sums.{sum_below}
use Rattle.common.proofs.Sums.{sum_below-same, sum_below-le, sum_below-changed, sum_below-constant, sum_below-none}
use Rattle.min_cost_flow.specs.declared.network.Cap.{Cap}
use Rattle.min_cost_flow.specs.declared.network.Cap.TheVariants.{AtMost, Any}
use Rattle.min_cost_flow.specs.Networks.{NetworkModel, node_count, arc_count, arc_at, supply_at, IsInSupplyRange, HasEnds, IsNetwork}
use Rattle.min_cost_flow.specs.Flow.{outflow, inflow, net_outflow, IsWithinCap, IsUnsaturated, Flow, HasNoFlow, IsResidual, HasPotentials, reduced_cost}
use Rattle.min_cost_flow.specs.Excess.{IsWithinCaps, HasExcess}
use Rattle.min_cost_flow.specs.Round.{remaining_units, supply_sum, carrying, IsRound, IsLess, IsWork, IsRoundDone}
use Rattle.std.proofs.Math.Nat.{add-mul, one-mul}
use Rattle.std.proofs.lemmas.Nat.{mul-le}
use Rattle.min_cost_flow.proofs.Cut.{no_flow_into}

-- a whole number is below 0 or not
pub sign_of : (z : ℤ) → (z <ℤ pos 0) ⊎ (pos 0 ≤ℤ z)
sign_of (pos n) = inr (omega (arith, ints))
sign_of (negsuc n) = inl (omega (arith, ints))

nothing : (f : Bool) (x : ℕ) → x ≡ 0 → cond f x 0 ≡ 0
nothing true x h = h
nothing false x h = refl

-- where nothing is left over, and something is wanting, there is no flow
pub no_flow_wanting : (net : NetworkModel) (x : ℕ → ℕ) (e : ℕ → ℤ) (u : ℕ) → HasEnds net → HasExcess net x e → ((v : ℕ) → v < node_count net → e v ≤ℤ pos 0) → u < node_count net → e u <ℤ pos 0 → HasNoFlow net
no_flow_wanting net x e u ends lv none ub w =
    no_flow_into net x e (λ _. true) u ends lv (record { stays = λ i back b r s. refl }) (λ v b _. none v b) ub refl w

balanced : (b e s : ℤ) → b +ℤ e ≡ s → e ≤ℤ pos 0 → pos 0 ≤ℤ e → b ≡ s
balanced b e s h l g = omega (arith, ints)

-- where nothing is left over and nothing wanting, it is a flow
pub flow_at : (net : NetworkModel) (x : ℕ → ℕ) (e : ℕ → ℤ) → IsWithinCaps net x → HasExcess net x e → ((v : ℕ) → v < node_count net → e v ≤ℤ pos 0) → ((v : ℕ) → v < node_count net → pos 0 ≤ℤ e v) → Flow net x
flow_at net x e caps lv none full = record {
  within = caps;
  meets = λ v b. let at : net_outflow net x v +ℤ e v ≡ supply_at net v = lv.at_node v b in balanced (net_outflow net x v) (e v) (supply_at net v) at (none v b) (full v b);
}

-- ---- sending

-- k units went from u to where units are wanting: the amounts from x to y, the excess from e to e'
pub record IsSent (net : NetworkModel) (x y : ℕ → ℕ) (e e' : ℕ → ℤ) (u k : ℕ) : Type 0 where
  pub node : u < node_count net
  pub root : pos 0 <ℤ e u
  pub caps : IsWithinCaps net y
  pub leaves : HasExcess net y e'
  pub here : e' u ≡ e u -ℤ pos k
  pub remaining : pos 0 ≤ℤ e' u
  pub deficit : (v : ℕ) → v < node_count net → e v ≤ℤ pos 0 → (e v ≤ℤ e' v) × (e' v ≤ℤ pos 0)
  pub others : (v : ℕ) → v < node_count net → v ≢ u → pos 0 <ℤ e v → e' v ≡ e v
  pub grown : (i : ℕ) → i < arc_count net → y i ≤ x i + k

-- a number above 0, or not
pub over_or_not : (z : ℤ) → (pos 0 <ℤ z) ⊎ (z ≤ℤ pos 0)
over_or_not (pos zero) = inr (omega (arith, ints))
over_or_not (pos (suc n)) = inl (omega (arith, ints))
over_or_not (negsuc n) = inr (omega (arith, ints))

no_up : (e e' : ℤ) → e ≤ℤ pos 0 → e' ≤ℤ pos 0 → up e' ≡ up e
no_up (pos n) (pos m) a b = omega (arith, ints)
no_up (pos n) (negsuc m) a b = omega (arith, ints)
no_up (negsuc n) (pos m) a b = omega (arith, ints)
no_up (negsuc n) (negsuc m) a b = omega (arith, ints)

up_falls : (e e' : ℤ) (k : ℕ) → e' ≡ e -ℤ pos k → pos 0 ≤ℤ e' → up e' + k ≡ up e
up_falls (pos n) (pos m) k h z = omega (arith, ints)
up_falls (pos n) (negsuc m) k h z = absurd (omega (arith, ints))
up_falls (negsuc n) (pos m) k h z = absurd (omega (arith, ints))
up_falls (negsuc n) (negsuc m) k h z = absurd (omega (arith, ints))

-- what is left falls by what was sent
pub remaining_falls : (net : NetworkModel) (x y : ℕ → ℕ) (e e' : ℕ → ℤ) (u k : ℕ) → IsSent net x y e e' u k → remaining_units net e' + k ≡ remaining_units net e
remaining_falls net x y e e' u k s =
    let sums : remaining_units net e' + up (e u) ≡ remaining_units net e + up (e' u) =
    sum_below-changed (node_count net) u (λ v. up (e' v)) (λ v. up (e v)) s.node
    (λ v b ne. elim (over_or_not (e v)) [
      | inl o ↦ ap up (s.others v b ne o)
      | inr o ↦ let (l, h) = s.deficit v b o in no_up (e v) (e' v) o h
    ]) in
    omega (arith, up_falls (e u) (e' u) k s.here s.remaining)

still_wanting : (e e' : ℤ) → e ≤ℤ e' → e' <ℤ pos 0 → e <ℤ pos 0
still_wanting e e' h w = omega (arith, ints)

not_both : (e : ℤ) → e <ℤ pos 0 → pos 0 ≤ℤ e → ⊥
not_both e a b = omega (arith, ints)

was_wanting : (net : NetworkModel) (x y : ℕ → ℕ) (e e' : ℕ → ℤ) (u k v : ℕ) → IsSent net x y e e' u k → v < node_count net → e' v <ℤ pos 0 → e v <ℤ pos 0
was_wanting net x y e e' u k v s b w =
    elim (over_or_not (e v)) [
      | inl o ↦ elim (cases_eq v u) [
        | inl q ↦ absurd (not_both (e' v) w (subst (λ (t : ℕ). pos 0 ≤ℤ e' t) (sym q) s.remaining))
        | inr ne ↦ let same : e' v ≡ e v = s.others v b ne o in subst (λ (z : ℤ). z <ℤ pos 0) same w
      ]
      | inr o ↦ let (l, h) = s.deficit v b o in still_wanting (e v) (e' v) l w
    ]

fair_less : (e e' : ℤ) (k : ℕ) → e' ≡ e -ℤ pos k → pos 0 ≤ℤ e' → e ≤ℤ pos MAX_SUPPLY → IsInSupplyRange e'
fair_less e e' k h z m = (omega (arith, ints), omega (arith, ints))

fair_more : (e e' : ℤ) → e ≤ℤ e' → e' ≤ℤ pos 0 → (pos 0 -ℤ pos MAX_SUPPLY) ≤ℤ e → IsInSupplyRange e'
fair_more e e' h z m = (omega (arith, ints), omega (arith, ints))

still_fair : (net : NetworkModel) (x y : ℕ → ℕ) (e e' : ℕ → ℤ) (u k v : ℕ) → IsSent net x y e e' u k → v < node_count net → IsInSupplyRange (e v) → IsInSupplyRange (e' v)
still_fair net x y e e' u k v s b f =
    elim (over_or_not (e v)) [
      | inl o ↦ elim (cases_eq v u) [
        | inl q ↦
            let P : ℕ → Type 0 = λ t. IsInSupplyRange (e' t) in
            let Q : ℕ → Type 0 = λ t. e t ≤ℤ pos MAX_SUPPLY in
            subst P (sym q) (fair_less (e u) (e' u) k s.here s.remaining (subst Q q f.1))
        | inr ne ↦ subst IsInSupplyRange (sym (s.others v b ne o)) f
      ]
      | inr o ↦ let (l, h) = s.deficit v b o in fair_more (e v) (e' v) l h f.0
    ]

-- sending along steps that cost nothing keeps all that holds between searches
pub sent_round : (net : NetworkModel) (x y : ℕ → ℕ) (p e e' : ℕ → ℤ) (u k : ℕ) → IsSent net x y e e' u k → HasPotentials net y p → IsRound net x p e → IsRound net y p e'
sent_round net x y p e e' u k s priced r =
    let fall : remaining_units net e' + k ≡ remaining_units net e = remaining_falls net x y e e' u k s in
    record {
      leaves = s.leaves;
      caps = s.caps;
      priced = priced;
      low = r.low;
      zero = λ v b w. r.zero v b (was_wanting net x y e e' u k v s b w);
      in_range = λ v b. still_fair net x y e e' u k v s b (r.in_range v b);
      capacity = λ i b. omega (arith, s.grown i b, r.capacity i b);
    }

-- ---- the first round

at_start : (l n : ℕ) (e s : ℤ) → l ≡ 0 → n ≡ 0 → e ≡ s → (pos l -ℤ pos n) +ℤ e ≡ s
at_start l n e s a b h = omega (arith, ints)

empty_within : (c : Cap) (x : ℕ) → x ≡ 0 → IsWithinCap c x
empty_within (AtMost k) x h = omega arith
empty_within Any x h = tt

first_cost : (c : ℕ) (s t : ℤ) → s ≡ pos 0 → t ≡ pos 0 → pos 0 ≤ℤ (pos c +ℤ s -ℤ t)
first_cost c s t a b = omega (arith, ints)

first_low : (n : ℕ) (p : ℤ) → p ≡ pos 0 → (pos 0 ≤ℤ (p +ℤ pos (2 * n))) × (p ≤ℤ pos (2 * n))
first_low n p h = (omega (arith, ints), omega (arith, ints))

up_most : (e : ℤ) → e ≤ℤ pos MAX_SUPPLY → up e ≤ MAX_SUPPLY
up_most (pos n) h = omega (arith, ints)
up_most (negsuc n) h = omega (arith, ints)

first_remaining : (net : NetworkModel) (e : ℕ → ℤ) → node_count net ≤ MAX_NODES → ((v : ℕ) → v < node_count net → e v ≤ℤ pos MAX_SUPPLY) → remaining_units net e ≤ MAX_CARRIED
first_remaining net e small in_range =
    let n = node_count net in
    let le : remaining_units net e ≤ sum_below n (λ _. MAX_SUPPLY) = sum_below-le n (λ v. up (e v)) (λ _. MAX_SUPPLY) (λ v b. up_most (e v) (in_range v b)) in
    omega (arith, sum_below-constant n MAX_SUPPLY)

first_priced : (net : NetworkModel) (x : ℕ → ℕ) (p : ℕ → ℤ) (i : ℕ) (back : Bool) → x i ≡ 0 → ((v : ℕ) → p v ≡ pos 0) → IsResidual net x i back → pos 0 ≤ℤ reduced_cost net p i back
first_priced net x p i false none flat r = first_cost (arc_at net i).cost (p (arc_at net i).from) (p (arc_at net i).to) (flat (arc_at net i).from) (flat (arc_at net i).to)
first_priced net x p i true none flat r = absurd (omega arith)

-- no amounts, potentials 0, and all supplies left over or wanting
pub first_round : (net : NetworkModel) (x : ℕ → ℕ) (p e : ℕ → ℤ) → IsNetwork net → ((i : ℕ) → i < arc_count net → x i ≡ 0) → ((v : ℕ) → p v ≡ pos 0) → ((v : ℕ) → e v ≡ supply_at net v) → IsRound net x p e
first_round net x p e k none flat full =
    let m = arc_count net in
    let in_range : (v : ℕ) → v < node_count net → IsInSupplyRange (e v) = λ v b. subst IsInSupplyRange (sym (full v)) (k.supplies v b) in
    let few : remaining_units net e ≤ MAX_CARRIED = first_remaining net e k.small.0 (λ v b. (in_range v b).1) in
    record {
      leaves = record {
        at_node = λ v b. at_start (outflow net x v) (inflow net x v) (e v) (supply_at net v)
            (sum_below-none m (λ i. cond (eqb (arc_at net i).from v) (x i) 0) (λ i c. nothing (eqb (arc_at net i).from v) (x i) (none i c)))
            (sum_below-none m (λ i. cond (eqb (arc_at net i).to v) (x i) 0) (λ i c. nothing (eqb (arc_at net i).to v) (x i) (none i c)))
            (full v);
      };
      caps = λ i b. empty_within (arc_at net i).cap (x i) (none i b);
      priced = record { residual = λ i back b r. first_priced net x p i back (none i b) flat r };
      low = λ v b. first_low (node_count net) (p v) (flat v);
      zero = λ v b w. flat v;
      in_range = in_range;
      capacity = λ i b. omega (arith, none i b);
    }

-- ---- the work done

looked_more : (l l' s m : ℕ) → l ≤ s * m → l' ≤ l + m → l' ≤ (s + 1) * m
looked_more l l' s m h k = omega (arith, add-mul s 1 m, one-mul m)

pub work_more : (net : NetworkModel) (x y : ℕ → ℕ) (e e' : ℕ → ℤ) (s l l' : ℕ) → IsWork net x e s l → IsLess net e e' → carrying net y + l ≤ carrying net x + l' → l' ≤ l + 2 * arc_count net → IsWork net y e' (s + 1) l'
work_more net x y e e' s l l' w less c k = record {
  few = omega (arith, w.few, less.less);
  bounded = looked_more l l' s (2 * arc_count net) w.bounded k;
  carried = omega (arith, w.carried);
  begun = inl (omega arith);
}

none_carry : (x : ℕ) → x ≡ 0 → cond {A = ℕ} (eqb x 0) 0 1 ≡ 0
none_carry x h = cond-true {A = ℕ} (eqb x 0) 0 1 (eq-eqb x 0 h)

pub first_work : (net : NetworkModel) (x : ℕ → ℕ) (e : ℕ → ℤ) → ((i : ℕ) → i < arc_count net → x i ≡ 0) → ((v : ℕ) → e v ≡ supply_at net v) → IsWork net x e 0 0
first_work net x e none full = record {
  few = omega (arith, sum_below-same (node_count net) (λ v. up (e v)) (λ v. up (supply_at net v)) (λ v b. ap up (full v)));
  bounded = omega arith;
  carried = omega (arith, sum_below-none (arc_count net) (λ i. cond {A = ℕ} (eqb (x i) 0) 0 1) (λ i b. none_carry (x i) (none i b)));
  begun = inr (λ v b. full v);
}

bounds_looks : (l s m : ℕ) → l ≤ s * (2 * m) → s ≤ MAX_CARRIED → m ≤ MAX_ARCS → l ≤ MAX_CARRIED * MAX_RESIDUAL_ARCS
bounds_looks l s m h a b = omega (arith, mul-le s (2 * m) MAX_CARRIED MAX_RESIDUAL_ARCS a (omega arith))

pub supply_most : (net : NetworkModel) → IsNetwork net → supply_sum net ≤ MAX_CARRIED
supply_most net k = first_remaining net (λ v. supply_at net v) k.small.0 (λ v b. (k.supplies v b).1)

pub looks_most : (net : NetworkModel) (x : ℕ → ℕ) (e : ℕ → ℤ) (s l : ℕ) → IsNetwork net → IsWork net x e s l → (s ≤ MAX_CARRIED) × (l ≤ MAX_CARRIED * MAX_RESIDUAL_ARCS)
looks_most net x e s l k w =
    let few : s ≤ MAX_CARRIED = omega (arith, w.few, supply_most net k) in
    (few, bounds_looks l s (arc_count net) w.bounded few k.small.1)

no_supply : (e s : ℤ) → e ≡ s → e ≤ℤ pos 0 → pos 0 ≤ℤ e → s ≡ pos 0
no_supply e s h a b = omega (arith, ints)

pub nothing_remaining : (e : ℤ) → e ≤ℤ pos 0 → pos 0 ≤ℤ e → e ≡ pos 0
nothing_remaining e a b = omega (arith, ints)

-- where nothing is left over and nothing wanting, all is done
pub done_at : (net : NetworkModel) (x : ℕ → ℕ) (p e : ℕ → ℤ) (s l : ℕ) → IsRound net x p e → IsWork net x e s l → ((v : ℕ) → v < node_count net → e v ≤ℤ pos 0) → ((v : ℕ) → v < node_count net → pos 0 ≤ℤ e v) → IsRoundDone net x p s l
done_at net x p e s l r w none full = record {
  flow = flow_at net x e r.caps r.leaves none full;
  potentials = r.priced;
  in_bounds = r.low;
  few = omega (arith, w.few);
  bounded = w.bounded;
  carried = w.carried;
  begun = λ (v, b, ne). elim w.begun [
    | inl h ↦ h
    | inr same ↦ absurd (ne (no_supply (e v) (supply_at net v) (same v b) (none v b) (full v b)))
  ];
}

-- ---- the same amounts

same_side : (net : NetworkModel) (x y : ℕ → ℕ) (at : ℕ → ℕ) (v : ℕ) → ((i : ℕ) → i < arc_count net → y i ≡ x i) → sum_below (arc_count net) (λ i. cond {A = ℕ} (eqb (at i) v) (y i) 0) ≡ sum_below (arc_count net) (λ i. cond {A = ℕ} (eqb (at i) v) (x i) 0)
same_side net x y at v same = sum_below-same (arc_count net) (λ i. cond {A = ℕ} (eqb (at i) v) (y i) 0) (λ i. cond {A = ℕ} (eqb (at i) v) (x i) 0) (λ i b. ap (λ (t : ℕ). cond {A = ℕ} (eqb (at i) v) t 0) (same i b))

same_balance : (l l' n n' : ℕ) (s : ℤ) → l' ≡ l → n' ≡ n → pos l -ℤ pos n ≡ s → pos l' -ℤ pos n' ≡ s
same_balance l l' n n' s a b h = omega (arith, ints)

still_residual : (net : NetworkModel) (x y : ℕ → ℕ) (i : ℕ) (back : Bool) → y i ≡ x i → IsResidual net y i back → IsResidual net x i back
still_residual net x y i false e h = subst (λ (t : ℕ). IsUnsaturated (arc_at net i).cap t) e h
still_residual net x y i true e h = omega arith

pub flow_same : (net : NetworkModel) (x y : ℕ → ℕ) → ((i : ℕ) → i < arc_count net → y i ≡ x i) → Flow net x → Flow net y
flow_same net x y same f = record {
  within = λ i b. subst (λ (t : ℕ). IsWithinCap (arc_at net i).cap t) (sym (same i b)) (f.within i b);
  meets = λ v b. same_balance (outflow net x v) (outflow net y v) (inflow net x v) (inflow net y v) (supply_at net v) (same_side net x y (λ i. (arc_at net i).from) v same) (same_side net x y (λ i. (arc_at net i).to) v same) (f.meets v b);
}

pub potentials_same : (net : NetworkModel) (x y : ℕ → ℕ) (p : ℕ → ℤ) → ((i : ℕ) → i < arc_count net → y i ≡ x i) → HasPotentials net x p → HasPotentials net y p
potentials_same net x y p same h = record { residual = λ i back b r. h.residual i back b (still_residual net x y i back (same i b) r) }

pub done_same : (net : NetworkModel) (x y : ℕ → ℕ) (p : ℕ → ℤ) (s l : ℕ) → ((i : ℕ) → i < arc_count net → y i ≡ x i) → IsRoundDone net x p s l → IsRoundDone net y p s l
done_same net x y p s l same d = record {
  flow = flow_same net x y same d.flow;
  potentials = potentials_same net x y p same d.potentials;
  in_bounds = d.in_bounds;
  few = d.few;
  bounded = d.bounded;
  carried = omega (arith, d.carried, sum_below-same (arc_count net) (λ i. cond {A = ℕ} (eqb (y i) 0) 0 1) (λ i. cond {A = ℕ} (eqb (x i) 0) 0 1) (λ i b. ap (λ (t : ℕ). cond {A = ℕ} (eqb t 0) 0 1) (same i b)));
  begun = d.begun;
}
