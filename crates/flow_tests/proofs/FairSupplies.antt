-- Supplies that are not too great stay fair as units move.
use Rattle.std.proofs.Common.{◌≡◌, ◌<◌, ◌≤◌, ℕ, Bool, true, false, cond, eqb, refl, subst, sym, arith}
use Rattle.std.specs.Prelude.{ℤ, pos, negsuc, ◌+ℤ◌, ◌-ℤ◌, ◌≤ℤ◌}
use Rattle.std.proofs.lemmas.Bool.{eqb-true}
use Rattle.std.proofs.lemmas.Int.{ints}
use Rattle.min_cost_flow.specs.Networks.{NetworkModel, node_count, supply_at, shifted, IsInSupplyRange, HasSuppliesInRange}
use Rattle.min_cost_flow.proofs.Moving.{moved_at, length-moved}

fair_delta : (c d : Bool) (e e' : ℤ) (k : ℕ) → k ≤ 40 → IsInSupplyRange e → (c ≡ true → e ≤ℤ pos 2000) → (d ≡ true → negsuc 1999 ≤ℤ e) → e' ≡ e +ℤ (pos (cond {A = ℕ} c k 0) -ℤ pos (cond {A = ℕ} d k 0)) → IsInSupplyRange e'
fair_delta true true e e' k few in_range high low is = (omega (arith, ints, in_range), omega (arith, ints, in_range))
fair_delta true false e e' k few in_range high low is = (omega (arith, ints, in_range), omega (arith, ints, in_range, high refl))
fair_delta false true e e' k few in_range high low is = (omega (arith, ints, in_range, low refl), omega (arith, ints, in_range))
fair_delta false false e e' k few in_range high low is = (omega (arith, ints, in_range), omega (arith, ints, in_range))

pub still_fair : (net : NetworkModel) (f t k : ℕ) → HasSuppliesInRange net → f < node_count net → t < node_count net → k ≤ 40 → supply_at net f ≤ℤ pos 2000 → negsuc 1999 ≤ℤ supply_at net t → HasSuppliesInRange (shifted net f t k)
still_fair net f t k in_range fb tb few high low = λ v b.
    let vb : v < node_count net = omega (arith, length-moved net.supplies f t k) in
    fair_delta (eqb v f) (eqb v t) (supply_at net v) (supply_at (shifted net f t k) v) k few (in_range v vb)
    (λ h. subst (λ (w : ℕ). supply_at net w ≤ℤ pos 2000) (sym (eqb-true v f h)) high)
    (λ h. subst (λ (w : ℕ). negsuc 1999 ≤ℤ supply_at net w) (sym (eqb-true v t h)) low)
    (moved_at net.supplies f t k v fb tb)
