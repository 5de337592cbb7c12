-- What is left at each node once one has some units more, and another as many fewer.
use Rattle.std.proofs.Common.{◌≡◌, ◌<◌, ◌≤◌, ◌*◌, Bool, true, false, ℕ, length, List, cond, eqb, sym, ◌∙◌, subst, inl, inr, get_or, arith}
use mir.Syntax.{w32}
use mir.Val.{of_z, to_z}
use Rattle.std.specs.Prelude.{ℤ, pos, ◌+ℤ◌, ◌-ℤ◌, ◌≤ℤ◌}
use Rattle.std.proofs.lemmas.Bool.{cases_eq, eq-eqb, ne_eqb, cond-true, cond-false}
use Rattle.std.proofs.lemmas.Int.{ints}
use Rattle.std.proofs.lemmas.List.{get_or-set_same, get_or-set_other, length-set}
use Rattle.min_cost_flow.specs.declared.network.TheConstants.{MAX_SUPPLY}
use Rattle.min_cost_flow.specs.declared.network.TheConstants.{MAX_NODES}
use Rattle.min_cost_flow.specs.Networks.{NetworkModel, arc_at, raised, lowered, moved, shifted, HasSuppliesInRange, IsNetwork}

abbrev pub at : List ℤ → ℕ → ℤ
at units v = get_or units v (pos 0)

pub length-moved : (units : List ℤ) (f t k : ℕ) → length (moved units f t k) ≡ length units
length-moved units f t k = length-set (raised units f k) t (at (raised units f k) t -ℤ pos k) ∙ length-set units f (at units f +ℤ pos k)

-- what is added at node v
abbrev pub delta : ℕ → ℕ → ℕ → ℕ → ℤ
delta f t k v = pos (cond {A = ℕ} (eqb v f) k 0) -ℤ pos (cond {A = ℕ} (eqb v t) k 0)

more_here : (a b : ℤ) (x k : ℕ) → b ≡ a +ℤ pos k → x ≡ k → b ≡ a +ℤ pos x
more_here a b x k h e = omega (arith, ints)

none_here : (a b : ℤ) (x : ℕ) → b ≡ a → x ≡ 0 → b ≡ a +ℤ pos x
none_here a b x h e = omega (arith, ints)

less_here : (a b : ℤ) (x k : ℕ) → b ≡ a -ℤ pos k → x ≡ k → b ≡ a -ℤ pos x
less_here a b x k h e = omega (arith, ints)

same_here : (a b : ℤ) (x : ℕ) → b ≡ a → x ≡ 0 → b ≡ a -ℤ pos x
same_here a b x h e = omega (arith, ints)

pub raised_at : (units : List ℤ) (f k v : ℕ) → f < length units → at (raised units f k) v ≡ at units v +ℤ pos (cond {A = ℕ} (eqb v f) k 0)
raised_at units f k v b =
    elim (cases_eq v f) [
      | inl e ↦ more_here (at units v) (at (raised units f k) v) (cond {A = ℕ} (eqb v f) k 0) k
          (subst (λ (w : ℕ). at (raised units f k) w ≡ at units w +ℤ pos k) (sym e) (get_or-set_same units f (at units f +ℤ pos k) (pos 0) b))
          (cond-true {A = ℕ} (eqb v f) k 0 (eq-eqb v f e))
      | inr ne ↦ none_here (at units v) (at (raised units f k) v) (cond {A = ℕ} (eqb v f) k 0)
          (get_or-set_other units f v (at units f +ℤ pos k) (pos 0) ne)
          (cond-false {A = ℕ} (eqb v f) k 0 (ne_eqb v f ne))
    ]

pub lowered_at : (units : List ℤ) (t k v : ℕ) → t < length units → at (lowered units t k) v ≡ at units v -ℤ pos (cond {A = ℕ} (eqb v t) k 0)
lowered_at units t k v b =
    elim (cases_eq v t) [
      | inl e ↦ less_here (at units v) (at (lowered units t k) v) (cond {A = ℕ} (eqb v t) k 0) k
          (subst (λ (w : ℕ). at (lowered units t k) w ≡ at units w -ℤ pos k) (sym e) (get_or-set_same units t (at units t -ℤ pos k) (pos 0) b))
          (cond-true {A = ℕ} (eqb v t) k 0 (eq-eqb v t e))
      | inr ne ↦ same_here (at units v) (at (lowered units t k) v) (cond {A = ℕ} (eqb v t) k 0)
          (get_or-set_other units t v (at units t -ℤ pos k) (pos 0) ne)
          (cond-false {A = ℕ} (eqb v t) k 0 (ne_eqb v t ne))
    ]

both : (a b c : ℤ) (x y : ℕ) → b ≡ a +ℤ pos x → c ≡ b -ℤ pos y → c ≡ a +ℤ (pos x -ℤ pos y)
both a b c x y h k = omega (arith, ints)

pub moved_at : (units : List ℤ) (f t k v : ℕ) → f < length units → t < length units → at (moved units f t k) v ≡ at units v +ℤ delta f t k v
moved_at units f t k v fb tb =
    both (at units v) (at (raised units f k) v) (at (moved units f t k) v) (cond {A = ℕ} (eqb v f) k 0) (cond {A = ℕ} (eqb v t) k 0)
    (raised_at units f k v fb)
    (lowered_at (raised units f k) t k v (subst (λ (n : ℕ). t < n) (sym (length-set units f (at units f +ℤ pos k))) tb))

no_lower : (a b : ℤ) (x : ℕ) → b ≡ a +ℤ pos x → (pos 0 -ℤ pos MAX_SUPPLY) ≤ℤ a → (pos 0 -ℤ pos MAX_SUPPLY) ≤ℤ b
no_lower a b x h l = omega (arith, ints)

pub raised_low : (units : List ℤ) (f k v : ℕ) → f < length units → (pos 0 -ℤ pos MAX_SUPPLY) ≤ℤ at units v → (pos 0 -ℤ pos MAX_SUPPLY) ≤ℤ at (raised units f k) v
raised_low units f k v b l = no_lower (at units v) (at (raised units f k) v) (cond {A = ℕ} (eqb v f) k 0) (raised_at units f k v b) l

no_higher : (a b : ℤ) (x k : ℕ) → b ≡ a +ℤ pos x → x ≤ k → k ≤ MAX_SUPPLY → a ≤ℤ pos MAX_SUPPLY → b ≤ℤ pos (2 * MAX_SUPPLY)
no_higher a b x k h l m n = omega (arith, ints)

chosen_most : (b : Bool) (k : ℕ) → cond {A = ℕ} b k 0 ≤ k
chosen_most true k = omega arith
chosen_most false k = omega arith

pub raised_high : (units : List ℤ) (f k v : ℕ) → f < length units → k ≤ MAX_SUPPLY → at units v ≤ℤ pos MAX_SUPPLY → at (raised units f k) v ≤ℤ pos (2 * MAX_SUPPLY)
raised_high units f k v b few l = no_higher (at units v) (at (raised units f k) v) (cond {A = ℕ} (eqb v f) k 0) k (raised_at units f k v b) (chosen_most (eqb v f) k) few l

-- sums and differences as they are computed
pub sum_is : (x : ℤ) (k : ℕ) → (pos 0 -ℤ pos MAX_SUPPLY) ≤ℤ x → x ≤ℤ pos MAX_SUPPLY → k ≤ MAX_SUPPLY → to_z w32 (of_z w32 (to_z w32 (of_z w32 x) +ℤ to_z w32 k)) ≡ x +ℤ pos k
sum_is x k l h m = omega (arith, ints)

pub difference_is : (x : ℤ) (k : ℕ) → (pos 0 -ℤ pos MAX_SUPPLY) ≤ℤ x → x ≤ℤ pos (2 * MAX_SUPPLY) → k ≤ MAX_SUPPLY → to_z w32 (of_z w32 (to_z w32 (of_z w32 x) -ℤ to_z w32 k)) ≡ x -ℤ pos k
difference_is x k l h m = omega (arith, ints)

-- a network keeps being one while its supplies are fair
pub still_network : (net : NetworkModel) (f t k : ℕ) → IsNetwork net → HasSuppliesInRange (shifted net f t k) → IsNetwork (shifted net f t k)
still_network net f t k n in_range =
    let same : length (moved net.supplies f t k) ≡ length net.supplies = length-moved net.supplies f t k in
    record {
      small = (subst (λ (c : ℕ). c ≤ MAX_NODES) (sym same) n.small.0, n.small.1);
      ends = λ i b. (subst (λ (c : ℕ). (arc_at net i).from < c) (sym same) (n.ends i b).0, subst (λ (c : ℕ). (arc_at net i).to < c) (sym same) (n.ends i b).1);
      supplies = in_range;
      costs = n.costs;
    }
