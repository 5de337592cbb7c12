-- Weighing a flow by a number for each node, and why potentials show that a flow costs least.
use Rattle.std.proofs.Common.{◌≡◌, ◌≤◌, ◌<◌, ℕ, ◌+◌, ◌*◌, ◌-◌, true, false, sym, ◌∙◌, ap, inl, inr, arith}
use Rattle.std.specs.Prelude.{ℤ, pos, ◌+ℤ◌, ◌-ℤ◌, ◌≤ℤ◌, zero, suc}
use Rattle.std.proofs.Math.Nat.{mul-le-mul_left, mul-add}
use Rattle.std.proofs.lemmas.Bool.{cases_order}
use Rattle.std.proofs.lemmas.Int.{ints}
use borrow.Author.Differences.{up, down}
use Rattle.common.specs.Sums.{sum_below}
use Rattle.common.proofs.Sums.{sum_below-same, sum_below-le, sum_below-add, exchanged}
use Rattle.min_cost_flow.specs.declared.network.Cap.{Cap}
use Rattle.min_cost_flow.specs.declared.network.Cap.TheVariants.{AtMost, Any}
use Rattle.min_cost_flow.specs.Networks.{NetworkModel, node_count, arc_count, arc_at, supply_at, HasEnds}
use Rattle.min_cost_flow.specs.Flow.{outflow, inflow, net_outflow, cost_of, IsWithinCap, IsUnsaturated, Flow, IsLeastCost, HasPotentials}

-- amounts weighed by the numbers of the arcs' starts, and of their ends
abbrev pub at_starts : NetworkModel → (ℕ → ℕ) → (ℕ → ℕ) → ℕ
at_starts net w x = sum_below (arc_count net) (λ i. w (arc_at net i).from * x i)

abbrev pub at_ends : NetworkModel → (ℕ → ℕ) → (ℕ → ℕ) → ℕ
at_ends net w x = sum_below (arc_count net) (λ i. w (arc_at net i).to * x i)

-- what leaves by x and what enters by y, weighed by node
pub sides_are : (net : NetworkModel) (x y w : ℕ → ℕ) → HasEnds net → sum_below (node_count net) (λ v. w v * (outflow net x v + inflow net y v)) ≡ at_starts net w x + at_ends net w y
sides_are net x y w ends =
    let n = node_count net in
    let m = arc_count net in
    let out : sum_below n (λ v. w v * outflow net x v) ≡ at_starts net w x = exchanged m n (λ i. (arc_at net i).from) x w (λ i b. (ends i b).0) in
    let into : sum_below n (λ v. w v * inflow net y v) ≡ at_ends net w y = exchanged m n (λ i. (arc_at net i).to) y w (λ i b. (ends i b).1) in
    let parted : sum_below n (λ v. w v * (outflow net x v + inflow net y v)) ≡ sum_below n (λ v. w v * outflow net x v + w v * inflow net y v) =
    sum_below-same n (λ v. w v * (outflow net x v + inflow net y v)) (λ v. w v * outflow net x v + w v * inflow net y v) (λ v b. mul-add (w v) (outflow net x v) (inflow net y v)) in
    let both : sum_below n (λ v. w v * outflow net x v + w v * inflow net y v) ≡ sum_below n (λ v. w v * outflow net x v) + sum_below n (λ v. w v * inflow net y v) =
    sum_below-add n (λ v. w v * outflow net x v) (λ v. w v * inflow net y v) in
    omega arith

balances : (a b c d : ℕ) → pos a -ℤ pos b ≡ pos c -ℤ pos d → a + d ≡ c + b
balances a b c d h = omega (arith, ints)

-- two flows weigh the same, whatever the weights
pub same_weight : (net : NetworkModel) (x y w : ℕ → ℕ) → HasEnds net → Flow net x → Flow net y → at_starts net w x + at_ends net w y ≡ at_starts net w y + at_ends net w x
same_weight net x y w ends fx fy =
    let n = node_count net in
    let node : (v : ℕ) → v < n → outflow net x v + inflow net y v ≡ outflow net y v + inflow net x v = λ v b.
    let hx : net_outflow net x v ≡ supply_at net v = fx.meets v b in
    let hy : net_outflow net y v ≡ supply_at net v = fy.meets v b in
    balances (outflow net x v) (inflow net x v) (outflow net y v) (inflow net y v) (hx ∙ sym hy) in
    let same : sum_below n (λ v. w v * (outflow net x v + inflow net y v)) ≡ sum_below n (λ v. w v * (outflow net y v + inflow net x v)) =
    sum_below-same n (λ v. w v * (outflow net x v + inflow net y v)) (λ v. w v * (outflow net y v + inflow net x v)) (λ v b. ap (λ (t : ℕ). w v * t) (node v b)) in
    sym (sides_are net x y w ends) ∙ same ∙ sides_are net y x w ends

rest : (x y : ℕ) → x < y → (d : ℕ) × (y ≡ x + d)
rest x y l = (y - x, omega arith)

exchange_up : (x y d a b : ℕ) → y ≡ x + d → b ≤ a → a * x + b * y ≤ a * y + b * x
exchange_up x y d a b e h = rw e (omega (arith, mul-le-mul_left d h))

exchange_down : (x y d a b : ℕ) → x ≡ y + d → a ≤ b → a * x + b * y ≤ a * y + b * x
exchange_down x y d a b e h = rw e (omega (arith, mul-le-mul_left d h))

-- the larger amount at the smaller cost: exchanging the amounts x and y at the unit costs a and b
pub arc_part : (x y a b : ℕ) → (x < y → b ≤ a) → (y < x → a ≤ b) → a * x + b * y ≤ a * y + b * x
arc_part x y a b more less =
    elim (cases_order x y) [
      | inl e ↦ omega (arith, ap (λ (t : ℕ). a * t) e, ap (λ (t : ℕ). b * t) e)
      | inr o ↦ elim o [
        | inl l ↦ let (d, e) = rest x y l in exchange_up x y d a b e (more l)
        | inr l ↦ let (d, e) = rest y x l in exchange_down x y d a b e (less l)
      ]
    ]

-- a larger amount within the capacity shows room for one unit more
pub unsaturated_below : (c : Cap) (x y : ℕ) → IsWithinCap c y → x < y → IsUnsaturated c x
unsaturated_below (AtMost k) x y h l = omega arith
unsaturated_below Any x y h l = tt

five : (m : ℕ) (a b c d e : ℕ → ℕ) → sum_below m (λ i. a i + b i + c i + (d i + e i)) ≡ sum_below m a + sum_below m b + sum_below m c + (sum_below m d + sum_below m e)
five zero a b c d e = omega arith
five (suc m) a b c d e = omega (arith, five m a b c d e)

-- one arc's part: its cost and the potentials of its ends, each as what it is above 0 less what it is below 0
one_arc : (c x y us ds ut dt : ℕ) → (x < y → ut + ds ≤ c + us + dt) → (y < x → c + us + dt ≤ ut + ds) → c * x + us * x + dt * x + (ut * y + ds * y) ≤ c * y + us * y + dt * y + (ut * x + ds * x)
one_arc c x y us ds ut dt more less = omega (arith, arc_part x y (c + us + dt) (ut + ds) more less)

forward_part : (c : ℕ) (s t : ℤ) → pos 0 ≤ℤ (pos c +ℤ s -ℤ t) → up t + down s ≤ c + up s + down t
forward_part c s t h = omega (arith, ints)

backward_part : (c : ℕ) (s t : ℤ) → pos 0 ≤ℤ ((pos 0 -ℤ pos c) +ℤ t -ℤ s) → c + up s + down t ≤ up t + down s
backward_part c s t h = omega (arith, ints)

-- a flow whose residual arcs all have reduced cost at least 0 costs no more than any other
pub least_by_potentials : (net : NetworkModel) (x : ℕ → ℕ) (p : ℕ → ℤ) → HasEnds net → Flow net x → HasPotentials net x p → IsLeastCost net x
least_by_potentials net x p ends fx hp y fy =
    let m = arc_count net in
    let cost = λ (i : ℕ). (arc_at net i).cost in
    let s = λ (i : ℕ). p (arc_at net i).from in
    let t = λ (i : ℕ). p (arc_at net i).to in
    let left : ℕ → ℕ = λ i. cost i * x i + up (s i) * x i + down (t i) * x i + (up (t i) * y i + down (s i) * y i) in
    let right : ℕ → ℕ = λ i. cost i * y i + up (s i) * y i + down (t i) * y i + (up (t i) * x i + down (s i) * x i) in
    let part : (i : ℕ) → i < m → left i ≤ right i = λ i b.
    one_arc (cost i) (x i) (y i) (up (s i)) (down (s i)) (up (t i)) (down (t i))
    (λ l. forward_part (cost i) (s i) (t i) (hp.residual i false b (unsaturated_below (arc_at net i).cap (x i) (y i) (fy.within i b) l)))
    (λ l. backward_part (cost i) (s i) (t i) (hp.residual i true b (omega arith))) in
    let whole : sum_below m left ≤ sum_below m right = sum_below-le m left right part in
    let by_left : sum_below m left ≡ cost_of net x + at_starts net (λ v. up (p v)) x + at_ends net (λ v. down (p v)) x + (at_ends net (λ v. up (p v)) y + at_starts net (λ v. down (p v)) y) =
    five m (λ i. cost i * x i) (λ i. up (s i) * x i) (λ i. down (t i) * x i) (λ i. up (t i) * y i) (λ i. down (s i) * y i) in
    let by_right : sum_below m right ≡ cost_of net y + at_starts net (λ v. up (p v)) y + at_ends net (λ v. down (p v)) y + (at_ends net (λ v. up (p v)) x + at_starts net (λ v. down (p v)) x) =
    five m (λ i. cost i * y i) (λ i. up (s i) * y i) (λ i. down (t i) * y i) (λ i. up (t i) * x i) (λ i. down (s i) * x i) in
    let ups : at_starts net (λ v. up (p v)) x + at_ends net (λ v. up (p v)) y ≡ at_starts net (λ v. up (p v)) y + at_ends net (λ v. up (p v)) x =
    same_weight net x y (λ v. up (p v)) ends fx fy in
    let downs : at_starts net (λ v. down (p v)) x + at_ends net (λ v. down (p v)) y ≡ at_starts net (λ v. down (p v)) y + at_ends net (λ v. down (p v)) x =
    same_weight net x y (λ v. down (p v)) ends fx fy in
    omega arith
