-- Why a set that no residual arc leaves, or none enters, shows that there is no flow.
use Rattle.std.proofs.Common.{◌≡◌, ◌≤◌, ◌<◌, ℕ, ◌+◌, ◌*◌, cond, Bool, true, false, refl, arith}
use Rattle.std.specs.Prelude.{ℤ, pos, ◌+ℤ◌, ◌-ℤ◌, ◌≤ℤ◌, ◌<ℤ◌}
use Rattle.std.proofs.lemmas.Bool.{both_ways}
use Rattle.std.proofs.lemmas.Int.{ints}
use Rattle.common.specs.Sums.{sum_below}
use Rattle.common.proofs.Sums.{sum_below-le, sum_below-lt, sum_below-add}
use Rattle.min_cost_flow.specs.declared.network.Cap.{Cap}
use Rattle.min_cost_flow.specs.declared.network.Cap.TheVariants.{AtMost, Any}
use Rattle.min_cost_flow.specs.Networks.{NetworkModel, node_count, arc_count, arc_at, supply_at, HasEnds}
use Rattle.min_cost_flow.specs.Flow.{outflow, inflow, IsWithinCap, IsUnsaturated, HasNoFlow}
use Rattle.min_cost_flow.specs.Excess.{HasExcess, IsClosedOut, IsClosedIn}
use Rattle.min_cost_flow.proofs.Duality.{at_starts, at_ends, sides_are}

-- no room: no amount within the capacity is larger
pub full_most : (c : Cap) (x y : ℕ) → (IsUnsaturated c x → ⊥) → IsWithinCap c y → y ≤ x
full_most (AtMost k) x y full h = omega arith
full_most Any x y full h = absurd (full tt)

-- an arc that carries nothing carries no more than another amount
idle : (x y : ℕ) → (0 < x → ⊥) → x ≤ y
idle x y h = omega arith

-- the weight of a set: 1 for its members
abbrev weight : (ℕ → Bool) → ℕ → ℕ
weight s v = cond (s v) 1 0

-- across the border of a set, x sends at least as much as y out, and at most as much in
border : (f t : Bool) (x y : ℕ) → (f ≡ true → t ≡ false → y ≤ x) → (t ≡ true → f ≡ false → x ≤ y) → cond f 1 0 * y + cond t 1 0 * x ≤ cond f 1 0 * x + cond t 1 0 * y
border true true x y out into = omega arith
border true false x y out into = omega (arith, out refl refl)
border false true x y out into = omega (arith, into refl refl)
border false false x y out into = omega arith

more_out : (a b c d : ℕ) (e s : ℤ) → (pos a -ℤ pos b) +ℤ e ≡ s → pos c -ℤ pos d ≡ s → pos 0 ≤ℤ e → a + d ≤ c + b
more_out a b c d e s h k z = omega (arith, ints)

most_out : (a b c d : ℕ) (e s : ℤ) → (pos a -ℤ pos b) +ℤ e ≡ s → pos c -ℤ pos d ≡ s → pos 0 <ℤ e → a + d < c + b
most_out a b c d e s h k z = omega (arith, ints)

more_in : (a b c d : ℕ) (e s : ℤ) → (pos a -ℤ pos b) +ℤ e ≡ s → pos c -ℤ pos d ≡ s → e ≤ℤ pos 0 → c + b ≤ a + d
more_in a b c d e s h k z = omega (arith, ints)

most_in : (a b c d : ℕ) (e s : ℤ) → (pos a -ℤ pos b) +ℤ e ≡ s → pos c -ℤ pos d ≡ s → e <ℤ pos 0 → c + b < a + d
most_in a b c d e s h k z = omega (arith, ints)

-- a smaller number at the members weighs no more
weighed_le : (b : Bool) (f g : ℕ) → (b ≡ true → f ≤ g) → cond b 1 0 * f ≤ cond b 1 0 * g
weighed_le true f g h = omega (arith, h refl)
weighed_le false f g h = omega arith

weighed_lt : (b : Bool) (f g : ℕ) → b ≡ true → f < g → cond b 1 0 * f < cond b 1 0 * g
weighed_lt true f g e h = omega arith
weighed_lt false f g e h = cc

-- the sums of two sides over arcs, where each arc's part is no more
sides_le : (net : NetworkModel) (x y w : ℕ → ℕ) → ((i : ℕ) → i < arc_count net → w (arc_at net i).from * y i + w (arc_at net i).to * x i ≤ w (arc_at net i).from * x i + w (arc_at net i).to * y i) → at_starts net w y + at_ends net w x ≤ at_starts net w x + at_ends net w y
sides_le net x y w part =
    let m = arc_count net in
    let fy : ℕ → ℕ = λ i. w (arc_at net i).from * y i in
    let tx : ℕ → ℕ = λ i. w (arc_at net i).to * x i in
    let fx : ℕ → ℕ = λ i. w (arc_at net i).from * x i in
    let ty : ℕ → ℕ = λ i. w (arc_at net i).to * y i in
    let whole : sum_below m (λ i. fy i + tx i) ≤ sum_below m (λ i. fx i + ty i) = sum_below-le m (λ i. fy i + tx i) (λ i. fx i + ty i) part in
    let l : sum_below m (λ i. fy i + tx i) ≡ sum_below m fy + sum_below m tx = sum_below-add m fy tx in
    let r : sum_below m (λ i. fx i + ty i) ≡ sum_below m fx + sum_below m ty = sum_below-add m fx ty in
    omega arith

-- a set that no residual arc leaves, with nothing wanting and something left over: there is no flow
pub no_flow_out : (net : NetworkModel) (x : ℕ → ℕ) (e : ℕ → ℤ) (s : ℕ → Bool) (u : ℕ) → HasEnds net → HasExcess net x e → IsClosedOut net x s → ((v : ℕ) → v < node_count net → s v ≡ true → pos 0 ≤ℤ e v) → u < node_count net → s u ≡ true → pos 0 <ℤ e u → HasNoFlow net
no_flow_out net x e s u ends lv closed none inside su eu y fy =
    let n = node_count net in
    let m = arc_count net in
    let w : ℕ → ℕ = weight s in
    let f : ℕ → ℕ = λ v. w v * (outflow net x v + inflow net y v) in
    let g : ℕ → ℕ = λ v. w v * (outflow net y v + inflow net x v) in
    let le : (v : ℕ) → v < n → f v ≤ g v = λ v b.
    weighed_le (s v) (outflow net x v + inflow net y v) (outflow net y v + inflow net x v)
    (λ sv. more_out (outflow net x v) (inflow net x v) (outflow net y v) (inflow net y v) (e v) (supply_at net v) (lv.at_node v b) (fy.meets v b) (none v b sv)) in
    let lt : f u < g u =
    weighed_lt (s u) (outflow net x u + inflow net y u) (outflow net y u + inflow net x u) su
    (most_out (outflow net x u) (inflow net x u) (outflow net y u) (inflow net y u) (e u) (supply_at net u) (lv.at_node u inside) (fy.meets u inside) eu) in
    let less : sum_below n f < sum_below n g = sum_below-lt n u f g inside le lt in
    let by_f : sum_below n f ≡ at_starts net w x + at_ends net w y = sides_are net x y w ends in
    let by_g : sum_below n g ≡ at_starts net w y + at_ends net w x = sides_are net y x w ends in
    let arcs : at_starts net w y + at_ends net w x ≤ at_starts net w x + at_ends net w y =
    sides_le net x y w (λ i b. border (s (arc_at net i).from) (s (arc_at net i).to) (x i) (y i)
    (λ sf st. full_most (arc_at net i).cap (x i) (y i) (λ r. both_ways (s (arc_at net i).to) st (closed.stays i false b r sf)) (fy.within i b))
    (λ st sf. idle (x i) (y i) (λ r. both_ways (s (arc_at net i).from) sf (closed.stays i true b r st)))) in
    omega arith

-- a set that no residual arc enters, with nothing left over and something wanting: there is no flow
pub no_flow_into : (net : NetworkModel) (x : ℕ → ℕ) (e : ℕ → ℤ) (s : ℕ → Bool) (u : ℕ) → HasEnds net → HasExcess net x e → IsClosedIn net x s → ((v : ℕ) → v < node_count net → s v ≡ true → e v ≤ℤ pos 0) → u < node_count net → s u ≡ true → e u <ℤ pos 0 → HasNoFlow net
no_flow_into net x e s u ends lv closed none inside su eu y fy =
    let n = node_count net in
    let m = arc_count net in
    let w : ℕ → ℕ = weight s in
    let f : ℕ → ℕ = λ v. w v * (outflow net y v + inflow net x v) in
    let g : ℕ → ℕ = λ v. w v * (outflow net x v + inflow net y v) in
    let le : (v : ℕ) → v < n → f v ≤ g v = λ v b.
    weighed_le (s v) (outflow net y v + inflow net x v) (outflow net x v + inflow net y v)
    (λ sv. more_in (outflow net x v) (inflow net x v) (outflow net y v) (inflow net y v) (e v) (supply_at net v) (lv.at_node v b) (fy.meets v b) (none v b sv)) in
    let lt : f u < g u =
    weighed_lt (s u) (outflow net y u + inflow net x u) (outflow net x u + inflow net y u) su
    (most_in (outflow net x u) (inflow net x u) (outflow net y u) (inflow net y u) (e u) (supply_at net u) (lv.at_node u inside) (fy.meets u inside) eu) in
    let less : sum_below n f < sum_below n g = sum_below-lt n u f g inside le lt in
    let by_f : sum_below n f ≡ at_starts net w y + at_ends net w x = sides_are net y x w ends in
    let by_g : sum_below n g ≡ at_starts net w x + at_ends net w y = sides_are net x y w ends in
    let arcs : at_starts net w x + at_ends net w y ≤ at_starts net w y + at_ends net w x =
    sides_le net y x w (λ i b. border (s (arc_at net i).from) (s (arc_at net i).to) (y i) (x i)
    (λ sf st. idle (x i) (y i) (λ r. both_ways (s (arc_at net i).to) st (closed.stays i true b r sf)))
    (λ st sf. full_most (arc_at net i).cap (x i) (y i) (λ r. both_ways (s (arc_at net i).from) sf (closed.stays i false b r st)) (fy.within i b))) in
    omega arith
