-- Why weights in balance bound the length of all coordinates.
use Rattle.std.proofs.Common.{◌≡◌, ◌≤◌, ◌<◌, ℕ, ◌+◌, ◌*◌, List, length, refl, sym, ap, ◌∙◌, arith}
use Rattle.std.specs.Prelude.{◌==◌, ◌↔◌, if◌then◌else◌, Bool, true}
use Rattle.std.proofs.Math.Nat.{mul-le-mul_left, mul-add}
use Rattle.common.specs.Sums.{sum_below}
use Rattle.common.proofs.Sums.{sum_below-same, sum_below-le, sum_below-add, exchanged}
use Rattle.least_length.specs.declared.segments.Wire.{Wire}
use Rattle.least_length.specs.declared.segments.Segment.{Segment}
use Rattle.least_length.specs.declared.segments.Sight.{Sight}
use Rattle.least_length.specs.Lengths.{wire_at, distance, total_length, IsShortest, KeepsOrder}
use Rattle.least_length.specs.Weights.{sight_at, total_weight, up_at, down_at, AreWeights, HasEnds, IsCertificate, IsSight}

-- the coordinates of the segments where wires start, and where they end
abbrev pub at_starts : List Wire → (ℕ → ℕ) → ℕ
at_starts wires x = sum_below (length wires) (λ i. x (wire_at wires i).from * 1)

abbrev pub at_ends : List Wire → (ℕ → ℕ) → ℕ
at_ends wires x = sum_below (length wires) (λ i. x (wire_at wires i).to * 1)

-- the coordinates of the segments that are first in pairs, and of those that are second, each times the weight
abbrev pub before_weighed : List Sight → (ℕ → ℕ) → ℕ
before_weighed sights x = sum_below (length sights) (λ i. x (sight_at sights i).before * (sight_at sights i).weight)

abbrev pub behind_weighed : List Sight → (ℕ → ℕ) → ℕ
behind_weighed sights x = sum_below (length sights) (λ i. x (sight_at sights i).behind * (sight_at sights i).weight)

-- two sums, each sorted by place, with the places' coordinates
both_exchanged : (n m k : ℕ) (at : ℕ → ℕ) (to : ℕ → ℕ) (w x : ℕ → ℕ) → ((i : ℕ) → i < m → at i < n) → ((i : ℕ) → i < k → to i < n) → (ups : ℕ → ℕ) → ((r : ℕ) → r < n → ups r ≡ sum_below m (λ i. if at i == r then 1 else 0) + sum_below k (λ i. if to i == r then w i else 0)) → sum_below n (λ r. x r * ups r) ≡ sum_below m (λ i. x (at i) * 1) + sum_below k (λ i. x (to i) * w i)
both_exchanged n m k at to w x ha ht ups e =
    let a : ℕ → ℕ = λ r. sum_below m (λ i. if at i == r then 1 else 0) in
    let b : ℕ → ℕ = λ r. sum_below k (λ i. if to i == r then w i else 0) in
    let first : sum_below n (λ r. x r * a r) ≡ sum_below m (λ i. x (at i) * 1) = exchanged m n at (λ _. 1) x ha in
    let second : sum_below n (λ r. x r * b r) ≡ sum_below k (λ i. x (to i) * w i) = exchanged k n to w x ht in
    let parted : sum_below n (λ r. x r * ups r) ≡ sum_below n (λ r. x r * a r + x r * b r) =
    sum_below-same n (λ r. x r * ups r) (λ r. x r * a r + x r * b r) (λ r h. ap (λ (t : ℕ). x r * t) (e r h) ∙ mul-add (x r) (a r) (b r)) in
    let added : sum_below n (λ r. x r * a r + x r * b r) ≡ sum_below n (λ r. x r * a r) + sum_below n (λ r. x r * b r) =
    sum_below-add n (λ r. x r * a r) (λ r. x r * b r) in
    omega arith

-- weights in balance move the coordinates as wires do
pub in_balance : (segments : List Segment) (wires : List Wire) (sights : List Sight) (x : ℕ → ℕ) → AreWeights segments wires sights → at_starts wires x + behind_weighed sights x ≡ at_ends wires x + before_weighed sights x
in_balance segments wires sights x w =
    let n = length segments in
    let m = length wires in
    let k = length sights in
    let up : sum_below n (λ r. x r * up_at wires sights r) ≡ at_starts wires x + behind_weighed sights x =
    both_exchanged n m k (λ i. (wire_at wires i).from) (λ i. (sight_at sights i).behind) (λ i. (sight_at sights i).weight) x (λ i h. (w.ends i h).from) (λ i h. (w.pairs i h).second) (up_at wires sights) (λ r h. refl) in
    let down : sum_below n (λ r. x r * down_at wires sights r) ≡ at_ends wires x + before_weighed sights x =
    both_exchanged n m k (λ i. (wire_at wires i).to) (λ i. (sight_at sights i).before) (λ i. (sight_at sights i).weight) x (λ i h. (w.ends i h).to) (λ i h. (w.pairs i h).first) (down_at wires sights) (λ r h. refl) in
    let same : sum_below n (λ r. x r * up_at wires sights r) ≡ sum_below n (λ r. x r * down_at wires sights r) =
    sum_below-same n (λ r. x r * up_at wires sights r) (λ r. x r * down_at wires sights r) (λ r h. ap (λ (t : ℕ). x r * t) (w.balance r h)) in
    sym up ∙ same ∙ down

next : (a b : ℕ) → a < b → a + 1 ≤ b
next a b h = omega arith

-- a pair whose coordinates differ
one_pair : (a b w : ℕ) → a < b → a * w + w ≤ b * w
one_pair a b w h =
    let more : w * (a + 1) ≤ w * b = mul-le-mul_left w (next a b h) in
    omega arith

-- no more than the other end and the distance
one_wire : (a b : ℕ) → b * 1 ≤ a * 1 + distance a b
one_wire a b = omega arith

-- weights in balance bound the length of all coordinates that keep the order
pub weights_bound : (segments : List Segment) (wires : List Wire) (sights : List Sight) (x : ℕ → ℕ) → AreWeights segments wires sights → KeepsOrder segments x → total_weight sights ≤ total_length wires x
weights_bound segments wires sights x w keeps =
    let m = length wires in
    let k = length sights in
    let before : ℕ → ℕ = λ i. x (sight_at sights i).before * (sight_at sights i).weight in
    let behind : ℕ → ℕ = λ i. x (sight_at sights i).behind * (sight_at sights i).weight in
    let weight : ℕ → ℕ = λ i. (sight_at sights i).weight in
    let pairs : sum_below k (λ i. before i + weight i) ≤ sum_below k behind =
    sum_below-le k (λ i. before i + weight i) behind (λ i h. let s = w.pairs i h in one_pair (x (sight_at sights i).before) (x (sight_at sights i).behind) (sight_at sights i).weight (keeps _ _ s.first s.second s.order)) in
    let parted : sum_below k (λ i. before i + weight i) ≡ before_weighed sights x + total_weight sights = sum_below-add k before weight in
    let starts : ℕ → ℕ = λ i. x (wire_at wires i).from * 1 in
    let ends : ℕ → ℕ = λ i. x (wire_at wires i).to * 1 in
    let lengths : ℕ → ℕ = λ i. distance (x (wire_at wires i).from) (x (wire_at wires i).to) in
    let reach : sum_below m ends ≤ sum_below m (λ i. starts i + lengths i) =
    sum_below-le m ends (λ i. starts i + lengths i) (λ i h. one_wire (x (wire_at wires i).from) (x (wire_at wires i).to)) in
    let reached : sum_below m (λ i. starts i + lengths i) ≡ at_starts wires x + total_length wires x = sum_below-add m starts lengths in
    let balance : at_starts wires x + behind_weighed sights x ≡ at_ends wires x + before_weighed sights x = in_balance segments wires sights x w in
    omega arith

-- a certificate shows that coordinates give wires of least total length
pub certified : (segments : List Segment) (wires : List Wire) (x : ℕ → ℕ) (sights : List Sight) → IsCertificate segments wires x sights → IsShortest segments wires x
certified segments wires x sights c = record {
  keeps = c.keeps;
  least = λ others keeps. let bound : total_weight sights ≤ total_length wires others = weights_bound segments wires sights others c.weights keeps in omega (arith, c.total);
}

-- with all else a certificate, a test of balance tests the certificate
pub certificate_parts : (segments : List Segment) (wires : List Wire) (x : ℕ → ℕ) (sights : List Sight) (found : Bool) → KeepsOrder segments x → ((i : ℕ) → i < length wires → HasEnds segments (wire_at wires i)) → ((i : ℕ) → i < length sights → IsSight segments (sight_at sights i)) → total_weight sights ≡ total_length wires x → ((found ≡ true) ↔ ((r : ℕ) → r < length segments → up_at wires sights r ≡ down_at wires sights r)) → (found ≡ true) ↔ IsCertificate segments wires x sights
certificate_parts segments wires x sights found keeps ends pairs total even =
    (λ h. record { keeps = keeps; weights = record { ends = ends; pairs = pairs; balance = even.0 h }; total = total }, λ c. even.1 c.weights.balance)
