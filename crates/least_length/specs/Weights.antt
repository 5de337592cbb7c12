-- Weights of pairs of segments: each wire pulls its two segments together by one unit, each pair is pushed apart by its weight.
use Rattle.std.specs.Prelude.{◌≡◌, ℕ, ◌+◌, ◌<◌, ◌==◌, if◌then◌else◌, List, length, slice_index_or}
use Rattle.common.specs.Sums.{sum_below}
use Rattle.least_length.specs.declared.segments.Wire.{Wire}
use Rattle.least_length.specs.declared.segments.Segment.{Segment}
use Rattle.least_length.specs.declared.segments.Sight.{Sight}
use Rattle.least_length.specs.Lengths.{wire_at, segment_at, total_length, StandsBefore, KeepsOrder}

-- the value for pairs past the last
abbrev pub no_sight : Sight
no_sight = record { before = 0; behind = 0; weight = 0 }

abbrev pub sight_at : List Sight → ℕ → Sight
sight_at sights i = slice_index_or sights i no_sight

abbrev pub total_weight : List Sight → ℕ
total_weight sights = sum_below (length sights) (λ i. (sight_at sights i).weight)

-- the pull on segment r up: a unit for each wire that starts there, and the weights of pairs in which it is the second
abbrev pub up_at : List Wire → List Sight → ℕ → ℕ
up_at wires sights r = sum_below (length wires) (λ i. if (wire_at wires i).from == r then 1 else 0) + sum_below (length sights) (λ i. if (sight_at sights i).behind == r then (sight_at sights i).weight else 0)

-- the pull on segment r down: a unit for each wire that ends there, and the weights of pairs in which it is the first
abbrev pub down_at : List Wire → List Sight → ℕ → ℕ
down_at wires sights r = sum_below (length wires) (λ i. if (wire_at wires i).to == r then 1 else 0) + sum_below (length sights) (λ i. if (sight_at sights i).before == r then (sight_at sights i).weight else 0)

-- the first segment of the pair is before the second on some level
pub record IsSight (segments : List Segment) (sight : Sight) : Type 0 where
  pub first : sight.before < length segments
  pub second : sight.behind < length segments
  pub order : StandsBefore (segment_at segments sight.before) (segment_at segments sight.behind)

-- both ends of the wire are segments
pub record HasEnds (segments : List Segment) (wire : Wire) : Type 0 where
  pub from : wire.from < length segments
  pub to : wire.to < length segments

-- weights of pairs of segments that are in balance at each segment
pub record AreWeights (segments : List Segment) (wires : List Wire) (sights : List Sight) : Type 0 where
  pub ends : (i : ℕ) → i < length wires → HasEnds segments (wire_at wires i)
  pub pairs : (i : ℕ) → i < length sights → IsSight segments (sight_at sights i)
  pub balance : (r : ℕ) → r < length segments → up_at wires sights r ≡ down_at wires sights r

-- a certificate that these coordinates give least total length
pub record IsCertificate (segments : List Segment) (wires : List Wire) (coordinates : ℕ → ℕ) (sights : List Sight) : Type 0 where
  pub keeps : KeepsOrder segments coordinates
  pub weights : AreWeights segments wires sights
  pub total : total_weight sights ≡ total_length wires coordinates
