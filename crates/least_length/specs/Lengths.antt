-- Segments on levels, the order that they keep, and lengths of wires.
use Rattle.std.specs.Prelude.{ℕ, ◌+◌, ◌-◌, ◌<◌, ◌≤◌, List, length, slice_index, slice_index_or}
use Rattle.common.specs.Sums.{sum_below}
use Rattle.least_length.specs.declared.segments.Wire.{Wire}
use Rattle.least_length.specs.declared.segments.Segment.{Segment}

-- the value for segments past the last
abbrev pub no_segment : Segment
no_segment = record { coordinate = 0; low = 0; high = 0 }

abbrev pub segment_at : List Segment → ℕ → Segment
segment_at segments r = slice_index_or segments r no_segment

-- the value for wires past the last
abbrev pub no_wire : Wire
no_wire = record { from = 0; to = 0; level = 0 }

abbrev pub wire_at : List Wire → ℕ → Wire
wire_at wires i = slice_index_or wires i no_wire

-- the segment crosses the level
abbrev pub HasLevel : Segment → ℕ → Type 0
HasLevel segment level = (segment.low ≤ level) × (level ≤ segment.high)

-- some level is crossed by both segments, and there the first is before the second
pub record StandsBefore (first second : Segment) : Type 0 where
  pub level : ℕ
  pub here : HasLevel first level
  pub there : HasLevel second level
  pub less : first.coordinate < second.coordinate

-- with these coordinates segments keep their current order on each level
abbrev pub KeepsOrder : List Segment → (ℕ → ℕ) → Type 0
KeepsOrder segments coordinates = (r s : ℕ) → r < length segments → s < length segments → StandsBefore (segment_at segments r) (segment_at segments s) → coordinates r < coordinates s

-- the distance of two coordinates
abbrev pub distance : ℕ → ℕ → ℕ
distance a b = (a - b) + (b - a)

-- the total length of all wires
abbrev pub total_length : List Wire → (ℕ → ℕ) → ℕ
total_length wires coordinates = sum_below (length wires) (λ i. distance (coordinates (wire_at wires i).from) (coordinates (wire_at wires i).to))

-- the coordinates keep the order, and no coordinates that keep it give a lesser total length
pub record IsShortest (segments : List Segment) (wires : List Wire) (coordinates : ℕ → ℕ) : Type 0 where
  pub keeps : KeepsOrder segments coordinates
  pub least : (others : ℕ → ℕ) → KeepsOrder segments others → total_length wires coordinates ≤ total_length wires others

-- the coordinate of each segment, from a list
abbrev pub coordinates_in : List ℕ → ℕ → ℕ
coordinates_in xs r = slice_index xs r
