-- The segments of one axis, and lists of them by coordinate: each index that they hold is in range.
use Rattle.std.specs.Prelude.{ℕ, ◌<◌, ◌≤◌, ◌+◌, List, length, slice_index, slice_index_or}
use Rattle.visibility.specs.declared.segments.TheConstants.{MAX_COORDINATE, MAX_SEGMENTS}
use Rattle.visibility.specs.declared.segments.Segment.{Segment}

-- the value for segments past the last
abbrev pub no_segment : Segment
no_segment = record { coordinate = 0; begins_on = 0; ends_on = 0; begun = 0; ended = 0; next = 0; parts = 0 }

abbrev pub segment_at : List Segment → ℕ → Segment
segment_at segments r = slice_index_or segments r no_segment

-- few enough for lists, at coordinates for which lists have room, and each `next` is 0 or one more than an index
pub record AreFew (segments : List Segment) : Type 0 where
  pub few : length segments ≤ MAX_SEGMENTS
  pub low : (r : ℕ) → (segment_at segments r).coordinate ≤ MAX_COORDINATE
  pub nexts : (r : ℕ) → (segment_at segments r).next ≤ length segments

-- each segment has a coordinate below this one
abbrev pub AreBelow : ℕ → List Segment → Type 0
AreBelow room segments = (r : ℕ) → r < length segments → (segment_at segments r).coordinate < room

-- lists by coordinate, with an entry for each coordinate; each entry and each `next` is 0 or one more than an index
pub record AreListed (segments : List Segment) (lists : List ℕ) : Type 0 where
  pub few : length segments ≤ MAX_SEGMENTS
  pub room : length lists ≤ MAX_COORDINATE + 1
  pub coordinates : AreBelow (length lists) segments
  pub firsts : (c : ℕ) → slice_index lists c ≤ length segments
  pub nexts : (r : ℕ) → (segment_at segments r).next ≤ length segments

-- each segment begins and ends on one of the `others` segments of the other axis
pub record HaveEnds (segments : List Segment) (others : ℕ) : Type 0 where
  pub begins : (r : ℕ) → r < length segments → (segment_at segments r).begins_on < others
  pub ends : (r : ℕ) → r < length segments → (segment_at segments r).ends_on < others

-- whatever holds of the ends of the old segments holds of those of the new ones
abbrev pub KeepEnds : List Segment → List Segment → Type 0
KeepEnds old new = (others : ℕ) → HaveEnds old others → HaveEnds new others
