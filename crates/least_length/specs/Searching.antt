-- The state of the search for least coordinates: what its lists name is in range.
use Rattle.std.specs.Prelude.{◌≡◌, ℕ, ◌+◌, ◌*◌, ◌<◌, ◌≤◌, List, length, vec_len, slice_index, slice_index_or}
use Rattle.least_length.specs.declared.segments.TheConstants.{MAX_SEGMENTS, MAX_SIGHTS}
use Rattle.least_length.specs.declared.segments.Sight.{Sight}
use Rattle.least_length.specs.declared.sight_lists.LastSeen.{LastSeen}
use Rattle.least_length.specs.declared.pulling.Pulling.{Pulling}
use Rattle.least_length.specs.Weights.{sight_at}

-- the value for levels past the last
abbrev pub none_seen : LastSeen
none_seen = record { segment = 0; end = 0 }

abbrev pub seen_at : List LastSeen → ℕ → LastSeen
seen_at frontier level = slice_index_or frontier level none_seen

-- no segment met is past this many, counted from 1
abbrev pub IsMet : ℕ → List LastSeen → Type 0
IsMet count frontier = (level : ℕ) → (seen_at frontier level).segment ≤ count

-- both segments of the pair are below a count
pub record IsPair (count : ℕ) (sight : Sight) : Type 0 where
  pub before : sight.before < count
  pub behind : sight.behind < count

abbrev pub ArePairs : ℕ → List Sight → Type 0
ArePairs count sights = (i : ℕ) → i < length sights → IsPair count (sight_at sights i)

-- each entry is a segment
abbrev pub AreSegments : ℕ → List ℕ → Type 0
AreSegments count xs = (i : ℕ) → i < length xs → slice_index xs i < count

-- each mark is that of no segment, of the root or of a pair
abbrev pub AreMarks : ℕ → List ℕ → Type 0
AreMarks pairs xs = (r : ℕ) → slice_index xs r ≤ pairs + 1

-- the search can go on: lists have an entry for each segment, and name segments and pairs that are there
pub record IsReady (p : Pulling) : Type 0 where
  pub few_segments : vec_len p.coordinates ≤ MAX_SEGMENTS
  pub few_sights : vec_len p.sight_lists.sights ≤ MAX_SIGHTS
  pub pairs : ArePairs (vec_len p.coordinates) p.sight_lists.sights.items
  pub up : vec_len p.up ≡ vec_len p.coordinates
  pub down : vec_len p.down ≡ vec_len p.coordinates
  pub marked : vec_len p.marks ≡ vec_len p.coordinates
  pub marks : AreMarks (vec_len p.sight_lists.sights) p.marks.items
  pub reached : AreSegments (vec_len p.coordinates) p.reached.items
  pub lists : vec_len p.sight_lists.ends.firsts ≡ vec_len p.coordinates
  pub ends : vec_len p.sight_lists.ends.nexts ≡ 2 * vec_len p.sight_lists.sights
