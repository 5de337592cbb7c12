-- A set of pairs of vertices, as one bit for each pair: 256 rows of four words.
use Rattle.std.specs.Prelude.{ℕ, ◌+◌, ◌*◌, ◌/◌, ◌%◌, List, slice_index, IsBitSet}

-- the words hold the pair of u and v
abbrev pub HasPair : List ℕ → ℕ → ℕ → Type 0
HasPair words u v = IsBitSet (slice_index words (4 * u + v / 64)) (v % 64)
