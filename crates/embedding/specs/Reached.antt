-- The vertices that are reached from vertex 1, as flags and as a queue.
use Rattle.std.specs.Prelude.{◌≡◌, ℕ, ◌<◌, Bool, true, false, List, length, slice_index, slice_index_or, if◌then◌else◌}
use Rattle.common.specs.Sums.{sum_below}
use Rattle.embedding.specs.declared.neighbour_lists.TheConstants.{VERTEX_NUMBERS}
use Rattle.embedding.specs.Rules.{IsClosed}

-- the flag of v is set
abbrev pub Holds : List Bool → ℕ → Type 0
Holds flags v = slice_index_or flags v false ≡ true

-- the first `found` places of the queue are the flagged numbers, each once
pub record IsQueue (reached : List Bool) (queue : List ℕ) (found : ℕ) : Type 0 where
  pub flags : length reached ≡ VERTEX_NUMBERS
  pub places : length queue ≡ VERTEX_NUMBERS
  pub count : sum_below (length reached) (λ v. if slice_index_or reached v false then 1 else 0) ≡ found
  pub queued : (i : ℕ) → i < found → Holds reached (slice_index queue i)
  pub placed : (v : ℕ) → Holds reached v → (i : ℕ) × (i < found) × (slice_index queue i ≡ v)

-- the flagged numbers are the least set closed under adjacency that holds vertex 1
pub record IsReached (g : List (List ℕ)) (reached : List Bool) : Type 0 where
  pub flags : length reached ≡ VERTEX_NUMBERS
  pub first : Holds reached 1
  pub closed : IsClosed g (λ v. slice_index_or reached v false)
  pub least : (s : ℕ → Bool) → s 1 ≡ true → IsClosed g s → (v : ℕ) → Holds reached v → s v ≡ true
