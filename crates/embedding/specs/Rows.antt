-- The neighbours of each vertex of a small graph, as the bits of one word.
use Rattle.std.specs.Prelude.{◌≡◌, ℕ, ◌<◌, ◌≤◌, Bool, true, List, length, slice_index, All, Contains}
use Rattle.std.specs.Int.{bit_at}
use Rattle.embedding.specs.Lists.{list_of}
use Rattle.embedding.specs.Rules.{NamesTwice}

-- the word has the bit of v
abbrev pub HasBit : ℕ → ℕ → Type 0
HasBit word v = bit_at word v ≡ 1

-- one to four numbers up to n, which differ from each other and from u
pub record IsRow (n u : ℕ) (list : List ℕ) : Type 0 where
  pub some : 0 < length list
  pub short : length list ≤ 4
  pub range : All (λ v. v ≤ n) list
  pub loop : ¬ Contains list u
  pub multi : ¬ NamesTwice list

-- the word of each vertex has bits for entries of its list alone
abbrev pub IsRows : List (List ℕ) → List ℕ → Type 0
IsRows g rows = (u v : ℕ) → HasBit (slice_index rows u) v → Contains (list_of g u) v

-- the set s of vertices holds with each vertex all those of its word
abbrev pub IsClosedUnderRows : List ℕ → (ℕ → Bool) → Type 0
IsClosedUnderRows rows s = (u v : ℕ) → HasBit (slice_index rows u) v → s u ≡ true → s v ≡ true
