-- Flags that tell which entries of a list came before.
use Rattle.std.proofs.Common.{◌≡◌, ◌≢◌, ℕ, ◌+◌, ◌<◌, ◌≤◌, List, length, get_or, ◌∙◌}
use Rattle.embedding.specs.declared.neighbour_lists.TheConstants.{VERTEX_NUMBERS}

-- the numbers flagged with the vertex are the first n entries of the list, which differ
pub record IsFlagging (list : List ℕ) (vertex : ℕ) (last : List ℕ) (n : ℕ) : Type 0 where
  pub size : length last ≡ VERTEX_NUMBERS
  pub flagged : (v : ℕ) → v < VERTEX_NUMBERS → get_or last v 0 ≤ vertex
  pub seen : (i : ℕ) → i < n → get_or last (get_or list i 0) 0 ≡ vertex
  pub named : (v : ℕ) → v < VERTEX_NUMBERS → get_or last v 0 ≡ vertex → (i : ℕ) × (i < n) × (get_or list i 0 ≡ v)
  pub apart : (i j : ℕ) → i < j → j < n → get_or list i 0 ≢ get_or list j 0
