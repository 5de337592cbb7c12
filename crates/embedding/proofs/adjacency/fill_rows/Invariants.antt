use Rattle.std.proofs.Common.{ℕ, ◌+◌, ◌<◌, [], length, get_or}
use Rattle.std.specs.List.{All}
use Rattle.embedding.specs.Rows.{HasBit, IsRow, IsRows}
use Rattle.embedding.proofs.adjacency.fill_rows.Given as goal

abbrev pub invariant-loop-place : goal.invariant-loop-place
invariant-loop-place l = record {
  rows : IsRows l.lists l.rows;
  each : (k : ℕ) → k < l.place → IsRow (length l.lists) (k + 1) (get_or l.lists k []);
  columns : (k : ℕ) → k < l.place → All (λ v. HasBit (get_or l.columns v 0) (k + 1)) (get_or l.lists k []);
}
