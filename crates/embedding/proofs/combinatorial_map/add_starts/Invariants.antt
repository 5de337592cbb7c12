use Rattle.std.proofs.Common.{◌≡◌, List, ℕ, ◌++◌}
use Rattle.embedding.specs.Darts.{first_dart}
use Rattle.embedding.specs.Tables.{IsTable}
use Rattle.embedding.proofs.combinatorial_map.add_starts.Given as goal

abbrev pub invariant-loop-place : goal.invariant-loop-place
invariant-loop-place l =
    (starts : List ℕ) × IsTable l.place (first_dart l.lists) starts × (l.table.items ≡ l.initial.table.items ++ starts)
