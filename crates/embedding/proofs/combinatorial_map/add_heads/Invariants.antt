use Rattle.std.proofs.Common.{◌+◌, ◌≤◌, vec_capacity}
use Rattle.embedding.specs.Darts.{dart_count, first_dart, head_of}
use Rattle.embedding.specs.Tables.{IsTable}
use Rattle.embedding.proofs.combinatorial_map.add_heads.Given as goal

abbrev pub invariant-darts : goal.invariant-darts
invariant-darts l = record {
  heads : IsTable (first_dart l.lists l.place + l.head-index) (head_of l.lists) l.heads.items;
  room : dart_count l.lists ≤ vec_capacity l.heads;
}
