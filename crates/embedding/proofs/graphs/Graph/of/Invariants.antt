use Rattle.std.proofs.Common.{◌≤◌, vec_capacity}
use Rattle.embedding.specs.Darts.{dart_count, first_dart, head_of}
use Rattle.embedding.specs.Tables.{IsTable}
use Rattle.embedding.proofs.graphs.Graph.of.Given as goal

abbrev pub invariant-loop-place : goal.invariant-loop-place
invariant-loop-place l = record {
  heads : IsTable (first_dart l.lists l.place) (head_of l.lists) l.heads.items;
  room : dart_count l.lists ≤ vec_capacity l.heads;
}
