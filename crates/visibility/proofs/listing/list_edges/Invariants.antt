use Rattle.std.proofs.Common.{◌≡◌, ◌<◌, length, vec_len}
use Rattle.std.specs.Prelude.{All}
use Rattle.ortho_rep.specs.Edges.{edge_number}
use Rattle.visibility.specs.declared.listing.Bent.{Bent}
use Rattle.visibility.proofs.listing.list_edges.Given as goal

abbrev pub invariant-loop-dart : goal.invariant-loop-dart
invariant-loop-dart l = record {
  x : l.lists.x.segments ≡ l.initial.lists.x.segments;
  y : l.lists.y.segments ≡ l.initial.lists.y.segments;
  x_of : l.lists.x.of ≡ l.initial.lists.x.of;
  y_of : l.lists.y.of ≡ l.initial.lists.y.of;
  x_edges : vec_len l.lists.x.edges.beside ≡ vec_len l.initial.lists.x.edges.beside;
  y_edges : vec_len l.lists.y.edges.beside ≡ vec_len l.initial.lists.y.edges.beside;
  number : l.edge ≡ edge_number l.plane l.dart;
  bent : All (λ (b : Bent). b.edge < length l.points.corners) l.lists.bent.items;
}
