use Rattle.std.proofs.Common.{◌≡◌, vec_len}
use Rattle.visibility.specs.Axes.{AreFew}
use Rattle.visibility.proofs.listing.list_straight.Given as goal

abbrev pub invariant-loop-place : goal.invariant-loop-place
invariant-loop-place l = record {
  x : AreFew l.x.segments.items;
  y : AreFew l.y.segments.items;
  x_of : vec_len l.x.of ≡ vec_len l.initial.x.of;
  y_of : vec_len l.y.of ≡ vec_len l.initial.y.of;
  x_edges : vec_len l.x.edges.beside ≡ vec_len l.initial.x.edges.beside;
  y_edges : vec_len l.y.edges.beside ≡ vec_len l.initial.y.edges.beside;
}
