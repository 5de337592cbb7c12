use Rattle.std.proofs.Common.{◌≡◌, ◌-◌, ◌≤◌, slice_index}
use Rattle.faces.specs.Planes.{darts, vertices, head, reverse_dart, next}
use Rattle.ortho_rep.specs.Shapes.{angle_at}
use Rattle.dissect.specs.DartMaps.{no_dart}
use Rattle.dissect.specs.Tables.{room}
use Rattle.dissect.proofs.Writing.{IsNonempty, IsTurned}
use Rattle.dissect.proofs.normalization.bare_table.Given as goal

abbrev pub invariant-darts : goal.invariant-darts
invariant-darts l = record {
  nexts : IsNonempty l.table.next.items (next l.plane) l.dart;
  prevs : IsTurned l.table.prev.items (next l.plane) l.dart;
  reverse_darts : IsNonempty l.table.reverse_dart.items (reverse_dart l.plane) l.dart;
  heads : IsNonempty l.table.head.items (λ d. head l.plane d - 1) l.dart;
  directions : IsNonempty l.table.direction.items (slice_index l.directions) (darts l.plane);
  angles : IsNonempty l.table.angle.items (angle_at l.shape) l.dart;
  befores : IsNonempty l.table.before.items (λ _. no_dart) l.dart;
  dart_count : l.table.darts ≡ darts l.plane;
  vertex_count : l.table.vertices ≡ vertices l.plane;
  size : l.places ≤ room l.table;
}
