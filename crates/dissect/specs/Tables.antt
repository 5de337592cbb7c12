-- The map that a table of darts holds.
use Rattle.std.specs.Prelude.{ℕ, slice_index, vec_len}
use Rattle.dissect.specs.declared.table.DartTable.{DartTable}
use Rattle.dissect.specs.DartMaps.{DartMap}

abbrev pub dart_map_of : DartTable → DartMap
dart_map_of t = record {
  darts = t.darts;
  vertices = t.vertices;
  next = λ a. slice_index t.next.items a;
  prev = λ a. slice_index t.prev.items a;
  reverse_dart = λ a. slice_index t.reverse_dart.items a;
  head = λ a. slice_index t.head.items a;
  direction = λ a. slice_index t.direction.items a;
  angle = λ a. slice_index t.angle.items a;
  before = λ a. slice_index t.before.items a;
}

-- how many darts the table has room for
abbrev pub room : DartTable → ℕ
room t = vec_len t.next
