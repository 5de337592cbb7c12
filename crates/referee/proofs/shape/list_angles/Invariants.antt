use Rattle.std.proofs.Common.{◌≡◌, ◌≤◌, ◌<◌, ℕ, length, get_or}
use Rattle.geometry.specs.Directions.{left_quarters}
use Rattle.faces.specs.Planes.{reverse_dart, next}
use Rattle.drawing_check.specs.Routes.{direction_at}
use Rattle.referee.proofs.shape.list_angles.Given as goal

abbrev pub invariant-loop-dart : goal.invariant-loop-dart
invariant-loop-dart l = record {
  count : length l.angles.items ≡ l.dart;
  some : (d : ℕ) → d < l.dart → 1 ≤ get_or l.angles.items d 0;
  few : (d : ℕ) → d < l.dart → get_or l.angles.items d 0 ≤ 4;
  heads : (d : ℕ) → d < l.dart → direction_at l.directions (reverse_dart l.plane d) ≡ left_quarters (get_or l.angles.items d 0) (direction_at l.directions (next l.plane d));
}
