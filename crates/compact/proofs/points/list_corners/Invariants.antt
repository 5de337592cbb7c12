use Rattle.std.proofs.Common.{◌≡◌, ◌+◌, ◌≤◌, length, slice_index}
use Rattle.std.specs.Prelude.{vec_len, vec_capacity}
use Rattle.common.proofs.PushedLists.{IsConcatenated}
use Rattle.compact.proofs.Placing.{IsCornersOf}
use Rattle.compact.proofs.points.list_corners.Given as goal

abbrev pub invariant-loop-edge : goal.invariant-loop-edge
invariant-loop-edge l = record {
  listed : IsConcatenated l.starts.items l.corners.items l.edge (IsCornersOf l.boxes (λ v. slice_index l.x v) (λ v. slice_index l.y v));
  count : vec_len l.starts ≡ l.edge + 1;
  room : length l.boxes.edges + 1 ≤ vec_capacity l.starts;
}
