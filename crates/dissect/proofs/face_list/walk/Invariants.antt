use Rattle.std.proofs.Common.{◌+◌, ◌≤◌}
use Rattle.std.specs.Prelude.{vec_len, vec_capacity}
use Rattle.dissect.specs.Tables.{dart_map_of}
use Rattle.dissect.proofs.Walking.{IsWalking}
use Rattle.dissect.proofs.face_list.walk.Given as goal

abbrev pub invariant-steps : goal.invariant-steps
invariant-steps l = record {
  walking : IsWalking (dart_map_of l.table) l.start l.fn.seen.items l.seen.items l.fn.corners.items l.corners.items l.counter l.dart;
  room : vec_len l.corners + l.table.darts ≤ vec_capacity l.corners + l.counter;
}
