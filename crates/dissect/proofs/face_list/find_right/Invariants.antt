use Rattle.dissect.specs.Tables.{dart_map_of}
use Rattle.dissect.proofs.Walking.{IsSeeking}
use Rattle.dissect.proofs.face_list.find_right.Given as goal

abbrev pub invariant-steps : goal.invariant-steps
invariant-steps l = IsSeeking (dart_map_of l.table) l.outer l.counter l.dart
