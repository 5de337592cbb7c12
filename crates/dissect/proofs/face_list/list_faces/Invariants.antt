use Rattle.dissect.specs.Tables.{dart_map_of}
use Rattle.dissect.proofs.Tracing.{IsTracing}
use Rattle.dissect.proofs.face_list.list_faces.Given as goal

abbrev pub invariant-darts : goal.invariant-darts
invariant-darts l =
    IsTracing (dart_map_of l.table) l.right l.seen.items l.corners.items l.counts.items l.outer.items l.start
