use Rattle.dissect.specs.Tables.{dart_map_of, room}
use Rattle.dissect.specs.FaceCutting.{IsReading}
use Rattle.dissect.proofs.refinement.cut_face.Given as goal

abbrev pub invariant-corners : goal.invariant-corners
invariant-corners l =
    IsReading (dart_map_of l.fn.table) l.fn.ring (room l.fn.table) (dart_map_of l.table) l.ring l.height l.read (room l.table)
