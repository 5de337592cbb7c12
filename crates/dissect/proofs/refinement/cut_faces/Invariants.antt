use Rattle.std.proofs.Common.{◌≡◌, ◌+◌, ◌<◌, ◌^◌, ℕ, length, sum, drop}
use Rattle.dissect.specs.DartMaps.{IsSound, IsCutUp}
use Rattle.dissect.specs.Faces.{AreWaiting, slices_of}
use Rattle.dissect.specs.FaceCutting.{HasRoom}
use Rattle.dissect.specs.Tables.{dart_map_of, room}
use Rattle.dissect.proofs.refinement.cut_faces.Given as goal

abbrev pub invariant-faces : goal.invariant-faces
invariant-faces l = record {
  sound : IsSound (dart_map_of l.table);
  cut_up : IsCutUp (dart_map_of l.fn.table) (dart_map_of l.table);
  waiting : (o : ℕ) → AreWaiting (dart_map_of l.fn.table) o (slices_of l.fn.corners l.counts) →
      AreWaiting (dart_map_of l.table) o (slices_of (drop l.start l.corners) (drop l.count-index l.counts));
  space : HasRoom (dart_map_of l.table) (room l.table);
  same : room l.table ≡ room l.fn.table;
  left : l.start + sum (drop l.count-index l.counts) ≡ length l.corners;
  few : length l.corners < 2 ^ 32;
}
