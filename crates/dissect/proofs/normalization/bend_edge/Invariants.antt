use Rattle.std.proofs.Common.{◌≡◌, ◌+◌, ◌*◌, ◌<◌, drop}
use Rattle.dissect.specs.DartMaps.{DartMap, IsTied, IsMeeting}
use Rattle.dissect.specs.Tables.{dart_map_of, room}
use Rattle.dissect.specs.Steps.{IsBent}
use Rattle.dissect.proofs.normalization.bend_edge.Given as goal

abbrev pub invariant-turns : goal.invariant-turns
invariant-turns l = record {
  tied : IsTied (dart_map_of l.table);
  meeting : IsMeeting (dart_map_of l.table);
  inside : l.e < l.table.darts;
  count : l.table.darts ≡ l.fn.table.darts + 2 * l.turn-index;
  same : room l.table ≡ room l.fn.table;
  steps : (new : DartMap) → IsBent l.e (dart_map_of l.table) (drop l.turn-index l.turns) new → IsBent l.e (dart_map_of l.fn.table) l.turns new;
}
