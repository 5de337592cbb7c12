use Rattle.std.proofs.Common.{◌≡◌, ◌+◌, ◌<◌, All, drop}
use Rattle.dissect.specs.Tables.{dart_map_of, room}
use Rattle.dissect.specs.FaceCutting.{down, tops}
use Rattle.dissect.proofs.Stacks.{IsTop}
use Rattle.dissect.proofs.refinement.read_corner.Given as goal

abbrev pub invariant-cuts : goal.invariant-cuts
invariant-cuts l = record {
  top : IsTop (dart_map_of l.fn.table) (room l.fn.table) (down (tops l.fn.ring l.fn.height) (drop l.fn.read l.fn.ring))
      (dart_map_of l.table) l.ring l.height (l.fn.read + 1);
  same : room l.table ≡ room l.fn.table;
  inside : All (λ a. a < room l.table) l.ring;
}

abbrev pub decreases-cuts : goal.decreases-cuts
decreases-cuts l = l.height
