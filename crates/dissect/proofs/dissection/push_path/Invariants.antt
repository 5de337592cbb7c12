use Rattle.std.proofs.Common.{◌≡◌, ◌<◌, ◌≤◌, ℕ, List, ◌∷◌, length, take, drop}
use Rattle.dissect.specs.Tables.{dart_map_of}
use Rattle.dissect.specs.Paths.{IsPath}
use Rattle.dissect.proofs.DartsInFront.{IsReadBack, depth}
use Rattle.dissect.proofs.dissection.push_path.Given as goal

abbrev pub invariant-back : goal.invariant-back
invariant-back l = record {
  inside : l.dart < l.table.darts;
  long : l.start ≤ length l.darts.items;
  before : take l.start l.darts.items ≡ l.fn.darts.items;
  way : (first : ℕ) (rest : List ℕ) → IsPath (dart_map_of l.table) l.last first rest →
      IsReadBack (dart_map_of l.table) (first ∷ rest) l.dart (drop l.start l.darts.items);
}

abbrev pub decreases-back : goal.decreases-back
decreases-back l = depth (dart_map_of l.table) l.table.darts l.dart
