use Rattle.std.proofs.Common.{◌≡◌, ◌+◌, ◌*◌, take}
use Rattle.embedding.specs.Darts.{first_dart}
use Rattle.embedding.specs.Tables.{IsRotation}
use Rattle.embedding.proofs.combinatorial_map.write_list_rotation.Given as goal

abbrev pub invariant-darts : goal.invariant-darts
invariant-darts l = record {
  next : l.next ≡ first_dart l.lists l.place + l.head-index;
  written : IsRotation l.lists (first_dart l.lists l.place + l.head-index) (take (2 * (first_dart l.lists l.place + l.head-index)) l.rotation);
}
