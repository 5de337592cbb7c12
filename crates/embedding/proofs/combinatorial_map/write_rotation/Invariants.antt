use Rattle.std.proofs.Common.{◌*◌, take}
use Rattle.embedding.specs.Darts.{first_dart}
use Rattle.embedding.specs.Tables.{IsRotation}
use Rattle.embedding.proofs.combinatorial_map.write_rotation.Given as goal

abbrev pub invariant-loop-place : goal.invariant-loop-place
invariant-loop-place l = IsRotation l.lists (first_dart l.lists l.place) (take (2 * first_dart l.lists l.place) l.rotation)
