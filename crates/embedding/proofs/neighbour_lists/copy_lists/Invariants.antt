-- The loop has copied `i` entries, has passed `count` lists, and is in the next one.
use Rattle.std.proofs.Common.{◌≡◌, ℕ, ◌<◌, get_or}
use Rattle.planar_code.specs.Stream.{lists_in}
use Rattle.embedding.proofs.ListStarts.{IsReading}
use Rattle.embedding.proofs.neighbour_lists.copy_lists.Given as goal

abbrev pub invariant-loop-i : goal.invariant-loop-i
invariant-loop-i l = record {
  copied : (k : ℕ) → k < l.i → get_or l.entries k 0 ≡ get_or l.bytes k 0;
  reading : IsReading (lists_in l.bytes) l.starts l.i l.count;
}
