-- The loop has passed `count` lists, and is in the next one.
use Rattle.planar_code.specs.Stream.{lists_in}
use Rattle.embedding.proofs.ListStarts.{IsReading}
use Rattle.embedding.proofs.neighbour_lists.find_starts.Given as goal

abbrev pub invariant-loop-i : goal.invariant-loop-i
invariant-loop-i l = IsReading (lists_in l.entries) l.starts l.i l.count
