use Rattle.dissect.specs.Tables.{dart_map_of}
use Rattle.dissect.proofs.PathsOfEdges.{IsPathOf}
use Rattle.common.proofs.PushedLists.{IsConcatenated}
use Rattle.dissect.proofs.dissection.paths_of.Given as goal

abbrev pub invariant-edges : goal.invariant-edges
invariant-edges l = IsConcatenated l.starts.items l.darts.items l.last-index (IsPathOf (dart_map_of l.table) l.edges)
