use Rattle.std.proofs.Common.{drop}
use Rattle.ortho_rep.specs.Shapes.{turns_at}
use Rattle.dissect.proofs.Normalizing.{AreRemaining}
use Rattle.dissect.proofs.normalization.normalize_into.Given as goal

abbrev pub invariant-edges : goal.invariant-edges
invariant-edges l = AreRemaining l.plane (turns_at l.shape) l.initial.table l.table (drop l.dart-index l.edges)
