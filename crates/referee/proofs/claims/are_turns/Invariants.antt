use Rattle.std.proofs.Common.{◌≡◌, ℕ, ◌<◌, [], get_or}
use Rattle.ortho_rep.specs.Storage.{lists_in}
use Rattle.referee.proofs.claims.are_turns.Given as goal

abbrev pub invariant-loop-dart : goal.invariant-loop-dart
invariant-loop-dart l = (k : ℕ) → k < l.dart → get_or (lists_in l.strings) k [] ≡ get_or l.shape.strings k []
