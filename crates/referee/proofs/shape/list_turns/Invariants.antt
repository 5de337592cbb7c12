use Rattle.std.proofs.Common.{◌≡◌, ◌≤◌, length, All, vec_len}
use Rattle.ortho_rep.specs.declared.turn_strings.TheConstants.{MAX_TURNS}
use Rattle.ortho_rep.specs.Edges.{edge_number}
use Rattle.ortho_rep.specs.Storage.{lists_in}
use Rattle.referee.proofs.Listed.{AreListed}
use Rattle.referee.proofs.shape.list_turns.Given as goal

abbrev pub invariant-loop-dart : goal.invariant-loop-dart
invariant-loop-dart l = record {
  number : l.edge ≡ edge_number l.plane l.dart;
  count : length l.strings.items ≡ l.dart;
  listed : AreListed l.plane l.points (lists_in l.strings.items) l.dart;
  short : All (λ string. vec_len string ≤ MAX_TURNS) l.strings.items;
}
