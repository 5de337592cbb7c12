use Rattle.flow_network.proofs.Taken.{AreTaken}
use Rattle.flow_network.proofs.plane_network.subtract_given.Given as goal

abbrev pub invariant-take : goal.invariant-take
invariant-take l = AreTaken l.plane l.given l.initial.supplies l.supplies l.dart
