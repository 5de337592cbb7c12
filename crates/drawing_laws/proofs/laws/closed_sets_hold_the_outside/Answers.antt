use Rattle.drawing_laws.proofs.Directed.{directed}
use Rattle.drawing_laws.proofs.laws.closed_sets_hold_the_outside.Goals as goal

pub returns : goal.returns
returns c = directed
