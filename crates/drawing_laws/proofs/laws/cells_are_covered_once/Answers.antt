use Rattle.drawing_laws.proofs.Covering.{covered_once}
use Rattle.drawing_laws.proofs.laws.cells_are_covered_once.Goals as goal

pub returns : goal.returns
returns c = covered_once
