use Rattle.drawing_laws.proofs.Existence.{some_least}
use Rattle.drawing_laws.proofs.laws.least_shape_exists.Goals as goal

pub returns : goal.returns
returns c = some_least
