use Rattle.drawing_laws.proofs.Lowest.{least_exist}
use Rattle.drawing_laws.proofs.laws.least_coordinates_exist.Goals as goal

pub returns : goal.returns
returns c = least_exist
