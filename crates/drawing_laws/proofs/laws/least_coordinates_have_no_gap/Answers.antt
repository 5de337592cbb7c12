use Rattle.drawing_laws.proofs.Lowest.{x_has_no_gap, y_has_no_gap, least_are_few}
use Rattle.drawing_laws.proofs.laws.least_coordinates_have_no_gap.Goals as goal

pub returns : goal.returns
returns c = record { x = x_has_no_gap; y = y_has_no_gap; few = least_are_few }
