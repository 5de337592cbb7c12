use Rattle.drawing_laws.proofs.Coordinates.{boxes_monotone}
use Rattle.drawing_laws.proofs.laws.monotone_coordinates_exist.Goals as goal

pub returns : goal.returns
returns c = record { boxes = boxes_monotone; shape = λ p shape b is. boxes_monotone b is.boxes }
