use Rattle.drawing_laws.proofs.CellLabels.{boxed_labels}
use Rattle.drawing_laws.proofs.laws.cells_lie_in_faces.Goals as goal

pub returns : goal.returns
returns c = boxed_labels
