use Rattle.drawing_laws.proofs.Lowest.{laid_below}
use Rattle.drawing_laws.proofs.laws.least_points_are_below_vertex_count.Goals as goal

pub returns : goal.returns
returns c = laid_below
