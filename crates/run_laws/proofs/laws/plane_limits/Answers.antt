use Rattle.run_laws.proofs.RecordSizes.{few_darts, few_faces}
use Rattle.run_laws.proofs.laws.plane_limits.Goals as goal

pub returns-clause-darts : goal.returns-clause-darts
returns-clause-darts c = few_darts

pub returns-clause-faces : goal.returns-clause-faces
returns-clause-faces c = few_faces
