use Rattle.run_laws.proofs.RecordSizes.{few_vertices, few_darts_of_record, few_faces_of_record}
use Rattle.run_laws.proofs.laws.record_plane_limits.Goals as goal

pub returns-clause-vertices : goal.returns-clause-vertices
returns-clause-vertices c = λ bytes p r same plane. few_vertices bytes p r same

pub returns-clause-darts : goal.returns-clause-darts
returns-clause-darts c = few_darts_of_record

pub returns-clause-faces : goal.returns-clause-faces
returns-clause-faces c = few_faces_of_record
