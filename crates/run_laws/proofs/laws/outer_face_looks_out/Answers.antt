use Rattle.run_laws.proofs.Enclosing.{looks_out}
use Rattle.run_laws.proofs.laws.outer_face_looks_out.Goals as goal

pub returns : goal.returns
returns c = looks_out
