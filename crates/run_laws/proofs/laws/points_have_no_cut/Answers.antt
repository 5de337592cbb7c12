use Rattle.run_laws.proofs.NoCut.{no_cut_of_points}
use Rattle.run_laws.proofs.laws.points_have_no_cut.Goals as goal

pub returns : goal.returns
returns c p given vertices faces plane can points = no_cut_of_points p given vertices faces plane can points
