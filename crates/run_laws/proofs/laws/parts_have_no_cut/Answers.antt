use Rattle.run_laws.proofs.NoCutOfParts.{no_cut_of_parts}
use Rattle.run_laws.proofs.laws.parts_have_no_cut.Goals as goal

pub returns : goal.returns
returns c p given frames inside vertices faces plane can parts = no_cut_of_parts p given frames inside vertices faces plane can parts
