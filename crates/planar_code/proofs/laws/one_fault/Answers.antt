use Rattle.planar_code.proofs.Parsing.{fault_same}
use Rattle.planar_code.proofs.laws.one_fault.Goals as goal

pub returns : goal.returns
returns c = fault_same
