use Rattle.run_laws.proofs.Supplying.{units}
use Rattle.run_laws.proofs.laws.units_supplied.Goals as goal

pub returns : goal.returns
returns c = units
