use Rattle.planar_code.proofs.Lists.{lists_of-record}
use Rattle.planar_code.proofs.laws.record_lists.Goals as goal

pub returns : goal.returns
returns c = lists_of-record
