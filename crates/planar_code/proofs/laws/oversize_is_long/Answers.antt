use Rattle.planar_code.proofs.Oversize.{long_list-oversize}
use Rattle.planar_code.proofs.laws.oversize_is_long.Goals as goal

pub returns : goal.returns
returns c = long_list-oversize
