use Rattle.dissect.proofs.Reaching.{cut_up_reaches}
use Rattle.dissect.proofs.laws.cuts_reach_corners.Goals as goal

pub returns : goal.returns
returns c = cut_up_reaches
