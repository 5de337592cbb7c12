use Rattle.dissect.proofs.Reaching.{cut_up_vertices}
use Rattle.dissect.proofs.laws.cuts_use_right_turns.Goals as goal

pub returns : goal.returns
returns c = cut_up_vertices
