use Rattle.dissect.proofs.Reaching.{cut_up_sound}
use Rattle.dissect.proofs.laws.cuts_stay_sound.Goals as goal

pub returns : goal.returns
returns c = cut_up_sound
