use Rattle.dissect.proofs.StayingConnected.{cut_up_extended, extended_connected}
use Rattle.dissect.proofs.laws.cuts_stay_connected.Goals as goal

pub returns : goal.returns
returns c w new sound cut_up = extended_connected w new (cut_up_extended w new sound.tied cut_up)
