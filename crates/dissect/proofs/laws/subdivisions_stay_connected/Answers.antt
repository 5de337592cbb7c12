use Rattle.dissect.proofs.StayingConnected.{split_extended, extended_connected}
use Rattle.dissect.proofs.laws.subdivisions_stay_connected.Goals as goal

pub returns : goal.returns
returns c w e way bend new tied e_in subdivide = extended_connected w new (split_extended w e way bend new tied e_in subdivide)
