use Rattle.dissect.proofs.Cuts.{cut_up_paths}
use Rattle.dissect.proofs.laws.cuts_keep_paths.Goals as goal

pub returns : goal.returns
returns c w new n reverse_dart quarters sound = cut_up_paths w new n reverse_dart quarters sound.tied sound.meeting.quarter
