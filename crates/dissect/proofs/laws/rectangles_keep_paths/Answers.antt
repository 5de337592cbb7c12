use Rattle.dissect.proofs.SurroundedPaths.{enclosed_paths}
use Rattle.dissect.proofs.laws.rectangles_keep_paths.Goals as goal

pub returns : goal.returns
returns c w outside new n reverse_dart quarters sound = enclosed_paths w outside new n reverse_dart quarters sound.tied sound.meeting.quarter
