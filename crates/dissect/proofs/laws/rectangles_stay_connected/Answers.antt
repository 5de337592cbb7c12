use Rattle.dissect.proofs.SurroundedPaths.{enclosed_connected}
use Rattle.dissect.proofs.laws.rectangles_stay_connected.Goals as goal

pub returns : goal.returns
returns c w outside new sound enclosed connected = enclosed_connected w outside new sound.tied connected enclosed
