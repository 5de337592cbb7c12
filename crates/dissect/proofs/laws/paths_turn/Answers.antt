use Rattle.dissect.proofs.StraightPaths.{turned_on}
use Rattle.dissect.proofs.laws.paths_turn.Goals as goal

pub returns : goal.returns
returns c w a b sound a_in b_in =
    turned_on w a b sound.straight (sound.meeting.quarter a a_in) (sound.meeting.quarter b b_in) b_in
