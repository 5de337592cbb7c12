use Rattle.drawing_laws.proofs.Parts.{end_alone, meet_at_ends}
use Rattle.run_laws.proofs.laws.edges_meet_at_ends.Goals as goal

pub returns : goal.returns
returns c = record { vertex = end_alone; meeting = meet_at_ends }
