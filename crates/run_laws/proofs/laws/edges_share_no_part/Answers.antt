use Rattle.drawing_laws.proofs.Parts.{part_of_one, vertex_once, start_apart}
use Rattle.run_laws.proofs.laws.edges_share_no_part.Goals as goal

pub returns : goal.returns
returns c = record { part = part_of_one; vertex = vertex_once; start = start_apart }
