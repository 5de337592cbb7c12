use Rattle.std.proofs.Common.{rules}
use Rattle.corpus.proofs.again.draw.Goals as goal

pub drawing_again-requires-clause-points : goal.drawing_again-requires-clause-points
drawing_again-requires-clause-points g c = record { vertex_count = search rules; edge_count = search rules }
