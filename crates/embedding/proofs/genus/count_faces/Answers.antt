use Rattle.embedding.specs.declared.graphs.TheConstants.{MAX_DARTS}
use Rattle.embedding.specs.declared.genus.TheConstants.{UNSET}
use Rattle.embedding.proofs.Faced.{part_of_one}
use Rattle.embedding.proofs.genus.count_faces.Goals as goal

pub number_faces-requires-clause-unset : goal.number_faces-requires-clause-unset
number_faces-requires-clause-unset c = λ d lt. part_of_one MAX_DARTS c.args.darts d UNSET lt
