use Rattle.embedding.proofs.PairLemmas.{none_set}
use Rattle.std.proofs.Common.{refl}
use Rattle.embedding.proofs.adjacency.Pairs.new.Goals as goal

pub returns : goal.returns
returns c = λ a b small-a small-b has. none_set 1024 a b small-a small-b refl has
