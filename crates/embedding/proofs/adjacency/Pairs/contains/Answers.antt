use Rattle.embedding.proofs.PairLemmas.{pair_test}
use Rattle.embedding.proofs.adjacency.Pairs.contains.Goals as goal

pub returns : goal.returns
returns c =
    pair_test c.args.self.now.words c.args.first c.args.second c.from.result c.from-2.result c.from.ensures c.from-2.ensures
