use Rattle.embedding.proofs.Symmetry.{AddsPairs}
use Rattle.embedding.proofs.breaks.add_pairs.Given as goal

abbrev pub invariant-loop-v : goal.invariant-loop-v
invariant-loop-v l = AddsPairs l.initial.pairs.words l.vertex l.list l.v-index l.pairs.words
