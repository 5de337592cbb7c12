use Rattle.faces.proofs.Unique.{one_count, one_numbering}
use Rattle.faces.proofs.laws.numbering_is_unique.Goals as goal

pub returns : goal.returns
returns c = λ n f g next face other h k.
    (one_count n next face other f g h k, one_numbering n next face other f g h k)
