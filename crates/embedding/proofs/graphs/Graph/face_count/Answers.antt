use Rattle.std.proofs.Common.{arith}
use Rattle.embedding.proofs.Faced.{faces_list}
use Rattle.embedding.proofs.KeptFacts.{kept_as}
use Rattle.embedding.proofs.Rotation.{next_one}
use Rattle.embedding.proofs.Unique.{one_count}
use Rattle.embedding.proofs.graphs.Graph.face_count.Goals as goal

pub returns-clause-value : goal.returns-clause-value
returns-clause-value c =
    let kept = kept_as _ _ c.self.view_is c.self.invariant in
    λ face f h. one_count _ _ _ face _ f kept.faces_are h

pub returns-clause-numbered : goal.returns-clause-numbered
returns-clause-numbered c =
    let kept = kept_as _ _ c.self.view_is c.self.invariant in
    faces_list _ _ c.self.inside.table.items _ (omega (arith, kept.size)) (next_one _ kept.rules).inside kept.faces_are
