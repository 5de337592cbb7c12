use Rattle.std.proofs.Common.{◌≡◌}
use Rattle.embedding.specs.Darts.{head_of}
use Rattle.embedding.proofs.KeptFacts.{kept_as, end_read}
use Rattle.embedding.proofs.Rotation.{head_within}
use Rattle.embedding.proofs.graphs.Graph.head.Goals as goal

pub returns-clause-some : goal.returns-clause-some
returns-clause-some c =
    let kept = kept_as _ _ c.self.view_is c.self.invariant in
    let at : c.index.result.now ≡ head_of c.args.self.now c.args.dart =
    end_read _ _ kept.heads_are c.args.dart c.from.result _ c.requires c.from.ensures c.index.ensures in
    let is = head_within c.args.self.now kept.rules c.args.dart c.requires in
    rw at is.0

pub returns-clause-within : goal.returns-clause-within
returns-clause-within c =
    let kept = kept_as _ _ c.self.view_is c.self.invariant in
    let at : c.index.result.now ≡ head_of c.args.self.now c.args.dart =
    end_read _ _ kept.heads_are c.args.dart c.from.result _ c.requires c.from.ensures c.index.ensures in
    let is = head_within c.args.self.now kept.rules c.args.dart c.requires in
    rw at is.1
