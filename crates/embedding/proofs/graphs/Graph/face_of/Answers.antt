use Rattle.std.proofs.Common.{◌≡◌, ℕ, ◌+◌, ◌*◌, length, get_or, ap, subst, arith}
use Rattle.embedding.specs.Darts.{dart_count}
use Rattle.embedding.proofs.KeptFacts.{kept_as, tie_read}
use Rattle.embedding.proofs.Unique.{one_numbering}
use Rattle.embedding.proofs.graphs.Graph.face_of.Goals as goal

pub returns : goal.returns
returns c =
    let g = c.args.self.now in
    let kept = kept_as _ _ c.self.view_is c.self.invariant in
    let place : 2 * c.len.result + c.from.result ≡ 2 * dart_count g + c.args.dart = omega (arith, c.len.ensures, c.from.ensures, ap length kept.heads_are) in
    λ face f h.
    tie_read _ (2 * dart_count g + c.args.dart) _ _ (omega (arith, kept.size, c.requires)) (one_numbering _ _ _ face _ f kept.faces_are h c.args.dart c.requires) (subst (λ (i : ℕ). c.index.result.now ≡ get_or c.self.inside.table.items i c.index.result.now) place c.index.ensures)
