use Rattle.std.proofs.Common.{◌≡◌, ◌<◌, ℕ, ◌+◌, ◌*◌, length, get_or, sym, ap, ◌∙◌, subst, arith}
use Rattle.embedding.specs.Darts.{dart_count}
use Rattle.embedding.proofs.Faced.{same_degree}
use Rattle.embedding.proofs.KeptFacts.{kept_as, tie_read}
use Rattle.embedding.proofs.Unique.{one_numbering}
use Rattle.embedding.proofs.graphs.Graph.face_degree.Goals as goal

pub returns : goal.returns
returns c =
    let g = c.args.self.now in
    let kept = kept_as _ _ c.self.view_is c.self.invariant in
    let below : c.args.face < c.self.inside.faces = c.requires _ _ kept.faces_are in
    let place : 3 * c.len.result + c.from.result ≡ 3 * dart_count g + c.args.face = omega (arith, c.len.ensures, c.from.ensures, ap length kept.heads_are) in
    λ other f h.
    tie_read _ (3 * dart_count g + c.args.face) _ _ (omega (arith, kept.size, below)) (kept.degrees_are c.args.face below ∙ sym (same_degree _ _ other c.args.face (λ d b. sym (one_numbering _ _ _ other _ f kept.faces_are h d b)))) (subst (λ (i : ℕ). c.index.result.now ≡ get_or c.self.inside.table.items i c.index.result.now) place c.index.ensures)
