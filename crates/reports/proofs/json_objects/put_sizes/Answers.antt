use Rattle.std.proofs.Common.{◌≡◌, ◌*◌, ◌/◌, ◌∙◌, ap, arith, length, sym}
use Rattle.std.proofs.lemmas.Result.{on_ok_weaker}
use Rattle.json.specs.Print.{escape_byte}
use Rattle.embedding.specs.Darts.{dart_count}
use Rattle.faces.specs.Planes.{darts, vertices}
use Rattle.reports.proofs.Steps.{then}
use Rattle.reports.proofs.json_objects.put_sizes.Goals as goal

pub returns : goal.returns
unfolding escape_byte
returns c =
    let plane = c.args.plane.now in
    let twice : 2 * c.edges.result ≡ darts plane = c.edges.ensures.count ∙ ap dart_count c.graph.ensures.value in
    let edges : c.from.result ≡ darts plane / 2 = c.from.ensures ∙ omega arith in
    let count : c.from-2.result ≡ vertices plane = c.from-2.ensures ∙ c.vertices.ensures.count ∙ ap length c.graph-2.ensures.value in
    on_ok_weaker c.put_number-2.result (λ last. rw (sym edges, sym count) (then c.args.out.now.items c.put_number.new.out.items c.put_number-2.new.out.items _ _ c.in_ok-put_number.ensures last)) c.put_number-2.ensures
