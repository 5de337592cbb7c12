use Rattle.std.proofs.Common.{rules, FitsSigned, ◌≡◌, ◌+◌, ◌-◌, ◌∙◌, ◌++◌, ◌∷◌, [], ℕ, ℤ, pos, ap, arith, map, length, nat_lt, slice_index_or, sym, take, w32}
use Rattle.std.proofs.lemmas.Int.{to_z-of_z}
use Rattle.std.proofs.lemmas.List.{map_more, take_all}
use Rattle.std.proofs.lemmas.Result.{on_ok_weaker}
use Rattle.reports.specs.LineData.{integer}
use Rattle.reports.proofs.Steps.{none_yet, one_more, some_taken, whole_array}
use Rattle.reports.proofs.json_objects.put_vertex_prices.Goals as goal

pub loop-place-init : goal.loop-place-init
loop-place-init c = none_yet c.put_bytes.new.out.items

pub loop-place-preserved : goal.loop-place-preserved
loop-place-preserved c =
    let place = c.loop-place.place in
    let vertices = c.args.prices.now.vertices in
    let end : c.vertices-place-end.result ≡ length vertices = c.vertices-place-end.ensures.count ∙ ap length c.graph.ensures.value ∙ sym c.requires.vertices in
    let at : place + 1 - 1 ≡ place = omega arith in
    let fits : FitsSigned w32 c.vertex.result = search rules in
    one_more c.put_bytes.new.out.items c.loop-place.out.items c.put_integer.new.out.items (map integer (take place vertices)) _ _ (nat_lt 0 place) c.loop-place.invariant c.in_ok-put_integer.ensures (some_taken integer place vertices (omega arith)) (
    ap (λ (price : ℤ). map integer (take place vertices) ++ integer price ∷ []) (to_z-of_z w32 c.vertex.result fits ∙ c.vertex.ensures ∙ ap (λ (k : ℕ). slice_index_or vertices k (pos 0)) at)
    ∙ sym (map_more integer vertices place (pos 0) (omega arith)))

pub returns : goal.returns
returns c =
    let vertices = c.args.prices.now.vertices in
    let end : c.vertices-place-end.result ≡ length vertices = c.vertices-place-end.ensures.count ∙ ap length c.graph.ensures.value ∙ sym c.requires.vertices in
    on_ok_weaker c.put_bytes-2.result (λ last. whole_array integer vertices (take c.loop-place.place vertices) c.args.out.now.items c.put_bytes.new.out.items c.loop-place.out.items c.put_bytes-2.new.out.items c.in_ok-put_bytes.ensures c.loop-place.invariant
    (take_all c.loop-place.place vertices (omega arith)) last) c.put_bytes-2.ensures
