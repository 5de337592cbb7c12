use Rattle.std.proofs.Common.{◌≡◌, ap, arith, map, nat_lt, sym}
use Rattle.std.specs.List.{range_with_len}
use Rattle.std.proofs.lemmas.List.FromFn.{map-range_with_len_more}
use Rattle.std.proofs.lemmas.Result.{on_ok_weaker}
use Rattle.reports.specs.LineData.{corners_data}
use Rattle.reports.proofs.Steps.{none_yet, one_more, some_counted, whole_array}
use Rattle.reports.proofs.json_objects.put_corners.Goals as goal

pub loop-edge-init : goal.loop-edge-init
loop-edge-init c = none_yet c.put_bytes.new.out.items

pub loop-edge-preserved : goal.loop-edge-preserved
loop-edge-preserved c =
    let edge = c.loop-edge.edge in
    let corners = corners_data c.args.points.now in
    one_more c.put_bytes.new.out.items c.loop-edge.out.items c.put_edge.new.out.items (map corners (range_with_len 0 edge)) _ _ (nat_lt 0 edge) c.loop-edge.invariant c.in_ok-put_edge.ensures (some_counted corners edge)
    (sym (map-range_with_len_more corners 0 edge edge (omega arith)))

pub returns : goal.returns
returns c =
    let end : c.loop-edge.edge ≡ c.args.edges = omega arith in
    on_ok_weaker c.put_bytes-2.result (λ last. whole_array (corners_data c.args.points.now) (range_with_len 0 c.args.edges) (range_with_len 0 c.loop-edge.edge) c.args.out.now.items c.put_bytes.new.out.items c.loop-edge.out.items c.put_bytes-2.new.out.items c.in_ok-put_bytes.ensures
    c.loop-edge.invariant (ap (range_with_len 0) end) last) c.put_bytes-2.ensures
