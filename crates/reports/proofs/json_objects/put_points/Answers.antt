use Rattle.std.proofs.Common.{map, refl, sym, take}
use Rattle.std.proofs.lemmas.List.{map_more, take_all}
use Rattle.std.proofs.lemmas.Result.{on_ok_weaker}
use Rattle.reports.specs.LineData.{point_data}
use Rattle.reports.proofs.Steps.{none_yet, one_more, some_now, whole_array}
use Rattle.reports.proofs.json_objects.put_points.Goals as goal

pub loop-each-init : goal.loop-each-init
loop-each-init c = (refl, none_yet c.put_bytes.new.out.items)

pub loop-each-preserved : goal.loop-each-preserved
loop-each-preserved c =
    let points = c.args.points.now in (
      some_now point_data c.loop-each.each-index points c.loop-each-test.true,
      one_more c.put_bytes.new.out.items c.loop-each.out.items c.put_point.new.out.items (map point_data (take c.loop-each.each-index points)) _ _ c.loop-each.later c.loop-each.invariant.1 c.in_ok-put_point.ensures c.loop-each.invariant.0
          (sym (map_more point_data points c.loop-each.each-index _ c.loop-each-test.true)),
    )

pub returns : goal.returns
returns c =
    let points = c.args.points.now in
    on_ok_weaker c.put_bytes-2.result (λ last. whole_array point_data points (take c.loop-each.each-index points) c.args.out.now.items c.put_bytes.new.out.items c.loop-each.out.items c.put_bytes-2.new.out.items c.in_ok-put_bytes.ensures c.loop-each.invariant.1
    (take_all c.loop-each.each-index points c.loop-each-test.false) last) c.put_bytes-2.ensures
