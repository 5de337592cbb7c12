use Rattle.std.proofs.Common.{◌∙◌, ◌++◌, [], ◌∷◌, List, map, slice_index, sym, ap, arith}
use Rattle.std.specs.List.{range_with_len}
use Rattle.std.proofs.lemmas.List.FromFn.{map-range_with_len_more}
use Rattle.ortho_rep.specs.declared.grid_points.Point.{Point}
use Rattle.compact.specs.Monotone.{point_at}
use Rattle.compact.proofs.points.vertex_points.Goals as goal

pub loop-vertex-init : goal.loop-vertex-init
loop-vertex-init c = record {
  listed = c.in_ok-points.ensures.items;
  count = c.in_ok-points.ensures.len;
  room = omega (arith, c.in_ok-points.ensures.room, c.requires.enough);
}

pub push_reserved-requires : goal.push_reserved-requires
push_reserved-requires c =
    omega (arith, c.loop-vertex.invariant.count, c.loop-vertex.invariant.room, c.loop-vertex-test.true, c.loop-vertex.auto.vertex-end, c.from-vertex-end.ensures, c.old_vertices.ensures)

pub loop-vertex-preserved : goal.loop-vertex-preserved
loop-vertex-preserved c =
    let point = point_at (λ v. slice_index c.args.x.now v) (λ v. slice_index c.args.y.now v) in
    record {
      listed = c.push_reserved.ensures.items
          ∙ ap (λ (ps : List Point). ps ++ (c.point_of.result ∷ [])) c.loop-vertex.invariant.listed
          ∙ ap (λ (p : Point). map point (range_with_len 0 c.loop-vertex.vertex) ++ (p ∷ [])) c.point_of.ensures
          ∙ sym (map-range_with_len_more point 0 c.loop-vertex.vertex c.loop-vertex.vertex (omega arith));
      count = omega (arith, c.loop-vertex.invariant.count, c.push_reserved.ensures.len);
      room = omega (arith, c.loop-vertex.invariant.room, c.push_reserved.ensures.capacity);
    }
