use Rattle.std.proofs.Common.{◌-◌, ◌<◌, ◌≤◌, ◌∙◌, ℕ, List, get_or, arith, ap, refl}
use Rattle.embedding.specs.Darts.{dart_count}
use Rattle.faces.specs.Planes.{darts, head, reverse_dart, next}
use Rattle.ortho_rep.specs.Shapes.{angle_at}
use Rattle.dissect.specs.DartMaps.{no_dart}
use Rattle.dissect.proofs.Writing.{filled_more, turned_more}
use Rattle.dissect.proofs.normalization.bare_table.Goals as goal

pub darts-preserved : goal.darts-preserved
darts-preserved c =
    let p = c.args.plane.now in
    let t = c.darts.table in
    let t' = c.write_dart.new.table in
    let k = c.darts.dart in
    let before = c.darts.invariant in
    let k_in : k < darts p = omega (arith, ap dart_count c.graph-graph.ensures.value) in
    let ends = c.graph-graph.ensures.ends in
    let write = c.write_dart.ensures in
    let next_in = ends.next_one.inside k k_in in
    record {
      nexts = filled_more t.next.items t'.next.items (next p) k (next p k) before.nexts (omega arith) write.next refl;
      prevs = turned_more t.prev.items t'.prev.items (next p) (darts p) k before.prevs ends.next_one.one k_in (omega (arith, next_in)) write.prev;
      reverse_darts = filled_more t.reverse_dart.items t'.reverse_dart.items (reverse_dart p) k (reverse_dart p k) before.reverse_darts (omega arith) write.reverse_dart refl;
      heads = filled_more t.head.items t'.head.items (λ d. head p d - 1) k (head p k - 1) before.heads (omega arith) write.head refl;
      directions = λ d l. ap (λ (xs : List ℕ). get_or xs d 0) write.direction ∙ before.directions d l;
      angles = filled_more t.angle.items t'.angle.items (angle_at c.args.shape.now) k _ before.angles (omega arith) write.angle refl;
      befores = filled_more t.before.items t'.before.items (λ _. no_dart) k no_dart before.befores (omega arith) write.before refl;
      dart_count = write.darts ∙ before.dart_count;
      vertex_count = write.vertices ∙ before.vertex_count;
      size = omega (arith, write.room, before.size);
    }

pub returns-clause-bare : goal.returns-clause-bare
returns-clause-bare c =
    let p = c.args.plane.now in
    let done = c.darts.invariant in
    let all : darts p ≤ c.darts.dart = omega (arith, ap dart_count c.graph-graph.ensures.value) in
    let ends = c.graph-graph.ensures.ends in
    let within : (d : ℕ) → d < darts p → d < c.darts.dart = λ d l. omega (arith, l, all) in
    record {
      dart_count = done.dart_count;
      vertex_count = done.vertex_count;
      nexts = λ d l. done.nexts d (within d l);
      prevs = λ d l. done.prevs d (within d l);
      reverse_darts = λ d l. done.reverse_darts d (within d l);
      heads = λ d l. omega (arith, done.heads d (within d l), ends.head_from d l);
      directions = done.directions;
      angles = λ d l. done.angles d (within d l);
      befores = λ d l. done.befores d (within d l);
    }
