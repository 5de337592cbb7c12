use Rattle.std.proofs.Common.{◌≡◌, arith, ap}
use Rattle.embedding.specs.Darts.{dart_count}
use Rattle.faces.specs.Planes.{darts}
use Rattle.faces.proofs.plane.Plane.least_dart.Goals as goal

pub unreachable-requires : goal.unreachable-requires
unreachable-requires c =
    let (d, d_in, is) = c.graph.ensures.plane.faces.used c.args.face c.requires in
    let count : dart_count c.graph.result.now ≡ darts c.args.self.now = ap dart_count c.graph.ensures.value in
    c.loop-dart.invariant d (omega (arith, d_in, c.loop-dart-test.false, c.darts-dart-end.ensures.count, count)) is
