use Rattle.std.proofs.Common.{rules, below_more, ap, arith}
use Rattle.embedding.specs.Darts.{dart_count}
use Rattle.ortho_rep.specs.Prices.{ProveKeeping, vertex_price, face_price}
use Rattle.ortho_rep.specs.Shapes.{angle_at, turns_at}
use Rattle.ortho_rep.proofs.WeakDuality.{least_keeping_by_prices}
use Rattle.ortho_rep.proofs.certificate.are_priced.Goals as goal

pub loop-dart-preserved : goal.loop-dart-preserved
loop-dart-preserved c = below_more _ _ c.loop-dart.invariant (c.is_priced_at.ensures.0 c.if-not-is_priced_at.false)

pub returns : goal.returns
returns c =
    let prove : ProveKeeping c.args.plane.now c.args.given.now (angle_at c.args.shape.now) (turns_at c.args.shape.now) (vertex_price c.args.prices.now) (face_price c.args.prices.now) =
    λ d b. c.loop-dart.invariant d (omega (arith, c.darts-dart-end.ensures.count, ap dart_count c.graph.ensures.value)) in
    record {
      exact = (λ _. prove, λ _. search rules);
      least = λ _ rep. least_keeping_by_prices c.args.plane.now c.args.given.now (angle_at c.args.shape.now) (turns_at c.args.shape.now) (vertex_price c.args.prices.now) (face_price c.args.prices.now) c.graph.ensures.ends rep prove;
    }
