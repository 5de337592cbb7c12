use Rattle.std.proofs.Common.{ℕ, ◌<◌}
use Rattle.ortho_rep.specs.Shapes.{angle_at, turns_at}
use Rattle.ortho_rep.specs.Prices.{IsPricedAt, vertex_price, face_price}
use Rattle.ortho_rep.proofs.certificate.are_priced.Given as goal

abbrev pub invariant-loop-dart : goal.invariant-loop-dart
invariant-loop-dart l =
    (d : ℕ) → d < l.dart → IsPricedAt l.plane l.given (angle_at l.shape) (turns_at l.shape) (vertex_price l.prices) (face_price l.prices) d
