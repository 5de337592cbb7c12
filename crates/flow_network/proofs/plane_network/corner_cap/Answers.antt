use Rattle.std.proofs.Common.{ap, sym}
use Rattle.flow_network.specs.Given.{GivenModel, angle_given}
use Rattle.flow_network.specs.FaceNet.{corner_cap}
use Rattle.flow_network.proofs.plane_network.corner_cap.Goals as goal

pub returns-then-is_nothing : goal.returns-then-is_nothing
returns-then-is_nothing c = ap (λ (given : GivenModel). corner_cap (angle_given given c.args.dart)) (sym (c.requires.0 c.if-is_nothing.true))
