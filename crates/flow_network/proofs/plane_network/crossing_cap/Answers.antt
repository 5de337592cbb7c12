use Rattle.std.proofs.Common.{◌∙◌, ap, sym}
use Rattle.flow_network.specs.Given.{GivenModel, turns_given}
use Rattle.flow_network.specs.FaceNet.{crossing_cap}
use Rattle.flow_network.proofs.GivenParts.{none_along}
use Rattle.flow_network.proofs.plane_network.crossing_cap.Goals as goal

pub returns-then-is_nothing : goal.returns-then-is_nothing
returns-then-is_nothing c =
    ap crossing_cap (sym (none_along c.args.plane.now c.args.dart)
    ∙ ap (λ (given : GivenModel). turns_given c.args.plane.now given c.args.dart) (sym (c.requires.nothing.0 c.if-is_nothing.true)))
