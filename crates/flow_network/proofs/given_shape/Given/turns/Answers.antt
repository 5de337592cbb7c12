use Rattle.std.proofs.Common.{◌≡◌, ◌∙◌, length, ap, sym}
use Rattle.std.proofs.lemmas.Bool.{eqb-true}
use Rattle.flow_network.specs.Given.{GivenModel}
use Rattle.flow_network.proofs.GivenParts.{empty_along}
use Rattle.flow_network.proofs.given_shape.Given.turns.Goals as goal

pub returns-then-is_empty-clause-value : goal.returns-then-is_empty-clause-value
returns-then-is_empty-clause-value c =
    let none : length c.args.self.now.turns ≡ 0 =
    ap (λ (given : GivenModel). length given.turns) (sym c.self.view_is)
    ∙ eqb-true (length c.self.inside.turns.now) 0 (sym c.is_empty.ensures ∙ c.if-is_empty.true) in
    sym (empty_along c.args.plane.now c.args.self.now c.args.dart none)
