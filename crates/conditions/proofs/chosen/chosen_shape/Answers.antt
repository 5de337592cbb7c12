use Rattle.std.proofs.Common.{◌∙◌, ap, subst, sym}
use Rattle.common.specs.declared.parameters.Choice.{Choice}
use Rattle.faces.specs.Planes.{with_outer}
use Rattle.conditions.specs.DartConditions.{DartConditionsModel}
use Rattle.conditions.specs.Chosen.{IsChosenKeeping}
use Rattle.conditions.proofs.Greatest.{greatest_moved}
use Rattle.conditions.proofs.Kept.{whenever}
use Rattle.conditions.proofs.chosen.chosen_shape.Goals as goal

pub returns-in-First-clause-chosen : goal.returns-in-First-clause-chosen
returns-in-First-clause-chosen c =
    let p = c.args.plane.now in
    let q = c.set_outer.new.self in
    let given = c.args.by_darts.now.given in
    let barred = c.args.by_darts.now.barred in
    whenever c.least_shape_keeping_in.result _
    (subst (λ (choice : Choice). IsChosenKeeping choice q given barred) (sym c.in-First.is) (greatest_moved p q barred c.args.by_darts.now.greatest (c.set_outer.ensures ∙ ap (λ (m : DartConditionsModel). with_outer c.args.plane.now m.greatest) c.by_darts.view_is) c.requires))
