use Rattle.std.proofs.Common.{◌≡◌, ap, sym, ◌∙◌, subst, arith, List, length}
use Rattle.std.specs.Prelude.{ℤ}
use Rattle.std.specs.Vec.{with_items}
use Rattle.std.proofs.lemmas.List.{with_items_is}
use Rattle.min_cost_flow.specs.Networks.{NetworkModel, net_of, IsNetwork, HasSuppliesInRange, shifted, moved}
use Rattle.min_cost_flow.proofs.Moving.{still_network, length-moved}
use Rattle.min_cost_flow.proofs.network.Network.shift.Goals as goal

items_are : (c : goal.After-self-1) → (with_items c.self.inside.supplies c.move_units.new.units).items ≡ moved c.self.inside.supplies.items c.args.from c.args.to c.args.amount
items_are c =
    let value : c.move_units.new.units ≡ moved c.self.inside.supplies.items c.args.from c.args.to c.args.amount = c.move_units.ensures ∙ ap (λ (units : List ℤ). moved units c.args.from c.args.to c.args.amount) c.deref_mut.ensures.value in
    let long : length c.move_units.new.units ≡ length c.self.inside.supplies.items = ap (length {A = ℤ}) value ∙ length-moved c.self.inside.supplies.items c.args.from c.args.to c.args.amount in
    with_items_is c.self.inside.supplies c.move_units.new.units (omega (arith, long, c.self.inside.supplies.ok)) ∙ value

pub invariant_of-self : goal.invariant_of-self
invariant_of-self c =
    let inside : NetworkModel = net_of c.self.inside.supplies.items c.self.inside.arcs.items in
    let in_range : HasSuppliesInRange (shifted inside c.args.from c.args.to c.args.amount) = subst (λ (n : NetworkModel). HasSuppliesInRange (shifted n c.args.from c.args.to c.args.amount)) (sym c.self.view_is) c.requires.in_range in
    subst (λ (units : List ℤ). IsNetwork (net_of units c.self.inside.arcs.items)) (sym (items_are c)) (still_network inside c.args.from c.args.to c.args.amount c.self.invariant in_range)

pub returns : goal.returns
returns c = ap (λ (units : List ℤ). net_of units c.self.inside.arcs.items) (items_are c) ∙ ap (λ (n : NetworkModel). shifted n c.args.from c.args.to c.args.amount) c.self.view_is
