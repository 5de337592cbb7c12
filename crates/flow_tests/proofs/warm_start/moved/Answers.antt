use Rattle.std.proofs.Common.{rules, w32, subst, sym}
use Rattle.std.proofs.lemmas.Int.{to_z-of_z}
use mir.Val.{SFits}
use Rattle.std.specs.Prelude.{ℤ, pos, negsuc, ◌≤ℤ◌}
use Rattle.min_cost_flow.specs.Networks.{NetworkModel, shifted, HasSuppliesInRange}
use Rattle.flow_tests.proofs.FairSupplies.{still_fair}
use Rattle.flow_tests.proofs.warm_start.moved.Goals as goal

pub shift-requires-clause-in_range : goal.shift-requires-clause-in_range
shift-requires-clause-in_range c =
    let one : SFits w32 c.supply-more.result = search rules in
    let other : SFits w32 c.supply-less.result = search rules in
    let more = simp to_z-of_z at c.is_within.ensures.more c.if-not-is_within.false in
    let less = simp to_z-of_z at c.is_within.ensures.less c.if-not-is_within.false in
    still_fair c.args.twin.now c.args.from c.args.to c.args.amount c.node_count-nodes.ensures.kept.supplies c.requires.from c.requires.to c.requires.few
    (subst (λ (z : ℤ). z ≤ℤ pos 2000) c.supply-more.ensures more)
    (subst (λ (z : ℤ). negsuc 1999 ≤ℤ z) c.supply-less.ensures less)

pub shift-requires-2-clause-in_range : goal.shift-requires-2-clause-in_range
shift-requires-2-clause-in_range c =
    let one : SFits w32 c.supply-more.result = search rules in
    let other : SFits w32 c.supply-less.result = search rules in
    let more = simp to_z-of_z at c.is_within.ensures.more c.if-not-is_within.false in
    let less = simp to_z-of_z at c.is_within.ensures.less c.if-not-is_within.false in
    let in_range = still_fair c.args.twin.now c.args.from c.args.to c.args.amount c.node_count-nodes.ensures.kept.supplies c.requires.from c.requires.to c.requires.few
    (subst (λ (z : ℤ). z ≤ℤ pos 2000) c.supply-more.ensures more)
    (subst (λ (z : ℤ). negsuc 1999 ≤ℤ z) c.supply-less.ensures less) in
    subst (λ (n : NetworkModel). HasSuppliesInRange (shifted n c.args.from c.args.to c.args.amount)) (sym c.requires.same) in_range
