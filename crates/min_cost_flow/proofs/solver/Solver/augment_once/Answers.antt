use Rattle.std.proofs.Common.{arith}
use Rattle.std.proofs.lemmas.List.{with_items_is}
use Rattle.min_cost_flow.specs.SolverState.{CanAugmentIn}
use Rattle.min_cost_flow.proofs.solver.Solver.augment_once.Goals as goal

pub augment-requires : goal.augment-requires
augment-requires c =
    let net = c.requires.ready.0 in
    let r = c.requires.ready.1 in
    let new = c.find_path.new in
    let found = rw c.deref_mut.ensures.value at c.in-Some.ensures.found in
    let can : CanAugmentIn net c.args.self.now.residual new.nodes.potential.items new.nodes.excess.items new.visits c.in-Some.found c.args.root = found net r in
    let is = with_items_is c.args.self.now.visits new.visits (omega (arith, can.ready.labels, r.labels)) in
    (net, rw is can)

pub returns-clause-augmented : goal.returns-clause-augmented
returns-clause-augmented c _ net r =
    let new = c.find_path.new in
    let found = rw c.deref_mut.ensures.value at c.in-Some.ensures.found in
    let can : CanAugmentIn net c.args.self.now.residual new.nodes.potential.items new.nodes.excess.items new.visits c.in-Some.found c.args.root = found net r in
    let is = with_items_is c.args.self.now.visits new.visits (omega (arith, can.ready.labels, r.labels)) in
    let a = c.augment.ensures.sent net (rw is can) in
    let more = rw is at a.carrying in
    record {
      ready = a.ready;
      less = rw c.find_path.ensures.excess at a.less;
      carrying = omega (arith, more, c.augment.ensures.work, c.in-Some.ensures.short);
    }
