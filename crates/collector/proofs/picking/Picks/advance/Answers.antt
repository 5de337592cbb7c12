use Rattle.std.proofs.Common.{◌+◌, ◌<◌, ◌≤◌, ◌∙◌, ap, length, rules, subst}
use Rattle.file_order.specs.FileOrder.{OrderModel}
use Rattle.file_order.proofs.SucceedsOrFails.{err_any}
use Rattle.collector.specs.PicksHolding.{IsPartOfPicked}
use Rattle.collector.proofs.Moving.{no_more}
use Rattle.collector.proofs.PickedText.{picked_next, picked_over, part_here, part_next}
use Rattle.collector.proofs.picking.Picks.advance.Goals as goal

pub loop-alloc-preserved-in-Continue-branch-2 : goal.loop-alloc-preserved-in-Continue-branch-2
loop-alloc-preserved-in-Continue-branch-2 g c =
    let at = c.loop-alloc.self in
    let inv = c.loop-alloc.invariant in
    let next = c.in_ok-go_on.ensures.next in
    record {
      stands = c.in_ok-drain.ensures.stands.stands;
      same = record {
        selection = inv.same.selection;
        choice = inv.same.choice;
        files = c.drain.ensures.taken.count ∙ ap (λ (o : OrderModel). length o.waiting) next ∙ inv.same.files;
      };
      flaws = inv.flaws;
      written = λ start arrived was.
          picked_next at.selection start (g.S.Sink.taken c.loop-alloc.sink) (g.S.Sink.taken c.drain.new.sink) at.order c.go_on.new.self c.drain.new.self arrived
          next (c.in_ok-go_on.ensures.more.0 c.if-branch.true) c.drain.ensures.taken c.in_ok-drain.ensures.goes_on c.drain.ensures.current (inv.written start arrived was);
    }

pub loop-alloc-preserved : goal.loop-alloc-preserved
loop-alloc-preserved g c =
    let at = c.loop-alloc.self in
    let inv = c.loop-alloc.invariant in
    let next = c.in_ok-go_on.ensures.next in
    let below : at.order.current < length at.order.waiting = search rules in
    let past : length at.order.waiting ≤ at.order.current + 1 =
    no_more c.in_ok-go_on.field-0 (at.order.current + 1) (length at.order.waiting) c.if-branch.false c.in_ok-go_on.ensures.more in
    record {
      stands = inv.stands;
      same = record {
        selection = inv.same.selection;
        choice = inv.same.choice;
        files = ap (λ (o : OrderModel). length o.waiting) next ∙ inv.same.files;
      };
      flaws = inv.flaws;
      written = λ start arrived was. picked_over at.selection start (g.S.Sink.taken c.loop-alloc.sink) at.order c.go_on.new.self arrived next below past (inv.written start arrived was);
    }

pub returns-in_err-go_on-clause-partial : goal.returns-in_err-go_on-clause-partial
returns-in_err-go_on-clause-partial g c =
    let at = c.loop-alloc.self in
    let inv = c.loop-alloc.invariant in
    let now = g.S.Sink.taken c.loop-alloc.sink in
    err_any c.from_residual.result (λ start arrived was.
    subst (λ s. IsPartOfPicked s start now (length c.args.self.now.order.waiting) arrived) inv.same.selection
    (subst (λ n. IsPartOfPicked at.selection start now n arrived) inv.same.files
    (part_here at.selection start now at.order.buffer at.order.current at.order.waiting arrived (inv.written start arrived was))))

pub returns-in_err-drain-clause-partial : goal.returns-in_err-drain-clause-partial
returns-in_err-drain-clause-partial g c =
    let at = c.loop-alloc.self in
    let inv = c.loop-alloc.invariant in
    let new = g.S.Sink.taken c.drain.new.sink in
    err_any c.from_residual-in_err-drain.result (λ start arrived was.
    subst (λ s. IsPartOfPicked s start new (length c.args.self.now.order.waiting) arrived) inv.same.selection
    (subst (λ n. IsPartOfPicked at.selection start new n arrived) inv.same.files
    (part_next at.selection start (g.S.Sink.taken c.loop-alloc.sink) new at.order c.go_on.new.self arrived
    c.in_ok-go_on.ensures.next (c.in_ok-go_on.ensures.more.0 c.if-branch.true) c.in_err-drain.ensures.partial (inv.written start arrived was))))
