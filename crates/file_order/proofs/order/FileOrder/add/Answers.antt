use Rattle.std.proofs.Common.{◌≡◌, ◌∙◌, ℕ, List, [], if◌then◌else◌, ap, subst, sym}
use Rattle.std.proofs.lemmas.Bool.{eq-eqb}
use Rattle.file_order.specs.FileOrder.{OrderModel, at_once}
use Rattle.file_order.specs.Writing.{IsPartlyAdded}
use Rattle.file_order.proofs.Prefixes.{partial_here}
use Rattle.file_order.proofs.Refusals.{is_refused, partly_put, put_failed, tells_refused}
use Rattle.file_order.proofs.SucceedsOrFails.{err_any}
use Rattle.file_order.proofs.order.FileOrder.add.Goals as goal

pub returns-in_default-clause-partial : goal.returns-in_default-clause-partial
returns-in_default-clause-partial g c =
    let self = c.args.self.now in
    partial_here (g.S.Sink.taken c.args.sink.now) self.buffer (at_once self.current c.args.file c.args.text.now)

pub returns-in_err-put-clause-partial : goal.returns-in_err-put-clause-partial
returns-in_err-put-clause-partial g c =
    let self = c.args.self.now in
    let text = c.args.text.now in
    let old = g.S.Sink.taken c.args.sink.now in
    let new = g.S.Sink.taken c.put.new.sink in
    let at : c.args.file ≡ self.current = c.if-file-self.true ∙ ap (λ (o : OrderModel). o.current) c.self.view_is in
    let all : at_once self.current c.args.file text ≡ text = ap (λ b. if b then text else []) (eq-eqb c.args.file self.current at) in
    let partial = partly_put old new _ c.put.new.self (g.S.Sink.failed c.put.new.sink) text c.in_err-put.field-0.0 c.in_err-put.ensures in
    err_any _ (subst (IsPartlyAdded old self.buffer new) (sym all) (subst (λ (o : OrderModel). IsPartlyAdded old o.buffer new text) c.self.view_is
    (subst (λ (b : List ℕ). IsPartlyAdded old b new text) c.deref_mut.ensures.value partial)))

pub returns-in_err-put-clause-stands : goal.returns-in_err-put-clause-stands
returns-in_err-put-clause-stands g c =
    (tells_refused _ c.in_err-put.field-0.0 _ (put_failed _ _ _ c.put.new.self _ _ _ c.in_err-put.ensures) c.from_residual.ensures.1).0

pub returns-in_err-put-clause-cause : goal.returns-in_err-put-clause-cause
returns-in_err-put-clause-cause g c =
    rw (is_refused c.in_err-put.field-0.0 _ (put_failed _ _ _ c.put.new.self _ _ _ c.in_err-put.ensures).0 c.from_residual.ensures.1) (λ other. tt)
