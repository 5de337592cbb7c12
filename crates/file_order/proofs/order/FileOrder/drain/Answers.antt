use Rattle.std.proofs.Common.{◌≡◌, ◌<◌, ◌∙◌, ℕ, List, ap, get_or, length, subst, sym}
use Rattle.std.proofs.lemmas.List.{get_or_default}
use Rattle.file_order.specs.declared.chunks.Waiting.{Waiting}
use Rattle.file_order.specs.FileOrder.{OrderModel}
use Rattle.file_order.specs.Writing.{IsPartlyAdded}
use Rattle.file_order.proofs.SucceedsOrFails.{err_then}
use Rattle.file_order.proofs.order.FileOrder.drain.Goals as goal

pub returns-clause-partial : goal.returns-clause-partial
returns-clause-partial g c =
    let old = g.S.Sink.taken c.args.sink.now in
    let new = g.S.Sink.taken c.put.new.sink in
    let inside = c.self.inside in
    let here = c.index_mut-here.result.now in
    let below : inside.current < length inside.waiting.items = subst (λ (o : OrderModel). o.current < length o.waiting) (sym c.self.view_is) c.requires.below in
    let is : (other : Waiting) → here ≡ get_or inside.waiting.items inside.current other =
    λ other. c.index_mut-here.ensures.value ∙ get_or_default inside.waiting.items inside.current here other below in
    err_then c.put.result c.put.ensures.partial (λ partial other.
    subst (λ (o : OrderModel). IsPartlyAdded old o.buffer new (get_or o.waiting o.current other).lines) c.self.view_is
    (subst (IsPartlyAdded old inside.buffer.value new) (c.replace-lines.ensures.value ∙ ap (λ (w : Waiting). w.lines) (is other))
    (subst (λ (b : List ℕ). IsPartlyAdded old b new c.replace-lines.result) c.deref_mut.ensures.value partial)))
