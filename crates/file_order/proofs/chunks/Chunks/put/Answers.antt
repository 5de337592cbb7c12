use Rattle.std.proofs.Common.{◌+◌, ◌++◌, ◌∙◌, List, Vec, Global, ℕ, ap, drop, subst, sym}
use Rattle.std.proofs.lemmas.List.{take_all}
use Rattle.file_order.specs.Concatenated.{concatenated}
use Rattle.file_order.specs.Writing.{GoesOn, IsPartlyAdded}
use Rattle.file_order.proofs.SucceedsOrFails.{err_any}
use Rattle.file_order.proofs.Joining.{concatenated_next, concatenated_rest, goes_both, goes_breaks, partial_more}
use Rattle.file_order.proofs.Refusals.{partly_put, put_failed, tells_refused}
use Rattle.file_order.proofs.chunks.Chunks.put.Goals as goal

pub loop-chunk-preserved : goal.loop-chunk-preserved
loop-chunk-preserved g c =
    let taken = g.S.Sink.taken in
    let at = c.loop-chunk in
    let xs = c.deref-chunk-items.result.now in
    let old = taken c.args.sink.now in
    let mid = taken at.sink in
    let new = taken c.put.new.sink in
    record {
      stands = c.in_ok-put.ensures.0;
      goes = subst (GoesOn old c.args.buffer.now new c.put.new.self)
          (sym (concatenated_next xs at.chunk-index c.chunk-item.result c.as_slice.result.now c.loop-chunk-test.true c.chunk-item.is c.as_slice.ensures.value))
          (goes_both old mid new c.args.buffer.now at.buffer c.put.new.self _ _ at.invariant.goes c.in_ok-put.ensures.1);
    }

-- the chunks before the last are in transit, and a prefix of one more was added

pub returns-in_err-put-clause-partial : goal.returns-in_err-put-clause-partial
returns-in_err-put-clause-partial g c =
    let taken = g.S.Sink.taken in
    let at = c.loop-chunk in
    let old = taken c.args.sink.now in
    let mid = taken at.sink in
    let new = taken c.put.new.sink in
    let waits = c.args.buffer.now in
    let xs = c.deref-chunk-items.result.now in
    let last = c.self.inside.last.items in
    let next = concatenated_next xs at.chunk-index c.chunk-item.result c.as_slice.result.now c.loop-chunk-test.true c.chunk-item.is c.as_slice.ensures.value in
    let here : IsPartlyAdded mid at.buffer new c.as_slice.result.now = partly_put mid new at.buffer c.put.new.self (g.S.Sink.failed c.put.new.sink) c.as_slice.result.now c.in_err-put.field-0.0 c.in_err-put.ensures in
    err_any _ (subst (IsPartlyAdded old waits new)
    (ap (λ text. text ++ last) (concatenated_rest xs (at.chunk-index + 1) ∙ ap concatenated c.deref-chunk-items.ensures.value) ∙ c.self.view_is)
    (partial_more old new waits _ last
    (partial_more old new waits _ (concatenated (drop (at.chunk-index + 1) xs))
    (subst (IsPartlyAdded old waits new) (sym next)
    (goes_breaks old mid new waits at.buffer _ _ at.invariant.goes here)))))

pub returns-in_err-put-clause-stands : goal.returns-in_err-put-clause-stands
returns-in_err-put-clause-stands g c =
    (tells_refused _ c.in_err-put.field-0.0 _ (put_failed _ _ _ c.put.new.self _ _ _ c.in_err-put.ensures) c.from_residual.ensures.1).0

pub returns-in_err-put-clause-refused : goal.returns-in_err-put-clause-refused
returns-in_err-put-clause-refused g c =
    (tells_refused _ c.in_err-put.field-0.0 _ (put_failed _ _ _ c.put.new.self _ _ _ c.in_err-put.ensures) c.from_residual.ensures.1).1

-- all chunks before the last are in transit

pub returns-in_err-put-2-clause-partial : goal.returns-in_err-put-2-clause-partial
returns-in_err-put-2-clause-partial g c =
    let old = g.S.Sink.taken c.args.sink.now in
    let at = c.loop-chunk in
    let mid = g.S.Sink.taken at.sink in
    let new = g.S.Sink.taken c.put-2.new.sink in
    let waits = c.args.buffer.now in
    let all : GoesOn old waits mid at.buffer (concatenated c.self.inside.full.items) =
    subst (λ (l : List (Vec ℕ Global)). GoesOn old waits mid at.buffer (concatenated l))
    (take_all at.chunk-index c.deref-chunk-items.result.now c.loop-chunk-test.false ∙ c.deref-chunk-items.ensures.value) at.invariant.goes in
    let here : IsPartlyAdded mid at.buffer new c.as_slice-2.result.now = partly_put mid new at.buffer c.put-2.new.self (g.S.Sink.failed c.put-2.new.sink) c.as_slice-2.result.now c.in_err-put-2.field-0.0 c.in_err-put-2.ensures in
    err_any _ (subst (IsPartlyAdded old waits new)
    (ap (λ text. concatenated c.self.inside.full.items ++ text) c.as_slice-2.ensures.value ∙ c.self.view_is)
    (goes_breaks old mid new waits at.buffer _ _ all here))

pub returns-in_err-put-2-clause-stands : goal.returns-in_err-put-2-clause-stands
returns-in_err-put-2-clause-stands g c =
    (tells_refused _ c.in_err-put-2.field-0.0 _ (put_failed _ _ _ c.put-2.new.self _ _ _ c.in_err-put-2.ensures) c.from_residual-in_err-put-2.ensures.1).0

pub returns-in_err-put-2-clause-refused : goal.returns-in_err-put-2-clause-refused
returns-in_err-put-2-clause-refused g c =
    (tells_refused _ c.in_err-put-2.field-0.0 _ (put_failed _ _ _ c.put-2.new.self _ _ _ c.in_err-put-2.ensures) c.from_residual-in_err-put-2.ensures.1).1

pub returns-clause-put : goal.returns-clause-put
returns-clause-put g c =
    let old = g.S.Sink.taken c.args.sink.now in
    let at = c.loop-chunk in
    let mid = g.S.Sink.taken at.sink in
    let new = g.S.Sink.taken c.put-2.new.sink in
    let waits = c.args.buffer.now in
    let all : GoesOn old waits mid at.buffer (concatenated c.self.inside.full.items) =
    subst (λ (l : List (Vec ℕ Global)). GoesOn old waits mid at.buffer (concatenated l))
    (take_all at.chunk-index c.deref-chunk-items.result.now c.loop-chunk-test.false ∙ c.deref-chunk-items.ensures.value) at.invariant.goes in
    subst (GoesOn old waits new c.put-2.new.self)
    (ap (λ text. concatenated c.self.inside.full.items ++ text) c.as_slice-2.ensures.value ∙ c.self.view_is)
    (goes_both old mid new waits at.buffer c.put-2.new.self _ _ all c.in_ok-put-2.ensures.1)
