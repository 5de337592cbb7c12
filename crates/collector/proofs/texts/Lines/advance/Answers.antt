use Rattle.std.proofs.Common.{◌≡◌, ◌+◌, ◌≤◌, ◌<◌, ◌∙◌, ap, false, length, rules, subst, sym}
use Rattle.file_order.specs.FileOrder.{OrderModel}
use Rattle.file_order.specs.Writing.{GoesOn, IsPartlyAdded}
use Rattle.file_order.proofs.SucceedsOrFails.{err_any}
use Rattle.collector.specs.declared.texts.Lines.{Lines}
use Rattle.collector.specs.FormLines.{preamble_in, end_in}
use Rattle.collector.specs.Holding.{AreLinesOf, LinesWrite}
use Rattle.collector.specs.Written.{IsPartialText}
use Rattle.collector.proofs.Moving.{no_more, left_ended, left_file, begun_file, written_over}
use Rattle.collector.proofs.Partial.{partial_as, partial_end, partial_remaining, partial_first, partial_file}
use Rattle.collector.proofs.texts.Lines.advance.Goals as goal
use Rattle.collector.proofs.texts.Lines.advance.Goals.{then-branch+in_ok-put-2+in_ok-drain, else-branch}

pub returns-in_err-put-clause-partial : goal.returns-in_err-put-clause-partial
returns-in_err-put-clause-partial g c =
    let first = c.args.self.now in
    let self = c.loop-end.self in
    let inv = c.loop-end.invariant in
    let end = c.in-Some.end in
    let old = g.S.Sink.taken c.loop-end.sink in
    let within : self.order.current < length self.order.waiting = search rules in
    let is : c.as_slice.result.now ≡ end_in self.form (self.order.current + 1) end.mark end.count =
    c.as_slice.ensures.value ∙ c.in_ok-text.ensures ∙ ap (λ n. end_in self.form (n + 1) end.mark end.count) c.current.ensures in
    let new = g.S.Sink.taken c.put.new.sink in
    err_any c.from_residual-in_err-put.result (λ start came was.
    partial_as first.form self.form start new (length first.order.waiting) (length self.order.waiting) came inv.same.form inv.same.files
    (partial_end self.form start old new self.order.buffer self.order.current self.order.waiting came end within c.in-Some.ensures.ended
    (subst (IsPartlyAdded old self.order.buffer new) is c.in_err-put.ensures.partial) (inv.written start came was)))

pub returns-in_err-go_on-clause-partial : goal.returns-in_err-go_on-clause-partial
returns-in_err-go_on-clause-partial g c =
    let first = c.args.self.now in
    let self = c.loop-end.self in
    let inv = c.loop-end.invariant in
    let end = c.in-Some.end in
    let old = g.S.Sink.taken c.loop-end.sink in
    let within : self.order.current < length self.order.waiting = search rules in
    let is : c.as_slice.result.now ≡ end_in self.form (self.order.current + 1) end.mark end.count =
    c.as_slice.ensures.value ∙ c.in_ok-text.ensures ∙ ap (λ n. end_in self.form (n + 1) end.mark end.count) c.current.ensures in
    let mid = g.S.Sink.taken c.put.new.sink in
    let put = c.put.new.self in
    let goes = subst (GoesOn old self.order.buffer mid put.buffer) is c.in_ok-put.ensures.goes_on in
    err_any c.from_residual-in_err-go_on.result (λ start came was.
    partial_as first.form self.form start mid (length first.order.waiting) (length self.order.waiting) came inv.same.form inv.same.files
    (partial_remaining self.form start mid put.buffer (self.order.current + 1) self.order.waiting came
    (left_ended self.form start old mid self.order.buffer put.buffer self.order.current self.order.waiting came end within c.in-Some.ensures.ended goes (inv.written start came was))))

pub returns-in_err-put-2-clause-partial : goal.returns-in_err-put-2-clause-partial
returns-in_err-put-2-clause-partial g c =
    let first = c.args.self.now in
    let self = c.loop-end.self in
    let inv = c.loop-end.invariant in
    let end = c.in-Some.end in
    let old = g.S.Sink.taken c.loop-end.sink in
    let within : self.order.current < length self.order.waiting = search rules in
    let is : c.as_slice.result.now ≡ end_in self.form (self.order.current + 1) end.mark end.count =
    c.as_slice.ensures.value ∙ c.in_ok-text.ensures ∙ ap (λ n. end_in self.form (n + 1) end.mark end.count) c.current.ensures in
    let mid = g.S.Sink.taken c.put.new.sink in
    let put = c.put.new.self in
    let goes = subst (GoesOn old self.order.buffer mid put.buffer) is c.in_ok-put.ensures.goes_on in
    let here = c.go_on.new.self in
    let went = c.in_ok-go_on.ensures.next in
    let same = c.in_ok-put.ensures.same in
    let below : here.current < length here.waiting = subst (λ (o : OrderModel). o.current < length o.waiting) (sym went) (c.in_ok-go_on.ensures.more.0 c.if-branch.true) in
    let preamble : c.as_slice-then-branch.result.now ≡ preamble_in self.form (here.current + 1) =
    c.as_slice-then-branch.ensures.value ∙ c.preamble_line-first.ensures ∙ ap (λ n. preamble_in self.form (n + 1)) c.current-then-branch.ensures in
    let files : length here.waiting ≡ length self.order.waiting = ap (λ (o : OrderModel). length o.waiting) went ∙ ap (λ (o : OrderModel). length o.waiting) same in
    let new = g.S.Sink.taken c.put-then-branch.new.sink in
    err_any c.from_residual-in_err-put-2.result (λ start came was.
    partial_as first.form self.form start new (length first.order.waiting) (length self.order.waiting) came inv.same.form inv.same.files
    (subst (λ n. IsPartialText self.form start new n came) files
    (partial_first self.form start mid new here.buffer here.current here.waiting came below (subst (IsPartlyAdded mid here.buffer new) preamble c.in_err-put-2.ensures.partial)
    (left_file self.form start old mid self.order put here came end within c.in-Some.ensures.ended goes same went (inv.written start came was)))))

pub returns-in_err-drain-clause-partial : goal.returns-in_err-drain-clause-partial
returns-in_err-drain-clause-partial g c =
    let first = c.args.self.now in
    let self = c.loop-end.self in
    let inv = c.loop-end.invariant in
    let end = c.in-Some.end in
    let old = g.S.Sink.taken c.loop-end.sink in
    let within : self.order.current < length self.order.waiting = search rules in
    let is : c.as_slice.result.now ≡ end_in self.form (self.order.current + 1) end.mark end.count =
    c.as_slice.ensures.value ∙ c.in_ok-text.ensures ∙ ap (λ n. end_in self.form (n + 1) end.mark end.count) c.current.ensures in
    let mid = g.S.Sink.taken c.put.new.sink in
    let put = c.put.new.self in
    let goes = subst (GoesOn old self.order.buffer mid put.buffer) is c.in_ok-put.ensures.goes_on in
    let here = c.go_on.new.self in
    let went = c.in_ok-go_on.ensures.next in
    let same = c.in_ok-put.ensures.same in
    let below : here.current < length here.waiting = subst (λ (o : OrderModel). o.current < length o.waiting) (sym went) (c.in_ok-go_on.ensures.more.0 c.if-branch.true) in
    let preamble : c.as_slice-then-branch.result.now ≡ preamble_in self.form (here.current + 1) =
    c.as_slice-then-branch.ensures.value ∙ c.preamble_line-first.ensures ∙ ap (λ n. preamble_in self.form (n + 1)) c.current-then-branch.ensures in
    let files : length here.waiting ≡ length self.order.waiting = ap (λ (o : OrderModel). length o.waiting) went ∙ ap (λ (o : OrderModel). length o.waiting) same in
    let between = c.put-then-branch.new.self in
    let next = g.S.Sink.taken c.put-then-branch.new.sink in
    let new = g.S.Sink.taken c.drain.new.sink in
    err_any c.from_residual-in_err-drain.result (λ start came was.
    partial_as first.form self.form start new (length first.order.waiting) (length self.order.waiting) came inv.same.form inv.same.files
    (subst (λ n. IsPartialText self.form start new n came) files
    (partial_file self.form start mid next new here between came below (subst (GoesOn mid here.buffer next between.buffer) preamble c.in_ok-put-2.ensures.goes_on) c.in_ok-put-2.ensures.same
    c.in_err-drain.ensures.partial
    (left_file self.form start old mid self.order put here came end within c.in-Some.ensures.ended goes same went (inv.written start came was)))))

pub loop-end-preserved : goal.loop-end-preserved
loop-end-preserved g c =
    let first = c.args.self.now in
    let self = c.loop-end.self in
    let inv = c.loop-end.invariant in
    let end = c.in-Some.end in
    let old = g.S.Sink.taken c.loop-end.sink in
    let within : self.order.current < length self.order.waiting = search rules in
    let is : c.as_slice.result.now ≡ end_in self.form (self.order.current + 1) end.mark end.count =
    c.as_slice.ensures.value ∙ c.in_ok-text.ensures ∙ ap (λ n. end_in self.form (n + 1) end.mark end.count) c.current.ensures in
    let mid = g.S.Sink.taken c.put.new.sink in
    let put = c.put.new.self in
    let goes = subst (GoesOn old self.order.buffer mid put.buffer) is c.in_ok-put.ensures.goes_on in
    let here = c.go_on.new.self in
    let went = c.in_ok-go_on.ensures.next in
    let same = c.in_ok-put.ensures.same in
    let files : length here.waiting ≡ length self.order.waiting = ap (λ (o : OrderModel). length o.waiting) went ∙ ap (λ (o : OrderModel). length o.waiting) same in
    elim c.if-branch.branch [
      | then-branch+in_ok-put-2+in_ok-drain w ↦
          let below : here.current < length here.waiting = subst (λ (o : OrderModel). o.current < length o.waiting) (sym went) (c.in_ok-go_on.ensures.more.0 w.if-branch.true) in
          let preamble : w.as_slice-then-branch.result.now ≡ preamble_in self.form (here.current + 1) =
          w.as_slice-then-branch.ensures.value ∙ w.preamble_line-first.ensures ∙ ap (λ n. preamble_in self.form (n + 1)) w.current-then-branch.ensures in
          let between = w.put-then-branch.new.self in
          let next = g.S.Sink.taken w.put-then-branch.new.sink in
          let after : Lines = record self { order = w.drain.new.self } in
          record {
            stands = subst (λ s. g.S.Sink.failed s ≡ false) (sym w.sink-is) w.in_ok-drain.ensures.stands.stands;
            same = subst (AreLinesOf first) (sym w.self-is) (record {
              form = inv.same.form;
              choice = inv.same.choice;
              files = w.drain.ensures.taken.count ∙ ap (λ (o : OrderModel). length o.waiting) w.in_ok-put-2.ensures.same ∙ files ∙ inv.same.files;
            });
            flawless = ap (λ (l : Lines). l.flawless) w.self-is ∙ inv.flawless;
            written = λ start came was.
                subst (λ l. LinesWrite start (g.S.Sink.taken c.if-branch.sink) l came) (sym w.self-is)
                (subst (λ s. LinesWrite start (g.S.Sink.taken s) after came) (sym w.sink-is)
                (begun_file self.form start mid next (g.S.Sink.taken w.drain.new.sink) here between w.drain.new.self came below
                (subst (GoesOn mid here.buffer next between.buffer) preamble w.in_ok-put-2.ensures.goes_on) w.in_ok-put-2.ensures.same
                w.drain.ensures.taken w.in_ok-drain.ensures.goes_on w.drain.ensures.current
                (left_file self.form start old mid self.order put here came end within c.in-Some.ensures.ended goes same went (inv.written start came was))));
          }
      | else-branch w ↦
          let after : Lines = record self { order = here } in
          let past : length here.waiting ≤ here.current =
          subst (λ (o : OrderModel). length o.waiting ≤ o.current) (sym went) (no_more c.in_ok-go_on.field-0 (put.current + 1) (length put.waiting) w.if-branch.false c.in_ok-go_on.ensures.more) in
          record {
            stands = subst (λ s. g.S.Sink.failed s ≡ false) (sym w.sink-is) c.in_ok-put.ensures.stands.stands;
            same = subst (AreLinesOf first) (sym w.self-is) (record { form = inv.same.form; choice = inv.same.choice; files = files ∙ inv.same.files });
            flawless = ap (λ (l : Lines). l.flawless) w.self-is ∙ inv.flawless;
            written = λ start came was.
                subst (λ l. LinesWrite start (g.S.Sink.taken c.if-branch.sink) l came) (sym w.self-is)
                (subst (λ s. LinesWrite start (g.S.Sink.taken s) after came) (sym w.sink-is)
                (written_over self.form start mid here.buffer here.current here.waiting came past
                (left_file self.form start old mid self.order put here came end within c.in-Some.ensures.ended goes same went (inv.written start came was))));
          }
    ]
