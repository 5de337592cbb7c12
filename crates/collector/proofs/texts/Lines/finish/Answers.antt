use Rattle.std.proofs.Common.{◌≡◌, ◌↔◌, true, arith, sym, ◌∙◌}
use Rattle.std.proofs.lemmas.Bool.{false≢true}
use Rattle.collector.proofs.Finishing.{all_written}
use Rattle.collector.proofs.Held.{left_off_finish}
use Rattle.collector.proofs.texts.Lines.finish.Goals as goal
use Rattle.collector.proofs.texts.Lines.finish.Goals.{then-self, else-self}

pub returns-in-Ok-clause-written : goal.returns-in-Ok-clause-written
returns-in-Ok-clause-written g c = λ start choice known meaning ns held have.
    let self = c.args.self in
    let says : (c.if-self.result ≡ 0) ↔ (self.flawless ≡ true) =
    elim c.if-self.branch [
      | then-self w ↦ (λ _. w.if-self.true, λ _. w.result-is)
      | else-self w ↦ (
        λ is. absurd (let none : ⊥ = omega (arith, is, w.result-is) in none),
        λ is. absurd (false≢true (sym w.if-self.false ∙ is)),
      )
    ] in
    all_written choice self.choice meaning known self.form start (g.S.Sink.taken c.args.sink.now) (g.S.Sink.taken c.flush.new.sink) self.order.buffer self.order.current
    self.order.waiting self.flawless ns c.if-self.result have held c.in-Ok.ensures.put says

pub returns-clause-partial : goal.returns-clause-partial
returns-clause-partial g c = λ meaning start ns held.
    left_off_finish meaning start (g.S.Sink.taken c.args.sink.now) (g.S.Sink.taken c.flush.new.sink) c.args.self ns c.in-Err.ensures.partial held
