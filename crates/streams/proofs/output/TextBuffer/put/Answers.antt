-- Each piece has room after the test, and goes on from what is in transit.
use Rattle.std.proofs.Common.{◌≡◌, ◌+◌, ◌-◌, ◌≤◌, ◌++◌, [], Ok, Err, length, take, drop, subst, sym, ◌∙◌, ap, arith}
use Rattle.std.proofs.lemmas.List.{take-append-drop, length-take}
use Rattle.std.proofs.Math.Seq.{take-add}
use Rattle.std.proofs.lemmas.Result.{err_from_is_err_and}
use Rattle.streams.specs.declared.output.WriteFault.{WriteFault}
use Rattle.streams.specs.Sink.{StaysInTransit}
use Rattle.streams.proofs.Sinks.{flush_waits, kept_waits, flush_fails, line_waits, stays_both}
use Rattle.streams.proofs.output.TextBuffer.put.Goals as goal
use Rattle.streams.proofs.output.TextBuffer.put.Goals.{then-self+in_ok-flush, else-self}

pub push-requires : goal.push-requires
push-requires g c =
    let piece = take (c.min-end.result - c.loop-from.from) (drop c.loop-from.from c.args.text.now) in
    let short : length piece ≤ 512 = omega (arith, length-take (c.min-end.result - c.loop-from.from) (drop c.loop-from.from c.args.text.now), c.min-end.ensures) in
    elim c.if-self.branch [
      | then-self+in_ok-flush w ↦ let none : length c.if-self.self ≡ 0 = ap length w.self-is ∙ ap length w.in_ok-flush.ensures.empty in omega (arith, short, none)
      | else-self w ↦
          let same : length c.if-self.self ≡ length (take c.self.inside.len c.self.inside.bytes) = ap length w.self-is ∙ sym (ap length c.self.view_is) in
          omega (arith, short, same, length-take c.self.inside.len c.self.inside.bytes, w.if-self.false)
    ]

pub loop-from-preserved : goal.loop-from-preserved
loop-from-preserved g c =
    let text = c.args.text.now in
    let from = c.loop-from.from in
    let end = c.min-end.result in
    let before : from ≤ end = omega (arith, c.min-end.ensures, c.loop-from-test.true) in
    let within : end ≤ length text = omega (arith, c.min-end.ensures) in
    let piece = take (end - from) (drop from text) in
    let whole : from + (end - from) ≡ end = omega (arith, before) in
    let joined : take from text ++ piece ≡ take end text = sym (take-add from (end - from) text) ∙ ap (λ n. take n text) whole in
    let mid = g.S.Sink.taken c.loop-from.sink in
    let new = g.S.Sink.taken c.if-self.sink in
    let failed = g.S.Sink.failed c.if-self.sink in
    let room : StaysInTransit {A = Unit {0}} mid c.loop-from.self new c.if-self.self failed [] (Ok tt)
    = elim c.if-self.branch [
      | then-self+in_ok-flush w ↦ rw (w.self-is, w.sink-is) (flush_waits _ _ _ _ _ tt tt w.in_ok-flush.ensures.writes w.in_ok-flush.ensures.empty)
      | else-self w ↦ rw (w.self-is, w.sink-is) (kept_waits mid c.loop-from.self (g.S.Sink.failed c.loop-from.sink) tt c.loop-from.invariant.in_transit.0)
    ] in
    record {
      within = within;
      in_transit = stays_both (g.S.Sink.taken c.args.sink.now) mid new c.args.self.now c.loop-from.self c.push.new.self (g.S.Sink.failed c.loop-from.sink) failed
          (take from text) piece (take end text) tt (Ok tt) c.loop-from.invariant.in_transit (line_waits mid new c.loop-from.self c.if-self.self c.push.new.self failed piece tt tt room c.push.ensures) joined;
    }

pub returns-in_err-flush : goal.returns-in_err-flush
returns-in_err-flush g c =
    let p = err_from_is_err_and c.from_residual.result c.from_residual.ensures.1 in
    let e = c.in_err-flush.field-0.0 in
    let is : c.from_residual.result ≡ Err e = subst (λ (e : WriteFault). c.from_residual.result ≡ Err e) p.2 p.1 in
    let text = c.args.text.now in
    let from = c.loop-from.from in
    flush_fails (g.S.Sink.taken c.args.sink.now) (g.S.Sink.taken c.loop-from.sink) (g.S.Sink.taken c.flush.new.sink) c.args.self.now c.loop-from.self c.flush.new.self
    (g.S.Sink.failed c.loop-from.sink) (g.S.Sink.failed c.flush.new.sink) (take from text) (drop from text) text tt e c.from_residual.result c.loop-from.invariant.in_transit c.in_err-flush.ensures.writes
    (sym (take-append-drop from text)) is
