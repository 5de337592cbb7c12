use Rattle.std.proofs.Common.{◌≡◌, ◌+◌, ◌∙◌, [], true, length, ap, arith, subst, sym}
use Rattle.collector.specs.FormLines.{preamble_in}
use Rattle.collector.specs.Holding.{HoldsNotes}
use Rattle.collector.proofs.Held.{held_none, preamble_short}
use Rattle.collector.proofs.texts.Lines.new.Goals as goal
use Rattle.collector.proofs.texts.Lines.new.Goals.{then-files-gt0, else-files-gt0}

pub new-requires : goal.new-requires
new-requires c =
    elim c.if-files-gt0.branch [
      | then-files-gt0 w ↦
          let first : c.if-files-gt0.first.now ≡ preamble_in c.args.form (0 + 1) = cc (w.first-is, w.as_slice-first.ensures.value, c.preamble_line-preamble.ensures) in
          omega (arith, preamble_short c.args.form, ap length first)
      | else-files-gt0 w ↦
          let first : c.if-files-gt0.first.now ≡ [] = cc w.first-is in
          omega (arith, ap length first)
    ]

pub returns-clause-held : goal.returns-clause-held
returns-clause-held c = λ meaning start.
    let order = c.in_ok-order.order in
    let begun = c.in_ok-order.ensures in
    let form = c.args.form in
    subst (λ n. HoldsNotes c.args.choice meaning form start start order.buffer n order.waiting true []) (sym begun.current)
    (elim c.if-files-gt0.branch [
      | then-files-gt0 w ↦
          let first : c.if-files-gt0.first.now ≡ preamble_in form (0 + 1) = cc (w.first-is, w.as_slice-first.ensures.value, c.preamble_line-preamble.ensures) in
          held_none c.args.choice meaning form start order.buffer order.waiting begun.empty
          (λ _. begun.buffer ∙ first)
          (λ past. absurd (let none : ⊥ = omega (arith, past, begun.count, w.if-files-gt0.true) in none))
      | else-files-gt0 w ↦
          let first : c.if-files-gt0.first.now ≡ [] = cc w.first-is in
          held_none c.args.choice meaning form start order.buffer order.waiting begun.empty
          (λ lt. absurd (let none : ⊥ = omega (arith, lt, begun.count, w.if-files-gt0.false) in none))
          (λ _. begun.buffer ∙ first)
    ])
