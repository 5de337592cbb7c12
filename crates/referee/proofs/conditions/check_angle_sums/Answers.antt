use Rattle.std.proofs.Common.{◌≡◌, ℕ, ◌+◌, List, length, get_or, sym, ap, ◌∙◌, ⊎_elim, arith}
use Rattle.std.proofs.lemmas.Bool.{cases_eq}
use Rattle.referee.proofs.conditions.check_angle_sums.Goals as goal

pub loop-place-preserved : goal.loop-place-preserved
loop-place-preserved c = λ v from to.
    let order = ap (length {A = List ℕ}) c.graph.ensures.value in
    ⊎_elim
    (λ same. sym (c.add_angles.ensures v (omega (arith, order, to))) ∙ ap (λ (n : ℕ). get_or c.add_angles.new.sums n 0) same ∙ c.if-sums-from-ne4.false)
    (λ other. c.loop-place.invariant v from (omega (arith, to, other)))
    (cases_eq v (c.from.result + 1))

pub returns-then-sums-from-ne4-clause-first : goal.returns-then-sums-from-ne4-clause-first
returns-then-sums-from-ne4-clause-first c =
    let vertex : ℕ = c.loop-place.place + 1 in
    let read = ap (λ (n : ℕ). get_or c.add_angles.new.sums (n + 1) 0) c.from.ensures in
    let order = ap (length {A = List ℕ}) c.graph.ensures.value in
    record {
      here = (omega arith, omega (arith, order), λ all. c.if-sums-from-ne4.true (read ∙ c.add_angles.ensures vertex (omega (arith, order)) ∙ all));
      before = λ v less disorder. disorder.2 (c.loop-place.invariant v disorder.0 (omega (arith, less)));
    }

pub returns-clause-ordered : goal.returns-clause-ordered
returns-clause-ordered c = λ v from to.
    let order = ap (length {A = List ℕ}) c.graph.ensures.value in
    c.loop-place.invariant v from (omega (arith, order, to))
