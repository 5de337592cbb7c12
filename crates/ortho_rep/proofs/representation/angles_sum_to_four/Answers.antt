use Rattle.std.proofs.Common.{◌≡◌, ◌+◌, ◌-◌, ℕ, List, length, get_or, ap, ◌∙◌, sym, rules, arith}
use Rattle.ortho_rep.proofs.representation.angles_sum_to_four.Goals as goal

pub returns-then-sums-from-ne4 : goal.returns-then-sums-from-ne4
returns-then-sums-from-ne4 g c =
    let vertex = c.from.result + 1 in
    let order = ap (length {A = List ℕ}) c.graph.ensures.value in (
      λ f. search rules,
      λ all. absurd (c.if-sums-from-ne4.true (c.add_angles.ensures vertex (omega (arith, order)) ∙ all vertex (omega arith) (omega (arith, order)))),
    )

pub returns : goal.returns
returns g c =
    let order = ap (length {A = List ℕ}) c.graph.ensures.value in (
      λ _ v from to.
          let back : v - 1 + 1 ≡ v = omega arith in
          sym (c.add_angles.ensures v to) ∙ (ap (λ (z : ℕ). get_or c.add_angles.new.sums z 0) (sym back) ∙ c.loop-place.invariant (v - 1) (omega (arith, order))),
      λ _. search rules,
    )

pub whole_as_slice-add_angles : goal.whole_as_slice-add_angles
whole_as_slice-add_angles g c = omega (arith, c.requires.few)
