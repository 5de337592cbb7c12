use Rattle.std.proofs.Common.{ℕ, cond, eqb, get_or, ap, ◌∙◌, sym, rules, arith, below_more}
use Rattle.std.specs.Prelude.{pos, negsuc, ◌-ℤ◌}
use Rattle.std.proofs.lemmas.Bool.{iff_false}
use Rattle.ortho_rep.proofs.representation.faces_turn_once.Goals as goal

pub returns-then-not-turns_once : goal.returns-then-not-turns_once
returns-then-not-turns_once g c =
    let face = c.loop-face.face in
    let outer = ap (λ (o : ℕ). cond (eqb face o) (negsuc 3) (pos 4)) c.outer.ensures.value in
    let place = ap (λ (k : ℕ). pos (get_or c.add_turns.new.left_sums k 0) -ℤ pos (get_or c.add_turns.new.right_sums k 0)) c.from-place.ensures in (
      λ f. search rules,
      λ all. absurd (iff_false c.turns_once.ensures c.if-not-turns_once.true
          (place ∙ (sym (c.add_turns.ensures face (omega arith)) ∙ (all face (omega arith) ∙ sym outer)))),
    )

pub loop-face-preserved : goal.loop-face-preserved
loop-face-preserved g c =
    let face = c.loop-face.face in
    let outer = ap (λ (o : ℕ). cond (eqb face o) (negsuc 3) (pos 4)) c.outer.ensures.value in
    let place = ap (λ (k : ℕ). pos (get_or c.add_turns.new.left_sums k 0) -ℤ pos (get_or c.add_turns.new.right_sums k 0)) c.from-place.ensures in
    below_more _ _ c.loop-face.invariant
    (c.add_turns.ensures face (omega arith) ∙ (sym place ∙ (c.turns_once.ensures.0 c.if-not-turns_once.false ∙ outer)))

pub whole_as_slice-add_turns : goal.whole_as_slice-add_turns
whole_as_slice-add_turns g c = omega (arith, c.requires.few)

pub whole_as_slice-add_turns-2 : goal.whole_as_slice-add_turns-2
whole_as_slice-add_turns-2 g c = omega (arith, c.requires.few)
