use Rattle.std.proofs.Common.{◌≡◌, ◌≢◌, ℕ, get_or, ap, ◌∙◌, sym, arith, below_more}
use Rattle.std.specs.Prelude.{pos, negsuc, ◌-ℤ◌}
use Rattle.std.proofs.lemmas.Bool.{iff_false}
use Rattle.referee.proofs.conditions.find_outer.Goals as goal

pub loop-face-preserved : goal.loop-face-preserved
loop-face-preserved c =
    let face = c.loop-face.face in
    let place = ap (λ (k : ℕ). pos (get_or c.add_turns.new.left_sums k 0) -ℤ pos (get_or c.add_turns.new.right_sums k 0)) c.from-place.ensures in
    below_more _ _ c.loop-face.invariant
    (λ turns. iff_false c.turns_right.ensures c.if-turns_right.false (place ∙ sym (c.add_turns.ensures face (omega arith)) ∙ turns))

pub returns-then-turns_right-clause-turns : goal.returns-then-turns_right-clause-turns
returns-then-turns_right-clause-turns c =
    let face = c.loop-face.face in
    let place = ap (λ (k : ℕ). pos (get_or c.add_turns.new.left_sums k 0) -ℤ pos (get_or c.add_turns.new.right_sums k 0)) c.from-place.ensures in
    c.add_turns.ensures face (omega arith) ∙ sym place ∙ c.turns_right.ensures.0 c.if-turns_right.true
