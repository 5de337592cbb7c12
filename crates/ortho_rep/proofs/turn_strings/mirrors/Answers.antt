use Rattle.std.proofs.Common.{◌≡◌, ◌-◌, true, false, length, get_or, ◌∙◌, sym, rules, arith}
use borrow.Author.Count.{below_more}
use denote.Enum.Bare.{sameb}
use Rattle.ortho_rep.specs.contracts.turn_strings.Turn.{the_type}
use Rattle.ortho_rep.specs.declared.turn_strings.Turn.{Turn}
use Rattle.ortho_rep.specs.declared.turn_strings.Turn.TheVariants.{Left, Right}
use Rattle.ortho_rep.specs.Turns.{opposite}
use Rattle.ortho_rep.proofs.Mirrors.{mirrored-from, mirrored-at}
use Rattle.ortho_rep.proofs.turn_strings.mirrors.Goals as goal

same-turns : (a b : Turn) → sameb the_type a b ≡ true → b ≡ opposite a → ⊥
same-turns Left Left same other = cc
same-turns Left Right same other = cc
same-turns Right Left same other = cc
same-turns Right Right same other = cc

other-turns : (a b : Turn) → sameb the_type a b ≡ false → b ≡ opposite a
other-turns Left Left other = cc
other-turns Left Right other = cc
other-turns Right Left other = cc
other-turns Right Right other = cc

pub returns-then-eq : goal.returns-then-eq
returns-then-eq c = (
  λ f. search rules,
  λ e. absurd (same-turns _ _ (sym c.eq.ensures ∙ c.if-eq.true) (mirrored-at c.args.turns.now c.args.reverse.now c.loop-i.i c.loop-i-test.true e)),
)

pub loop-i-preserved : goal.loop-i-preserved
loop-i-preserved c =
    below_more (λ k. get_or c.args.reverse.now (length c.args.reverse.now - 1 - k) Left ≡ opposite (get_or c.args.turns.now k Left)) c.loop-i.i c.loop-i.invariant (other-turns _ _ (sym c.eq.ensures ∙ c.if-eq.false))

pub returns : goal.returns
returns c = (λ _. mirrored-from _ _ c.if-turns-reverse.false (λ k b. c.loop-i.invariant k (omega arith)), λ _. search rules)
