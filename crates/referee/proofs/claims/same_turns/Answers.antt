use Rattle.std.proofs.Common.{◌≡◌, ℕ, List, length, get_or, refl, sym, ap, below_more, arith}
use Rattle.std.proofs.lemmas.Bool.{false≢true}
use Rattle.std.proofs.lemmas.List.{ext_get_or}
use denote.Enum.Bare.{differs_true, differs_false}
use Rattle.ortho_rep.specs.contracts.turn_strings.Turn.{the_type}
use Rattle.ortho_rep.specs.declared.turn_strings.Turn.{Turn}
use Rattle.ortho_rep.specs.declared.turn_strings.Turn.TheVariants.{Left}
use Rattle.referee.proofs.claims.same_turns.Goals as goal

pub loop-k-preserved : goal.loop-k-preserved
loop-k-preserved c =
    below_more _ _ c.loop-k.invariant
    (differs_false the_type tt (get_or c.args.first.now c.loop-k.k Left) (get_or c.args.second.now c.loop-k.k Left) (sym c.if-ne.ensures))

pub returns-then-ne : goal.returns-then-ne
returns-then-ne c = (
  λ e. absurd (false≢true e),
  λ h. absurd (differs_true the_type (get_or c.args.first.now c.loop-k.k Left) (get_or c.args.second.now c.loop-k.k Left) (sym c.if-ne.ensures)
      (ap (λ (ts : List Turn). get_or ts c.loop-k.k Left) h)),
)

pub returns : goal.returns
returns c =
    let size : length c.args.first.now ≡ length c.args.second.now = omega arith in
    (λ _. ext_get_or Left c.args.first.now c.args.second.now size (λ k lt. c.loop-k.invariant k (omega (arith, lt))), λ _. refl)
