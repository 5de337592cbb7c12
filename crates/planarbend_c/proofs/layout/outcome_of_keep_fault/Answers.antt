use Rattle.std.proofs.Common.{inl, inr, subst}
use Rattle.answers.specs.Kept.{IsUnkept}
use Rattle.planarbend_c.proofs.layout.outcome_of_keep_fault.Goals as goal

pub returns-in-NoShape-clause-told : goal.returns-in-NoShape-clause-told
returns-in-NoShape-clause-told c = λ conditions choice g shown. record {
  why = c.in-NoShape.why;
  shown = subst (IsUnkept conditions choice g) c.in-NoShape.is shown;
  held = c.put_cut.ensures.held;
}

pub returns-in-NoAngle-clause-told : goal.returns-in-NoAngle-clause-told
returns-in-NoAngle-clause-told c = λ conditions choice g shown. inl (subst (IsUnkept conditions choice g) c.in-NoAngle.is shown)

pub returns-in-TooManyTurns-clause-told : goal.returns-in-TooManyTurns-clause-told
returns-in-TooManyTurns-clause-told c = λ conditions choice g shown. inr (subst (IsUnkept conditions choice g) c.in-TooManyTurns.is shown)
