use Rattle.serde_json.specs.View.{view}
use Rattle.std.proofs.Common.{inl, inr, sym, subst, ◌∙◌}
use Rattle.std.proofs.lemmas.Result.{err_from_is_err_and}
use Rattle.checking.specs.LineContents.{IsWrongLine}
use Rattle.checking.proofs.Fields.{nothing_said, not_named}
use Rattle.checking.proofs.line_content.content_of.Goals as goal

pub returns-in_err-drawing_in-clause-none : goal.returns-in_err-drawing_in-clause-none
returns-in_err-drawing_in-clause-none c =
    let q = err_from_is_err_and c.from_residual-in_err-drawing_in.result c.from_residual-in_err-drawing_in.ensures.1 in
    rw q.1 (λ real.
    nothing_said c.args.line.now (view c.in_ok-value.value) c.in_ok-value.ensures.ok (not_named _ _ _ c.get.ensures (sym c.is_some.ensures ∙ c.if-is_some.false)) (c.in_err-drawing_in.ensures.none (λ m. real (q.2 ∙ m))))

pub returns-in_err-value-clause-none : goal.returns-in_err-value-clause-none
returns-in_err-value-clause-none c =
    let q = err_from_is_err_and c.from_residual.result c.from_residual.ensures.1 in
    rw q.1 (λ memory.
    let none = c.in_err-value.ensures.none (λ m. memory (q.2 ∙ m)) in
    record { no_end = λ e. none e.value e.text; no_drawing = λ points claims fits says. none says.value says.text })

pub returns-in_err-value-clause-fault : goal.returns-in_err-value-clause-fault
returns-in_err-value-clause-fault c =
    let q = err_from_is_err_and c.from_residual.result c.from_residual.ensures.1 in
    rw q.1 (λ memory.
    subst (IsWrongLine c.args.line.now) (sym q.2) (inl (c.in_err-value.ensures.fault (λ m. memory (q.2 ∙ m)), c.in_err-value.ensures.none (λ m. memory (q.2 ∙ m)))))

pub returns-in_err-drawing_in-clause-fault : goal.returns-in_err-drawing_in-clause-fault
returns-in_err-drawing_in-clause-fault c =
    let q = err_from_is_err_and c.from_residual-in_err-drawing_in.result c.from_residual-in_err-drawing_in.ensures.1 in
    rw q.1 (λ memory. subst (IsWrongLine c.args.line.now) (sym q.2)
    (inr (view c.in_ok-value.value, c.in_ok-value.ensures.ok, c.in_err-drawing_in.ensures.fault (λ m. memory (q.2 ∙ m)))))
