-- What an entry means for the lists that are left.
use Rattle.std.proofs.Common.{◌≡◌, ◌<◌, List, ℕ, [], drop, get_or, subst, sym, arith}
use Rattle.std.proofs.lemmas.Bool.{false≢true, eq-eqb, eqb-true}
use Rattle.std.proofs.lemmas.List.{drop_all}
use Rattle.embedding.specs.Wide.{AreLists}
use Rattle.embedding.proofs.WideRecords.{lists-none, step-over, step-end, step-entry}
use Rattle.embedding.proofs.wide_record.are_lists.Goals as goal

pub returns-then-remaining-eq0 : goal.returns-then-remaining-eq0
returns-then-remaining-eq0 c = (
  (λ e. absurd (false≢true e)),
  (λ h. absurd (step-over c.args.entries.now c.loop-i.i c.loop-i.remaining c.loop-i-test.true (subst (AreLists (drop c.loop-i.i c.args.entries.now)) c.if-remaining-eq0.true (c.loop-i.invariant.0 h)))),
)

pub loop-i-preserved-then-entries-i-ne0 : goal.loop-i-preserved-then-entries-i-ne0
loop-i-preserved-then-entries-i-ne0 c =
    let fits = c.type_inv.entries c.loop-i.i in
    let nonzero : 0 < get_or c.args.entries.now c.loop-i.i 0 = omega (arith, c.if-entries-i-ne0.true) in
    let step = step-entry c.args.entries.now c.loop-i.i c.loop-i.remaining c.loop-i-test.true (nonzero, omega (arith, fits)) (omega (arith, c.if-remaining-eq0.false)) in
    ((λ h. step.0 (c.loop-i.invariant.0 h)), (λ h. c.loop-i.invariant.1 (step.1 h)))

pub loop-i-preserved : goal.loop-i-preserved
loop-i-preserved c =
    let zero : get_or c.args.entries.now c.loop-i.i 0 ≡ 0 = omega (arith, c.if-entries-i-ne0.false) in
    let step = step-end c.args.entries.now c.loop-i.i c.loop-i.remaining c.loop-i-test.true zero (omega (arith, c.if-remaining-eq0.false)) in
    ((λ h. step.0 (c.loop-i.invariant.0 h)), (λ h. c.loop-i.invariant.1 (step.1 h)))

pub returns : goal.returns
returns c =
    let none : drop c.loop-i.i c.args.entries.now ≡ [] = drop_all c.loop-i.i c.args.entries.now (omega (arith, c.loop-i-test.false)) in
    let end = lists-none c.loop-i.remaining in (
      (λ e. c.loop-i.invariant.1 (subst (λ (l : List ℕ). AreLists l c.loop-i.remaining) (sym none) (end.1 (eqb-true _ _ e)))),
      (λ h. eq-eqb _ _ (end.0 (subst (λ (l : List ℕ). AreLists l c.loop-i.remaining) none (c.loop-i.invariant.0 h)))),
    )
