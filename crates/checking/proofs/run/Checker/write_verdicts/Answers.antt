use Rattle.std.proofs.Common.{◌≡◌, ◌↔◌, true, ◌<◌, ◌+◌, ℕ, List, ◌++◌, length, take, drop, refl, ap, sym, subst, ◌∙◌, append_assoc, append-nil, length-append, length-take, arith}
use Rattle.std.proofs.lemmas.List.{take-append-drop}
use Rattle.checking.specs.declared.run.CheckOptions.{CheckOptions}
use Rattle.checking.specs.UnderWay.{IsUnderWay, IsCutShort}
use Rattle.checking.proofs.Texts.{taken_next, taken_all}
use Rattle.std.proofs.lemmas.Result.{err_from_is_err_and}
use Rattle.streams.specs.declared.output.WriteFault.{WriteFault}
use Rattle.streams.specs.declared.output.WriteFault.TheVariants.{Write}
use Rattle.checking.proofs.run.Checker.write_verdicts.Goals as goal

-- the place of a record is the number of those before it
before_at : (earlier xs : List (List ℕ)) (i first place : ℕ) → length earlier ≡ first → place ≡ first + i → i < length xs → length (earlier ++ take i xs) ≡ place
before_at earlier xs i first place at next low = omega (arith, length-append earlier (take i xs), length-take i xs)

pub loop-rec-init : goal.loop-rec-init
loop-rec-init g c = record {
  intact = c.requires.intact;
  next = omega arith;
  options = refl;
  goes_on = λ known fails start earlier at u.
      subst (λ (rs : List (List ℕ)). IsUnderWay g.L.Tap.to_come g.L.Tap.fails known fails start (g.S.Sink.taken c.args.out.now) c.args.self.now rs) (sym (append-nil earlier)) u;
}

pub loop-rec-preserved : goal.loop-rec-preserved
loop-rec-preserved g c =
    let inv = c.loop-rec.invariant in
    let i = c.loop-rec.rec-index in
    let xs = c.deref-rec-items.result.now in
    record {
      intact = c.in_ok-write_verdict.ensures.unfailed;
      next = omega (arith, inv.next);
      options = c.write_verdict.ensures.options ∙ inv.options;
      goes_on = λ known fails start earlier at u.
          subst (λ (rs : List (List ℕ)). IsUnderWay g.L.Tap.to_come g.L.Tap.fails known fails start (g.S.Sink.taken c.write_verdict.new.out) c.write_verdict.new.self rs)
          (taken_next earlier xs i c.rec-item.result c.loop-rec-test.true c.rec-item.is)
          (c.in_ok-write_verdict.ensures.goes_on known fails start (earlier ++ take i xs) (before_at earlier xs i c.args.first c.loop-rec.place at inv.next c.loop-rec-test.true) (inv.goes_on known fails start earlier at u));
    }

pub returns-in_err-write_verdict-clause-begun : goal.returns-in_err-write_verdict-clause-begun
returns-in_err-write_verdict-clause-begun g c =
    let q = err_from_is_err_and c.from_residual.result c.from_residual.ensures.1 in
    rw q.1 (λ known fails start earlier mark surplus at u.
    let inv = c.loop-rec.invariant in
    let i = c.loop-rec.rec-index in
    let xs = c.deref-rec-items.result.now in
    let judged = earlier ++ take i xs in
    record {
      judged = judged;
      first = (
        drop i xs,
        ap (λ (l : List (List ℕ)). earlier ++ l) (sym c.deref-rec-items.ensures.value ∙ sym (take-append-drop i xs)) ∙ sym (append_assoc earlier (take i xs) (drop i xs)),
      );
      short = subst (λ (a : CheckOptions). IsCutShort a known fails start (g.S.Sink.taken c.write_verdict.new.out) mark surplus judged) inv.options
          (c.in_err-write_verdict.ensures.begun known fails start judged mark surplus (inv.goes_on known fails start earlier at u));
    })

pub returns-clause-goes_on : goal.returns-clause-goes_on
returns-clause-goes_on g c = λ known fails start earlier at u.
    let xs = c.deref-rec-items.result.now in
    subst (λ (rs : List (List ℕ)). IsUnderWay g.L.Tap.to_come g.L.Tap.fails known fails start (g.S.Sink.taken c.loop-rec.out) c.loop-rec.self (earlier ++ rs))
    (taken_all xs c.loop-rec.rec-index c.loop-rec-test.false ∙ c.deref-rec-items.ensures.value) (c.loop-rec.invariant.goes_on known fails start earlier at u)

pub returns-in_err-write_verdict-clause-fault : goal.returns-in_err-write_verdict-clause-fault
returns-in_err-write_verdict-clause-fault g c =
    let q = err_from_is_err_and c.from_residual.result c.from_residual.ensures.1 in
    rw q.1 (subst (λ (f : WriteFault). (f ≡ Write) ↔ (g.S.Sink.failed c.write_verdict.new.out ≡ true)) (sym q.2) c.in_err-write_verdict.ensures.fault)
