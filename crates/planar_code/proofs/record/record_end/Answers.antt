use Rattle.std.proofs.Common.{◌+◌, ◌-◌, take, get_or, sym, subst, arith}
use Rattle.planar_code.specs.Started.{IsStarted}
use Rattle.planar_code.proofs.Started.{started-first}
use Rattle.planar_code.proofs.Scanning.{take-first}
use Rattle.planar_code.proofs.Plains.{ends-next}
use Rattle.planar_code.proofs.record.record_end.Goals as goal

pub loop-done-init : goal.loop-done-init
loop-done-init c =
    let order = get_or c.args.bytes.now 0 0 in
    record {
      some = omega arith;
      within = omega (arith, c.requires.some);
      partial_record = λ more.
          subst (λ n. IsStarted (take 1 c.args.bytes.now) n 0) (omega arith)
          (subst (λ z. IsStarted z order 0) (sym (take-first c.args.bytes.now c.requires.some)) (started-first order more (omega (arith, c.type_inv.bytes 0))));
      whole = λ none. absurd (c.requires.nonzero (sym none));
    }

pub loop-done-preserved : goal.loop-done-preserved
loop-done-preserved c =
    let order = get_or c.args.bytes.now 0 0 in
    let at = c.loop-done.at in
    let n = c.in-After.end in
    let test = c.loop-done-test.true in
    let e = ends-next c.args.bytes.now at (order - c.loop-done.done) n c.loop-done.invariant.within
    (c.in-After.ensures (take at c.args.bytes.now) (order - c.loop-done.done) (c.loop-done.invariant.partial_record test)) in
    record {
      some = omega (arith, c.loop-done.invariant.some);
      within = e.0;
      partial_record = λ more. subst (λ k. IsStarted (take (at + n) c.args.bytes.now) k 0) (omega arith) (e.1 (omega arith));
      whole = λ all. e.2 (omega arith);
    }
