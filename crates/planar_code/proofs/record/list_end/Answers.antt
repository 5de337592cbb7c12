use Rattle.std.proofs.Common.{◌++◌, ◌<◌, take, get_or, ap, subst, arith}
use Rattle.std.proofs.lemmas.List.{take_all}
use Rattle.planar_code.specs.Stream.{IsUnfinished}
use Rattle.planar_code.proofs.Started.{started-unfinished}
use Rattle.planar_code.proofs.Scanning.{scan-whole, scan-end, scan-entry, scan-oversize}
use Rattle.planar_code.proofs.record.list_end.Goals as goal

pub returns-then-byte-eq0 : goal.returns-then-byte-eq0
returns-then-byte-eq0 c = λ before remaining s.
    let started = c.loop-i.invariant.started before remaining s in (
      omega arith,
      omega arith,
      (λ more. scan-end before c.args.bytes.now c.loop-i.i remaining c.loop-i.i c.loop-i-test.true started c.if-byte-eq0.true more),
      (λ last. scan-whole before c.args.bytes.now c.loop-i.i remaining c.loop-i.i c.loop-i-test.true started c.if-byte-eq0.true last),
    )

pub returns-then-i-eq-MAX_LIST : goal.returns-then-i-eq-MAX_LIST
returns-then-i-eq-MAX_LIST c = λ before remaining s.
    let fits = c.type_inv.bytes c.loop-i.i in
    let nonzero : 0 < get_or c.args.bytes.now c.loop-i.i 0 = omega (arith, c.if-byte-eq0.false) in
    scan-oversize before c.args.bytes.now c.loop-i.i remaining c.loop-i.i c.loop-i-test.true (c.loop-i.invariant.started before remaining s) nonzero (omega (arith, fits)) c.if-i-eq-MAX_LIST.true

pub loop-i-preserved : goal.loop-i-preserved
loop-i-preserved c =
    let fits = c.type_inv.bytes c.loop-i.i in
    let nonzero : 0 < get_or c.args.bytes.now c.loop-i.i 0 = omega (arith, c.if-byte-eq0.false) in
    record {
      short = omega (arith, c.if-i-eq-MAX_LIST.false);
      started = λ before remaining s.
          scan-entry before c.args.bytes.now c.loop-i.i remaining c.loop-i.i c.loop-i-test.true (c.loop-i.invariant.started before remaining s) nonzero (omega (arith, fits)) (omega (arith, c.if-i-eq-MAX_LIST.false));
    }

pub returns : goal.returns
returns c = λ before remaining s.
    let all = take_all c.loop-i.i c.args.bytes.now (omega (arith, c.loop-i-test.false)) in
    subst IsUnfinished (ap (λ z. before ++ z) all) (started-unfinished (before ++ take c.loop-i.i c.args.bytes.now) remaining c.loop-i.i (c.loop-i.invariant.started before remaining s))
