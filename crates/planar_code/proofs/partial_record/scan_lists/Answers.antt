-- Each exit, and the next turn, is one lemma on the byte that was taken.
use Rattle.std.proofs.Common.{◌≡◌, ◌<◌, get_or, arith}
use Rattle.planar_code.proofs.Scanning.{scan-whole, scan-end, scan-entry, scan-oversize}
use Rattle.planar_code.proofs.partial_record.scan_lists.Goals as goal

pub returns-then-from-eq-MAX_LIST : goal.returns-then-from-eq-MAX_LIST
returns-then-from-eq-MAX_LIST c =
    let fits = c.type_inv.text c.loop-i.i in
    let nonzero : 0 < get_or c.args.text.now c.loop-i.i 0 = omega (arith, c.if-text-i-ne0.true) in
    λ before started. scan-oversize before c.args.text.now c.loop-i.i c.loop-i.remaining c.loop-i.entries c.loop-i-test.true (c.loop-i.invariant.started before started) nonzero (omega (arith, fits)) (omega (arith, c.if-from-eq-MAX_LIST.true, c.from.ensures))

pub loop-i-preserved-then-text-i-ne0 : goal.loop-i-preserved-then-text-i-ne0
loop-i-preserved-then-text-i-ne0 c =
    let fits = c.type_inv.text c.loop-i.i in
    let nonzero : 0 < get_or c.args.text.now c.loop-i.i 0 = omega (arith, c.if-text-i-ne0.true) in
    let room = c.if-from-eq-MAX_LIST.false in
    let short = c.loop-i.invariant.short in
    record {
      some = c.loop-i.invariant.some;
      short = omega (arith, room, short, c.from.ensures);
      started = λ before started. scan-entry before c.args.text.now c.loop-i.i c.loop-i.remaining c.loop-i.entries c.loop-i-test.true (c.loop-i.invariant.started before started) nonzero (omega (arith, fits)) (omega (arith, room, short, c.from.ensures));
    }

pub returns-then-remaining-eq0 : goal.returns-then-remaining-eq0
returns-then-remaining-eq0 c =
    let done = c.if-remaining-eq0.true in
    let some = c.loop-i.invariant.some in
    let zero : get_or c.args.text.now c.loop-i.i 0 ≡ 0 = omega (arith, c.if-text-i-ne0.false) in
    λ before started. (
      omega arith,
      omega arith,
      scan-whole before c.args.text.now c.loop-i.i c.loop-i.remaining c.loop-i.entries c.loop-i-test.true (c.loop-i.invariant.started before started) zero (omega arith),
    )

pub loop-i-preserved : goal.loop-i-preserved
loop-i-preserved c =
    let more = c.if-remaining-eq0.false in
    let some = c.loop-i.invariant.some in
    let zero : get_or c.args.text.now c.loop-i.i 0 ≡ 0 = omega (arith, c.if-text-i-ne0.false) in
    record {
      some = omega (arith, more);
      short = omega arith;
      started = λ before started. scan-end before c.args.text.now c.loop-i.i c.loop-i.remaining c.loop-i.entries c.loop-i-test.true (c.loop-i.invariant.started before started) zero (omega (arith, more, some));
    }
