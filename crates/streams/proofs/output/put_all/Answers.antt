use Rattle.std.proofs.Common.{arith, ◌≤◌, length, sym, ◌∙◌, take, drop, length-drop}
use Rattle.std.proofs.lemmas.List.{take-append-drop, take_rest}
use Rattle.streams.proofs.Sinks.{added_next, added_kept}
use Rattle.streams.proofs.output.put_all.Goals as goal

pub loop-at-preserved : goal.loop-at-preserved
loop-at-preserved g c =
    let text = c.args.text.now in
    let at = c.loop-at.at in
    let bound : c.in-Ok.count ≤ length (drop at text) = rw (take_rest text at) at c.in-Ok.ensures.bound in
    record {
      in_range = omega (arith, length-drop at text);
      whole = c.in-Ok.ensures.stays ∙ c.loop-at.invariant.whole;
      added = added_next _ _ _ text at c.in-Ok.count c.loop-at.invariant.added (rw (take_rest text at) at c.in-Ok.ensures.takes);
    }

pub returns-in-Err : goal.returns-in-Err
returns-in-Err g c = (
  c.in-Err.ensures.fails,
  (
    take c.loop-at.at c.args.text.now,
    drop c.loop-at.at c.args.text.now,
    sym (take-append-drop c.loop-at.at c.args.text.now),
    added_kept _ _ _ _ c.loop-at.invariant.added c.in-Err.ensures.fault,
  ),
)
