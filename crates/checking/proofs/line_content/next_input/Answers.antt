use Rattle.std.proofs.Common.{true, false, inl, inr, refl, subst}
use Rattle.checking.specs.Lines.{state_in}
use Rattle.checking.specs.LineContents.{SaysNothing, IsWrongLine}
use Rattle.checking.specs.declared.line_content.DrawingInput.TheVariants as told
use Rattle.checking.proofs.Ends.{says_drawing, says_end}
use Rattle.checking.proofs.Reading.{open_first, open_at_line, open_at_long, may_first, may_end, may_fail, leaves_out, keeps_line, keeps_long, keeps_none}
use Rattle.checking.proofs.line_content.next_input.Goals as goal

pub loop-init : goal.loop-init
loop-init g c = record {
  since = inr refl;
  keeps = λ known fails kept has. has;
}

pub loop-preserved : goal.loop-preserved
loop-preserved g c =
    let inv = c.loop.invariant in
    record {
      since = inl (open_first _ _ inv.since (open_at_line _ c.in-Line.ensures.closed));
      keeps = λ known fails kept has.
          let so_far = inv.keeps known fails kept has in
          leaves_out g.L.Tap.to_come g.L.Tap.fails known fails c.next-in-loop.new.self c.loop.lines kept
          (says_end _ _ c.in-Ok-End.field-0 c.line.ensures c.in-Ok-End.field-0-is c.in-Ok-End.ensures.ok)
          so_far (c.in-Line.ensures.gives known fails so_far.given so_far.has_given);
    }

pub returns-in-Ok-Drawing : goal.returns-in-Ok-Drawing
returns-in-Ok-Drawing g c = λ known fails kept has.
    let so_far = c.loop.invariant.keeps known fails kept has in
    keeps_line g.L.Tap.to_come g.L.Tap.fails known fails c.next-in-loop.new.self (state_in c.args.lines.now) c.loop.lines kept (told.Drawing c.in-Ok-Drawing.drawing)
    (open_first _ _ c.loop.invariant.since (open_at_line _ c.in-Line.ensures.closed)) so_far
    (λ short. (short, says_drawing _ _ c.in-Ok-Drawing.field-0 c.in-Ok-Drawing.drawing c.line.ensures c.in-Ok-Drawing.field-0-is c.in-Ok-Drawing.ensures.ok))
    (c.in-Line.ensures.gives known fails so_far.given so_far.has_given)

pub returns-in-Err : goal.returns-in-Err
returns-in-Err g c = λ known fails kept has.
    let so_far = c.loop.invariant.keeps known fails kept has in
    keeps_line g.L.Tap.to_come g.L.Tap.fails known fails c.next-in-loop.new.self (state_in c.args.lines.now) c.loop.lines kept (told.Fault c.in-Err.fault)
    (open_first _ _ c.loop.invariant.since (open_at_line _ c.in-Line.ensures.closed)) so_far
    (λ short other. inl (
      short,
      subst SaysNothing c.line.ensures (c.in-Err.ensures.none other),
      subst (λ bytes. IsWrongLine bytes c.in-Err.fault) c.line.ensures (c.in-Err.ensures.fault other),
    ))
    (c.in-Line.ensures.gives known fails so_far.given so_far.has_given)

pub returns-in-TooLong : goal.returns-in-TooLong
returns-in-TooLong g c = λ known fails kept has.
    let so_far = c.loop.invariant.keeps known fails kept has in
    keeps_long g.L.Tap.to_come g.L.Tap.fails known fails c.next-in-loop.new.self (state_in c.args.lines.now) c.loop.lines kept
    (open_first _ _ c.loop.invariant.since (open_at_long _ c.in-TooLong.ensures.closed)) so_far
    (c.in-TooLong.ensures.gives known fails so_far.given so_far.has_given)

pub returns-in-End : goal.returns-in-End
returns-in-End g c = λ known fails kept has.
    let so_far = c.loop.invariant.keeps known fails kept has in
    let gives = c.in-End.ensures.gives known fails so_far.given so_far.has_given in
    keeps_none g.L.Tap.to_come g.L.Tap.fails known fails c.next-in-loop.new.self false (state_in c.args.lines.now) c.loop.lines kept
    (may_first _ _ false c.loop.invariant.since (may_end _ c.in-End.ensures.closed)) so_far gives.0 gives.1

pub returns-in-Failed : goal.returns-in-Failed
returns-in-Failed g c = λ known fails kept has.
    let so_far = c.loop.invariant.keeps known fails kept has in
    let gives = c.in-Failed.ensures.gives known fails so_far.given so_far.has_given in
    keeps_none g.L.Tap.to_come g.L.Tap.fails known fails c.next-in-loop.new.self true (state_in c.args.lines.now) c.loop.lines kept
    (may_first _ _ true c.loop.invariant.since (may_fail _ c.in-Failed.ensures.closed)) so_far gives.0 gives.1
