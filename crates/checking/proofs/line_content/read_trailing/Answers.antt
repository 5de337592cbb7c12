use Rattle.std.proofs.Common.{◌++◌, refl, ◌∙◌, sym}
use Rattle.checking.specs.Lines.{state_in}
use Rattle.checking.proofs.Reading.{rest_none, rest_next, rest_all}
use Rattle.checking.proofs.line_content.read_trailing.Goals as goal

pub loop-init : goal.loop-init
loop-init g c = record {
  keeps = λ known fails kept has. rest_none g.L.Tap.to_come g.L.Tap.fails known fails c.args.lines.now kept (state_in c.args.lines.now) refl has;
}

pub loop-preserved : goal.loop-preserved
loop-preserved g c =
    let inv = c.loop.invariant in
    record {
      keeps = λ known fails kept has.
          let so_far = inv.keeps known fails kept has in
          rest_next g.L.Tap.to_come g.L.Tap.fails known fails c.next_input.new.lines kept (state_in c.args.lines.now) c.loop.lines c.loop.surplus c.saturating_add-surplus.result c.next_input.result
          (sym c.trailing_of.ensures ∙ c.in-Line.is) c.saturating_add-surplus.ensures so_far (c.next_input.ensures known fails (kept ++ so_far.more) so_far.has_kept);
    }

pub returns-in-End-clause-reads : goal.returns-in-End-clause-reads
returns-in-End-clause-reads g c = λ known fails kept has.
    let so_far = c.loop.invariant.keeps known fails kept has in
    rest_all g.L.Tap.to_come g.L.Tap.fails known fails c.next_input.new.lines kept (state_in c.args.lines.now) c.loop.lines c.loop.surplus c.in-End.failed c.next_input.result
    (sym c.trailing_of.ensures ∙ c.in-End.is) so_far (c.next_input.ensures known fails (kept ++ so_far.more) so_far.has_kept)
