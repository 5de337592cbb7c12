use Rattle.std.proofs.Common.{[], None, arith, subst, sym, refl}
use Rattle.lanes.specs.Drafts.{AreDrafts}
use Rattle.lanes.proofs.Drafting.{empty_more}
use Rattle.lanes.proofs.gathering.Drafts.new.Goals as goal

pub loop-preserved : goal.loop-preserved
loop-preserved g c = record {
  count = omega (arith, c.in_ok-push.ensures.len, c.loop.invariant.count);
  empty = subst (AreDrafts g.E.Numbered.about 0 []) (sym c.in_ok-push.ensures.items) (empty_more _ 0 _ (record { entries = c.new.result; mark = None }) c.new.ensures.items refl c.loop.invariant.empty);
}
