use Rattle.std.proofs.Common.{◌≡◌, ◌++◌}
use Rattle.std.specs.Vec.Iter.{drain_items}
use Rattle.lanes.specs.Notes.{notes_of_items, GoOn}
use Rattle.lanes.proofs.stage.RunningStage.work_on_batch.Given as goal

abbrev pub invariant-loop-item : goal.invariant-loop-item
invariant-loop-item g l =
    let about = g.O.Outlet.about in
    record {
      can : (goal.iterator-loop-item g).can_next l.item-iterator;
      finite : (goal.iterator-loop-item g).is_finite l.item-iterator;
      left : drain_items l.initial.item-iterator ≡ l.yielded ++ drain_items l.item-iterator;
      told : g.O.Outlet.told l.to ++ notes_of_items about l.self.filling.items.items ≡ g.O.Outlet.told l.initial.to ++ notes_of_items g.A.Numbered.about l.yielded;
      going : GoOn (g.O.Outlet.told l.initial.to) → GoOn (g.O.Outlet.told l.to);
      stays : g.O.Outlet.stays l.initial.to l.to;
    }
