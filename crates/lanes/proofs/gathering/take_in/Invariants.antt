use Rattle.std.proofs.Common.{◌≡◌, ◌++◌, List}
use Rattle.std.specs.Vec.Iter.{drain_items}
use Rattle.lanes.specs.Notes.{Note, notes_of_items}
use Rattle.lanes.proofs.gathering.take_in.Given as goal

abbrev pub invariant-loop-item : goal.invariant-loop-item
invariant-loop-item g l = record {
  can : (goal.iterator-loop-item g).can_next l.item-iterator;
  finite : (goal.iterator-loop-item g).is_finite l.item-iterator;
  left : drain_items l.initial.item-iterator ≡ l.yielded ++ drain_items l.item-iterator;
  taken : (ns : List Note) → g.C.Consumer.holds l.initial.consumer ns → g.C.Consumer.holds l.consumer (ns ++ notes_of_items g.E.Numbered.about l.yielded);
  stays : g.C.Consumer.stays l.initial.consumer l.consumer;
}
