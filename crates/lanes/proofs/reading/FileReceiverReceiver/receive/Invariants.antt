use Rattle.std.proofs.Common.{◌≡◌, ◌+◌, ◌++◌, length}
use Rattle.std.specs.Vec.Iter.{drain_items}
use Rattle.lanes.specs.Numbering.{AreOfSame, KeepsRecords}
use Rattle.lanes.proofs.reading.FileReceiverReceiver.receive.Given as goal

abbrev pub invariant-loop-rec : goal.invariant-loop-rec
invariant-loop-rec g l = record {
  can : (goal.iterator-loop-rec g).can_next l.rec-iterator;
  finite : (goal.iterator-loop-rec g).is_finite l.rec-iterator;
  left : drain_items l.initial.rec-iterator ≡ l.yielded ++ drain_items l.rec-iterator;
  next : l.ordinal ≡ l.fn.first + length l.yielded;
  same : AreOfSame l.initial.self.choice l.initial.self.file l.self.choice l.self.file;
  kept : KeepsRecords l.initial.self.choice l.initial.self.file l.fn.first l.yielded (g.K.RecordSink.kept l.initial.self.sink.now) (g.K.RecordSink.kept l.self.sink.now);
  name : l.initial.self.sink.ghost_name ≡ l.self.sink.ghost_name;
  stays : g.K.RecordSink.stays l.initial.self.sink.now l.self.sink.now;
}
