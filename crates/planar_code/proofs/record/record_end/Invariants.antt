use Rattle.std.proofs.Common.{◌≡◌, ◌-◌, ◌<◌, ◌≤◌, length, take}
use Rattle.planar_code.specs.Stream.{IsRecord}
use Rattle.planar_code.specs.Started.{IsStarted}
use Rattle.planar_code.proofs.record.record_end.Given as goal

-- this many lists are ended: the record is open, or whole
abbrev pub invariant-loop-done : goal.invariant-loop-done
invariant-loop-done l = record {
  some : 0 < l.at;
  within : l.at ≤ length l.bytes;
  partial_record : l.done < l.order → IsStarted (take l.at l.bytes) (l.order - l.done) 0;
  whole : l.done ≡ l.order → IsRecord (take l.at l.bytes);
}
