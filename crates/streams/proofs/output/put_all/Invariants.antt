use Rattle.std.proofs.Common.{length, ◌-◌, ◌≡◌, ◌≤◌, false, take}
use Rattle.std.specs.Io.KnownBytes.{Appends}
use Rattle.streams.proofs.output.put_all.Given as goal

abbrev pub invariant-loop-at : goal.invariant-loop-at
invariant-loop-at g l = record {
  in_range : l.at ≤ length l.text;
  whole : g.S.Sink.failed l.sink ≡ false;
  added : Appends (g.S.Sink.taken l.initial.sink) (g.S.Sink.taken l.sink) (take l.at l.text);
}

abbrev pub decreases-loop-at : goal.decreases-loop-at
decreases-loop-at g l = length l.text - l.at
