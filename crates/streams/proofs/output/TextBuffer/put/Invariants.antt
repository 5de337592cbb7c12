use Rattle.std.proofs.Common.{◌≤◌, ◌-◌, Ok, length, take}
use Rattle.streams.specs.Sink.{StaysInTransit}
use Rattle.streams.proofs.output.TextBuffer.put.Given as goal

abbrev pub invariant-loop-from : goal.invariant-loop-from
invariant-loop-from g l = record {
  within : l.from ≤ length l.text;
  in_transit : StaysInTransit {A = Unit {0}} (g.S.Sink.taken l.initial.sink) l.initial.self (g.S.Sink.taken l.sink) l.self (g.S.Sink.failed l.sink) (take l.from l.text) (Ok tt);
}

abbrev pub decreases-loop-from : goal.decreases-loop-from
decreases-loop-from g l = length l.text - l.from
