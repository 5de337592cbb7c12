use Rattle.std.proofs.Common.{◌≡◌, ◌<◌, ℕ, List, [], length}
use Rattle.streams.specs.Reading.{IsBeingRead}
use Rattle.streams.proofs.source.read_source.Given as goal

abbrev pub invariant-loop : goal.invariant-loop
invariant-loop g l = record {
  room : 0 < length l.buffer;
  none : l.records.items ≡ [];
  found : List (List ℕ);
  next : l.count ≡ length found;
  received : g.V.Receiver.received 0 found l.initial.receiver l.receiver;
  ready : g.V.Receiver.ready l.receiver;
  stays : g.V.Receiver.stays l.initial.receiver l.receiver;
  being_read : IsBeingRead (g.T.Tap.to_come l.initial.source) (g.T.Tap.fails l.initial.source) l.counter (g.T.Tap.to_come l.source) (g.T.Tap.fails l.source) found l.framer;
}
