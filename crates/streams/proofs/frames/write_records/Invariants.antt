use Rattle.std.proofs.Common.{◌≡◌, ◌+◌, false, take}
use Rattle.streams.specs.Sink.{IsInTransit}
use Rattle.streams.specs.Text.{record_lines}
use Rattle.streams.proofs.frames.write_records.Given as goal

abbrev pub invariant-loop-index : goal.invariant-loop-index
invariant-loop-index g l = record {
  whole : g.S.Sink.failed l.sink ≡ false;
  in_transit : IsInTransit (g.S.Sink.taken l.initial.sink) (g.S.Sink.taken l.sink) l.lines (record_lines (l.fn.first + 1) (take l.index l.records));
}
