use Rattle.std.proofs.Common.{Ok, take}
use Rattle.streams.specs.Sink.{StaysInTransit}
use Rattle.reports.specs.Report.{entry_line, numbered_texts}
use Rattle.reports.proofs.report_line.add_entries.Given as goal

abbrev pub invariant-loop-index : goal.invariant-loop-index
invariant-loop-index g l =
    StaysInTransit {A = Unit {0}} (g.S.Sink.taken l.initial.sink) l.initial.lines (g.S.Sink.taken l.sink) l.lines (g.S.Sink.failed l.sink) (numbered_texts entry_line 1 (take l.index l.entries)) (Ok tt)
