use Rattle.std.proofs.Common.{◌≡◌, false, take}
use Rattle.streams.specs.Sink.{IsInTransit}
use Rattle.reports.specs.Report.{book_text, numbered_texts}
use Rattle.reports.proofs.report_line.write_report.Given as goal

abbrev pub invariant-loop-file : goal.invariant-loop-file
invariant-loop-file g l = record {
  whole : g.S.Sink.failed l.sink ≡ false;
  in_transit : IsInTransit (g.S.Sink.taken l.initial.sink) (g.S.Sink.taken l.sink) l.lines (numbered_texts book_text 1 (take l.file l.batch));
}
