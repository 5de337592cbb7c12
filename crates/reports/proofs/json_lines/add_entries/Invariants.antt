use Rattle.std.proofs.Common.{Ok, take}
use Rattle.reports.specs.Report.{numbered_texts}
use Rattle.reports.specs.Json.{entry_json}
use Rattle.reports.specs.Writing.{StaysOrLacks}
use Rattle.reports.proofs.json_lines.add_entries.Given as goal

abbrev pub invariant-loop-index : goal.invariant-loop-index
invariant-loop-index g l =
    StaysOrLacks {A = Unit {0}} (g.S.Sink.taken l.initial.sink) l.initial.lines (g.S.Sink.taken l.sink) l.lines (g.S.Sink.failed l.sink)
    (numbered_texts (entry_json l.file) 1 (take l.index l.entries)) (Ok tt)
