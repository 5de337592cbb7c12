use Rattle.std.proofs.Common.{◌∙◌}
use Rattle.reports.specs.Json.{entry_json}
use Rattle.reports.proofs.Lacks.{lacks_now, writes_made}
use Rattle.reports.proofs.json_lines.add_entry.Goals as goal

pub returns-in-Ok : goal.returns-in-Ok
returns-in-Ok g c =
    writes_made _ _ _ _ _ c.as_slice.result.now (entry_json c.args.file c.args.graph c.args.entry.now) _
    (c.as_slice.ensures.value ∙ c.in-Ok.ensures) c.put.ensures

pub returns-in-Err : goal.returns-in-Err
returns-in-Err g c =
    lacks_now (g.S.Sink.taken c.args.sink.now) c.args.lines.now _ (entry_json c.args.file c.args.graph c.args.entry.now) c.requires
