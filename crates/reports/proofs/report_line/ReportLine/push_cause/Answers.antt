use Rattle.std.proofs.Common.{codes, ◌++◌, ◌∙◌, ap, append_assoc}
use Rattle.reports.proofs.report_line.ReportLine.push_cause.Goals as goal

pub returns-clause-text : goal.returns-clause-text
returns-clause-text c =
    c.push-2.ensures ∙ ap (λ l. l ++ c.as_bytes.result.now) c.push.ensures ∙ append_assoc c.args.self.now _ _
    ∙ ap (λ w. c.args.self.now ++ (codes " drawn=no cause=" ++ w)) (c.as_bytes.ensures.value ∙ c.word.ensures)
