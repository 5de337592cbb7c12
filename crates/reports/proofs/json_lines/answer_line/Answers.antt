use Rattle.std.proofs.Common.{◌≡◌, IfOk, subst, sym}
use Rattle.std.proofs.Math.Logic.{∥∥₁_elim}
use Rattle.std.proofs.Props.{props}
use Rattle.reports.specs.Answers.{Answers}
use Rattle.reports.specs.LineData.{answer_data, line_of}
use Rattle.reports.proofs.json_lines.answer_line.Goals as goal

pub laid_line-requires-clause-darts : goal.laid_line-requires-clause-darts
laid_line-requires-clause-darts c = ∥∥₁_elim c.requires (hlevel props) (λ known. (subst (Answers known.0 known.1) c.in-Laid.is known.2).shape_is.lengths)

pub laid_line-requires-clause-prices : goal.laid_line-requires-clause-prices
laid_line-requires-clause-prices c = ∥∥₁_elim c.requires (hlevel props) (λ known. (subst (Answers known.0 known.1) c.in-Laid.is known.2).proof.prices)

pub returns-in-Laid : goal.returns-in-Laid
returns-in-Laid c = subst (λ answer. IfOk c.laid_line.result (λ line. line.items ≡ line_of (answer_data c.args.file c.args.graph answer))) (sym c.in-Laid.is) (rw c.points_of.ensures at c.laid_line.ensures)
