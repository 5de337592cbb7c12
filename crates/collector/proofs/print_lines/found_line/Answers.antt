use Rattle.std.proofs.Common.{◌≡◌, ◌≢◌, ◌∙◌, ◌+◌, Result, Err, Ok, IfOk, ap, subst, sym, rules}
use Rattle.std.proofs.Math.Logic.{∥∥₁_elim}
use Rattle.std.proofs.Props.{props}
use Rattle.std.proofs.lemmas.Result.{IfOk-weaker}
use Rattle.ortho_rep.specs.Points.{PointsModel}
use Rattle.ortho_rep.specs.Prices.{HasPrices}
use Rattle.embedding.specs.declared.breaks.ReadFault.{ReadFault}
use Rattle.embedding.specs.declared.breaks.ReadFault.TheVariants.{Rule}
use Rattle.answers.specs.Steps.{answer_in}
use Rattle.answers.specs.declared.shaped_plane.ShapedPlane.{ShapedPlane}
use Rattle.reports.specs.declared.answer.Answer.{Answer}
use Rattle.reports.specs.declared.answer.Answer.TheVariants.{Laid, NoMemory}
use Rattle.reports.specs.Answered.{IsAnswer}
use Rattle.collector.proofs.DrawnLines.{json_line, line_if_made, of_made, report_line}
use Rattle.collector.proofs.print_lines.found_line.Goals as goal

-- prices that prove a shape least are those of its plane
priced : (found : Result (ShapedPlane × PointsModel) ReadFault) → IsAnswer (answer_in found)
    → IfOk found (λ (drawn : ShapedPlane × PointsModel). HasPrices drawn.0.plane drawn.0.prices)
priced (Ok drawn) is = ∥∥₁_elim is (hlevel props) (λ known. known.2.proof.prices)
priced (Err fault) is = tt

pub answer_line-requires : goal.answer_line-requires
answer_line-requires c =
    let found : c.args.found.now ≡ Err (Rule c.in-Err-Rule.rule) = search rules in
    subst (λ (f : Result (ShapedPlane × PointsModel) ReadFault). IsAnswer (answer_in f)) found c.requires

pub laid_line-requires : goal.laid_line-requires
laid_line-requires c =
    let found : c.args.found.now ≡ Ok (c.in-Ok.shaped_plane, c.in-Ok.points) = search rules in
    record {
      darts = c.in-Ok.shaped_plane.shape_is.lengths;
      prices = subst (λ (f : Result (ShapedPlane × PointsModel) ReadFault). IfOk f (λ (drawn : ShapedPlane × PointsModel). HasPrices drawn.0.plane drawn.0.prices)) found (priced c.args.found.now c.requires);
    }

pub returns-in-Report : goal.returns-in-Report
returns-in-Report c =
    let drawn : ShapedPlane = c.in-Ok.shaped_plane in
    let points : PointsModel = c.in-Ok.points in
    let found : c.args.found.now ≡ Ok (drawn, points) = search rules in
    let apart : Laid drawn.plane drawn.shape drawn.prices (Ok points) ≢ NoMemory = λ e. cc in
    λ entry file ordinal answer.
    let laid : entry.answer ≡ Laid drawn.plane drawn.shape drawn.prices (Ok points) = answer ∙ ap answer_in found in
    line_if_made c.args.form entry c.copied.result c.ok.result c.ok.ensures.value (subst (λ (a : Answer). a ≢ NoMemory) (sym laid) apart)
    (IfOk-weaker c.copied.result _ _
    (λ line is.
    report_line c.args.form entry c.from-graph.result c.args.ordinal (Laid drawn.plane drawn.shape drawn.prices (Ok points)) line c.in-Report.is ordinal c.from-graph.ensures laid
    (is ∙ c.as_slice.ensures.value ∙ c.of_drawn-line.ensures drawn.prices points))
    c.copied.ensures)

pub returns-in_ok-text-in-Json : goal.returns-in_ok-text-in-Json
returns-in_ok-text-in-Json c =
    let drawn : ShapedPlane = c.in-Ok.shaped_plane in
    let points : PointsModel = c.in-Ok.points in
    let found : c.args.found.now ≡ Ok (drawn, points) = search rules in
    let apart : Laid drawn.plane drawn.shape drawn.prices (Ok points) ≢ NoMemory = λ e. cc in
    λ entry file ordinal answer.
    let laid : entry.answer ≡ Laid drawn.plane drawn.shape drawn.prices (Ok points) = answer ∙ ap answer_in found in (
      subst (λ (a : Answer). a ≢ NoMemory) (sym laid) apart,
      json_line c.args.form entry c.in_ok-ok-in-Json.field-0 c.from-graph.result c.args.file c.args.ordinal (Laid drawn.plane drawn.shape drawn.prices (Ok points)) c.of.result c.in-Json.is file ordinal
          (of_made c.file_number.result c.in_ok-ok-in-Json.field-0 (λ n. n ≡ c.args.file + 1) c.in_ok-ok-in-Json.ensures.value c.file_number.ensures.number) c.from-graph.ensures laid
          (c.of.ensures ∙ of_made c.laid_line.result c.in_ok-text-in-Json.text _ c.in_ok-text-in-Json.ensures.value c.laid_line.ensures),
    )
