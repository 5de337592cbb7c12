use Rattle.std.proofs.Common.{ℕ, List, Result, Ok, Err, IfOk, ap, refl, sym, subst}
use Rattle.std.proofs.Math.Logic.{∥∥₁_map, ∥∥₁_elim}
use Rattle.std.proofs.Props.{props}
use Rattle.planar_code.specs.Stream.{lists_of}
use Rattle.common.specs.declared.parameters.Choice.{Choice}
use Rattle.ortho_rep.specs.Representation.{IsLeast}
use Rattle.embedding.specs.declared.breaks.ReadFault.{ReadFault}
use Rattle.answers.specs.declared.shaped_plane.ShapedPlane.{ShapedPlane}
use Rattle.answers.specs.Steps.{IsShaped, answer_in}
use Rattle.reports.specs.Answers.{Answers}
use Rattle.collector.specs.Answered.{entry_of}
use Rattle.collector.proofs.print_lines.PrintLinesPurpose.finish.Goals as goal

least_of : (choice : Choice) (g : List (List ℕ)) (shaped : Result ShapedPlane ReadFault) → ∥ IsShaped choice g shaped ∥₁
    → IfOk shaped (λ (made : ShapedPlane). IsLeast made.plane made.shape)
least_of choice g (Ok made) shaped = ∥∥₁_elim shaped (hlevel props) (λ known. known.least)
least_of choice g (Err fault) shaped = tt

pub find_points-found-requires : goal.find_points-found-requires
find_points-found-requires g c = least_of c.args.task.choice (lists_of c.args.rec.value) c.args.shaped_plane c.requires.shaped

pub found_line-line-requires : goal.found_line-line-requires
found_line-line-requires g c =
    ∥∥₁_map c.requires.shaped (λ shaped. (c.args.task.choice, lists_of c.args.rec.value, c.find_points-found.ensures.answers c.args.task.choice (lists_of c.args.rec.value) shaped))

pub invariant_of-printed : goal.invariant_of-printed
invariant_of-printed g c =
    let found = ∥∥₁_map c.requires.shaped (c.find_points-found.ensures.answers c.args.task.choice (lists_of c.args.rec.value)) in
    let answers = subst (λ found. ∥ Answers c.args.task.choice (lists_of c.args.rec.value) (answer_in found) ∥₁) (sym c.of.ensures) found in
    record {
      answers = answers;
      rec_is = ∥∥₁_elim c.requires.known (hlevel props) (λ known. known.1);
      line_is = c.found_line-line.ensures (entry_of c.args.task.file c.args.task.ordinal c.args.rec.value c.args.task.choice (answer_in c.of.result.value) answers) refl refl (ap answer_in c.of.ensures);
      placed = ∥∥₁_map c.requires.known (λ known. known.0);
    }
