use Rattle.std.proofs.Math.Logic.{∥∥₁_map}
use Rattle.planar_code.specs.Stream.{lists_of}
use Rattle.reports.proofs.json_lines.entry_line.Goals as goal

pub answer_line-requires : goal.answer_line-requires
answer_line-requires c = ∥∥₁_map c.args.entry.now.answers (λ answers. (c.args.entry.now.choice, lists_of c.args.entry.now.rec, answers))
