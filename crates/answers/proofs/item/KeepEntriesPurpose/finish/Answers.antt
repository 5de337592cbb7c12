use Rattle.std.proofs.Math.Logic.{∥∥₁_map}
use Rattle.planar_code.specs.Stream.{lists_of}
use Rattle.answers.proofs.item.KeepEntriesPurpose.finish.Goals as goal

pub invariant_of-result : goal.invariant_of-result
invariant_of-result c = record { answers = ∥∥₁_map c.requires.shaped (c.answer_with.ensures.answers c.args.task.choice (lists_of c.args.rec)) }
