use Rattle.std.proofs.Common.{sym, subst}
use Rattle.planar_code.specs.Stream.{lists_of}
use Rattle.answers.specs.Steps.{IsShaped}
use Rattle.answers.proofs.answering.ItemCarriedShapeFoundStaged.work.Goals as goal

pub finish-requires-clause-shaped : goal.finish-requires-clause-shaped
finish-requires-clause-shaped g c =
    subst (λ made. ∥ IsShaped c.args.self.task.choice (lists_of (g.P.Carried.Carried.bytes c.args.self.rec)) made ∥₁) (sym c.take_from_holder-shaped_plane.ensures) c.args.self.made
