use Rattle.std.proofs.Common.{sym, subst}
use Rattle.std.proofs.Math.Logic.{∥∥₁_map}
use Rattle.planar_code.specs.Stream.{lists_of}
use Rattle.answers.specs.Steps.{IsEmbedded}
use Rattle.answers.proofs.Held.{shaped_held}
use Rattle.answers.proofs.answering.ItemCarriedTracedStaged.work.Goals as goal

pub invariant_of-result : goal.invariant_of-result
invariant_of-result g c =
    record {
      known = c.args.self.known;
      made = ∥∥₁_map c.args.self.made
          (λ made. shaped_held c.args.self.task.choice _ c.shape-shaped_plane.result c.put_in_holder.result c.put_in_holder.ensures (c.shape-shaped_plane.ensures.shaped _ (subst (IsEmbedded (lists_of (g.P.Carried.Carried.bytes c.args.self.rec))) (sym c.take_from_holder-plane.ensures) made)));
    }
