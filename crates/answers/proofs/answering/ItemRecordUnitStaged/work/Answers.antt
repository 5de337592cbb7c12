use Rattle.std.proofs.Common.{sym, subst}
use Rattle.planar_code.specs.Stream.{lists_of}
use Rattle.answers.specs.Spelt.{IsSpelt}
use Rattle.answers.specs.Steps.{IsEmbedded}
use Rattle.answers.proofs.Held.{embedded_held}
use Rattle.answers.proofs.answering.ItemRecordUnitStaged.work.Goals as goal

pub invariant_of-result : goal.invariant_of-result
invariant_of-result g c =
    record {
      known = subst (λ bytes. ∥ g.P.Purpose.accepts c.args.self.task.file c.args.self.task.ordinal bytes × IsSpelt bytes ∥₁) (sym c.carried.ensures) c.args.self.known;
      made = ∣ subst (λ bytes. IsEmbedded (lists_of bytes) c.put_in_holder.result) (sym c.carried.ensures) (embedded_held _ c.embed-plane.result c.put_in_holder.result c.put_in_holder.ensures c.embed-plane.ensures) ∣₁;
    }
