use Rattle.std.proofs.Math.Logic.{∥∥₁_map, ∥∥₁_elim}
use Rattle.std.proofs.Props.{props}
use Rattle.collector.proofs.find_facts.FindFactsPurpose.finish.Goals as goal

pub invariant_of-result : goal.invariant_of-result
invariant_of-result g c = record {
  right = ∥∥₁_map c.requires.shaped (λ shaped. c.facts_found-facts.ensures c.args.task.choice shaped);
  rec_is = ∥∥₁_elim c.requires.known (hlevel props) (λ known. known.1);
  placed = ∥∥₁_map c.requires.known (λ known. known.0);
}
