use Rattle.std.proofs.Common.{arith}
use Rattle.drawing_laws.proofs.FewBends.{few_inner, few_five, few_six}
use Rattle.run_laws.proofs.RecordSizes.{few_vertices}
use Rattle.run_laws.proofs.laws.laid_bends.Goals as goal

pub returns : goal.returns
returns c = record {
  inner = λ choice g plane shape prices drawing laid. few_inner plane shape laid.rules laid.least;
  five = λ choice g plane shape prices drawing laid. few_five plane shape laid.rules laid.least;
  six = λ choice g plane shape prices drawing laid. few_six plane shape laid.rules laid.least;
  limit = λ choice g plane shape prices drawing laid. omega (arith, few_six plane shape laid.rules laid.least, laid.rules.order);
  of_record = λ choice bytes plane shape prices drawing is_record laid.
      omega (arith, few_six plane shape laid.rules laid.least, few_vertices bytes plane is_record laid.lists);
}
