use Rattle.std.proofs.Common.{arith}
use Rattle.drawing_laws.proofs.FewBends.{few_six}
use Rattle.run_laws.proofs.RecordSizes.{few_vertices}
use Rattle.run_laws.proofs.laws.boxes_are_few.Goals as goal

pub returns : goal.returns
returns c = record {
  fifteen = λ p shape b plane least boxed. omega (arith, few_six p shape plane least, boxed.few);
  limit = λ p shape b plane least boxed. omega (arith, few_six p shape plane least, boxed.few, plane.order);
  of_record = λ bytes p shape b is_record lists plane least boxed.
      omega (arith, few_six p shape plane least, boxed.few, few_vertices bytes p is_record lists);
}
