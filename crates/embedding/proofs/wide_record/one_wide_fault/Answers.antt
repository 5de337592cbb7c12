use Rattle.embedding.proofs.WideRecords.{wide_fault-same, wide_fault-none}
use Rattle.embedding.proofs.wide_record.one_wide_fault.Goals as goal

pub returns-clause-one : goal.returns-clause-one
returns-clause-one c = wide_fault-same

pub returns-clause-none : goal.returns-clause-none
returns-clause-none c = wide_fault-none
