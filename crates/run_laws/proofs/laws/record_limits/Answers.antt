use Rattle.run_laws.proofs.RecordSizes.{some_lists, few_lists, short_lists, few_bytes}
use Rattle.run_laws.proofs.laws.record_limits.Goals as goal

pub returns-clause-some : goal.returns-clause-some
returns-clause-some c = some_lists

pub returns-clause-vertices : goal.returns-clause-vertices
returns-clause-vertices c = few_lists

pub returns-clause-entries : goal.returns-clause-entries
returns-clause-entries c = short_lists

pub returns-clause-bytes : goal.returns-clause-bytes
returns-clause-bytes c = few_bytes
