use Rattle.embedding.proofs.WideRecords.{lists_of-wide}
use Rattle.embedding.proofs.wide_record.wide_record_lists.Goals as goal

pub returns : goal.returns
returns c = lists_of-wide
