use Rattle.embedding.proofs.WideRecords.{record-wide}
use Rattle.embedding.proofs.wide_record.record_is_wide.Goals as goal

pub returns : goal.returns
returns c = record-wide
