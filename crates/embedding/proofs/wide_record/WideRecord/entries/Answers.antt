-- The lists of a wide record's entries are the record's, so they spell it.
use Rattle.embedding.proofs.WideRecords.{spelt-wide, each-wide}
use Rattle.embedding.proofs.wide_record.WideRecord.entries.Goals as goal

pub returns-clause-spelt : goal.returns-clause-spelt
returns-clause-spelt c = rw (← c.self.view_is) (spelt-wide _ c.self.invariant)

pub returns-clause-each : goal.returns-clause-each
returns-clause-each c = rw (← c.self.view_is) (each-wide _ c.self.invariant)
