-- The lists of a record's bytes are the record's, so they spell it.
use Rattle.planar_code.proofs.Lists.{spelt-record, each-record}
use Rattle.planar_code.proofs.record.Record.bytes.Goals as goal

pub returns-clause-spelt : goal.returns-clause-spelt
returns-clause-spelt c = rw (← c.self.view_is) (spelt-record _ c.self.invariant)

pub returns-clause-each : goal.returns-clause-each
returns-clause-each c = rw (← c.self.view_is) (each-record _ c.self.invariant)
