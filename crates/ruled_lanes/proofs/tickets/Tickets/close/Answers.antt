use Rattle.std.proofs.Common.{ap, ◌∙◌, arith}
use lib.ListN.{get_elem?}
use Rattle.ruled_lanes.proofs.Pools.{Tells, tells}
use Rattle.ruled_lanes.proofs.tickets.Tickets.close.Goals as goal

-- what the last state of the table tells
told : (c : goal.After-free) → Tells c.args.self.limit c.args.self.table.shared.key.1 c.word-word.result c.args.seats.items
told c =
    let last = c.close_with-closed.ensures.values.2 in
    tells c.args.self.table.shared.key last.0.words last.0.views c.pool-pass.result.id c.pool-pass.result.me.0 c.args.seats.items c.args.self.limit c.word-word.result last.1.0 last.1.1
    c.pool-pass.ensures.pooled (omega (arith, c.requires.seats)) c.args.self.key (ap (λ ws. get_elem? ws 0) last.2 ∙ c.word-word.ensures)

pub overflow_cast-word : goal.overflow_cast-word
overflow_cast-word c =
    let last = c.close_with-closed.ensures.values.2 in
    let facts = tells c.args.self.table.shared.key last.0.words last.0.views c.pool-pass.result.id c.pool-pass.result.me.0 c.args.seats.items c.args.self.limit c.word-word.result last.1.0 last.1.1
    c.pool-pass.ensures.pooled (omega (arith, c.requires.seats)) c.args.self.key (ap (λ ws. get_elem? ws 0) last.2 ∙ c.word-word.ensures) in
    omega (arith, c.args.self.within, c.args.self.key)

pub returns-clause-each_once : goal.returns-clause-each_once
returns-clause-each_once c = λ x. let once = (told c).0 x in ((λ less. omega (arith, once.0)), λ more. omega (arith, once.1))

pub returns-clause-word : goal.returns-clause-word
returns-clause-word c = let counted = (told c).1 in omega (arith, counted)

pub returns-clause-ended : goal.returns-clause-ended
returns-clause-ended c = let past = (told c).2 in λ some_ended. omega (arith, past some_ended)
