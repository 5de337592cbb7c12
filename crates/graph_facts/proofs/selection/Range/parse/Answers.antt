use Rattle.graph_facts.proofs.selection.Range.parse.Goals as goal

pub returns-in-None-clause-fault : goal.returns-in-None-clause-fault
returns-in-None-clause-fault c = λ range names. c.in-None.ensures.none range names
