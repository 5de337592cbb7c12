use Rattle.ruled_lanes.proofs.Deals.{opens}
use Rattle.ruled_lanes.proofs.Pools.{word_by_rule}
use Rattle.ruled_lanes.proofs.tickets.Tickets.new.Goals as goal

pub of_words-requires : goal.of_words-requires
of_words-requires c = opens _

pub returns-clause-word : goal.returns-clause-word
returns-clause-word c = λ words views dealt known. word_by_rule _ words views _ dealt known c.in_ok-seats.ensures.unused
