use Rattle.std.proofs.Common.{◌<◌, length, rules}
use Rattle.collector.proofs.CountedGraphs.{counts_end}
use Rattle.collector.proofs.counting.CountedConsumerFoundFactsKnownEnd.end.Goals as goal

pub returns-clause-taken : goal.returns-clause-taken
returns-clause-taken g c = λ ns was.
    let before = c.args.self.now in
    let below : c.args.file < length before.flaws.items = search rules in
    counts_end before.selection before.counts before.flaws.items c.set_mark.new.flaws.items ns c.args.file c.args.mark below
    c.set_mark.ensures.count c.set_mark.ensures.here c.set_mark.ensures.others was
