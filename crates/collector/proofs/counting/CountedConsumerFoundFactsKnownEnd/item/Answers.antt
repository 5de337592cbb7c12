use Rattle.std.proofs.Common.{◌<◌, length, refl, rules}
use Rattle.file_order.proofs.SucceedsOrFails.{ok_then}
use Rattle.collector.specs.FactBooks.{FactEntry}
use Rattle.collector.proofs.CountedGraphs.{counts_item}
use Rattle.collector.proofs.counting.CountedConsumerFoundFactsKnownEnd.item.Goals as goal

pub returns-clause-taken : goal.returns-clause-taken
returns-clause-taken g c =
    let found = c.args.item in
    let entry : FactEntry = record { about = record { file = found.file; ordinal = found.ordinal; bytes = found.rec; choice = found.choice }; facts = found.facts; right = found.right } in
    let before = c.args.self.now in
    let below : found.file < length before.flaws.items = search rules in
    ok_then c.count_chosen.result c.count_chosen.ensures.table (λ counted ns was.
    counts_item before.selection before.counts c.count_chosen.new.counts before.flaws.items c.add_flaw.new.flaws.items ns found.file entry below
    c.in_ok-add_flaw.ensures.count c.in_ok-add_flaw.ensures.here c.in_ok-add_flaw.ensures.others refl counted was)
