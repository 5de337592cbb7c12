use Rattle.std.proofs.Common.{◌≡◌, All, length}
use Rattle.collector.specs.Arrived.{none_arrived, book_so_far}
use Rattle.collector.specs.FactBooks.{flaws_of}
use Rattle.collector.proofs.find_facts.unread_flaws.Given as goal

abbrev pub invariant-loop : goal.invariant-loop
invariant-loop l = record {
  count : length l.flaws.items ≡ l.counter;
  none : All (λ each. each ≡ flaws_of (book_so_far none_arrived)) l.flaws.items;
}
