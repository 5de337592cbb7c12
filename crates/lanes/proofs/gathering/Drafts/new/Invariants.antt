use Rattle.std.proofs.Common.{◌≡◌, [], vec_len}
use Rattle.lanes.specs.Drafts.{AreDrafts}
use Rattle.lanes.proofs.gathering.Drafts.new.Given as goal

abbrev pub invariant-loop : goal.invariant-loop
invariant-loop g l = record {
  count : vec_len l.drafts ≡ l.counter;
  empty : AreDrafts g.E.Numbered.about 0 [] l.drafts.items;
}
