use Rattle.std.proofs.Common.{◌≡◌, ◌≤◌, vec_len}
use Rattle.least_length.specs.Searching.{AreSegments, IsReady}
use Rattle.least_length.proofs.pulling.Pulling.visit.Given as goal

abbrev pub invariant-loop-end : goal.invariant-loop-end
invariant-loop-end l = record {
  ready : IsReady l.self;
  unlooked : AreSegments (vec_len l.self.coordinates) l.self.unlooked.items;
  count : vec_len l.self.coordinates ≡ vec_len l.initial.self.coordinates;
  up : l.self.up ≡ l.initial.self.up;
  down : l.self.down ≡ l.initial.self.down;
  end : l.end ≤ vec_len l.self.sight_lists.ends.nexts;
}

abbrev pub decreases-loop-end : goal.decreases-loop-end
decreases-loop-end l = l.end
