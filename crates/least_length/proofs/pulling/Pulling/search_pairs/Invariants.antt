use Rattle.std.proofs.Common.{◌≡◌, vec_len}
use Rattle.least_length.specs.Searching.{AreSegments, IsReady}
use Rattle.least_length.proofs.pulling.Pulling.search_pairs.Given as goal

abbrev pub invariant-loop : goal.invariant-loop
invariant-loop l = record {
  ready : IsReady l.self;
  unlooked : AreSegments (vec_len l.self.coordinates) l.self.unlooked.items;
  count : vec_len l.self.coordinates ≡ vec_len l.initial.self.coordinates;
  up : l.self.up ≡ l.initial.self.up;
  down : l.self.down ≡ l.initial.self.down;
}
