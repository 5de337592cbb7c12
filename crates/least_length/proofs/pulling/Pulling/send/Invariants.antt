use Rattle.std.proofs.Common.{◌≡◌, ◌≤◌, vec_len}
use Rattle.least_length.specs.Searching.{AreSegments, IsReady}
use Rattle.least_length.proofs.pulling.Pulling.send.Given as goal

abbrev pub invariant-loop : goal.invariant-loop
invariant-loop l = record {
  ready : IsReady l.self;
  unlooked : AreSegments (vec_len l.self.coordinates) l.self.unlooked.items;
  looks : l.looks ≤ l.initial.looks;
  count : vec_len l.self.coordinates ≡ vec_len l.initial.self.coordinates;
  up : l.self.up ≡ l.initial.self.up;
  down : l.self.down ≡ l.initial.self.down;
}
