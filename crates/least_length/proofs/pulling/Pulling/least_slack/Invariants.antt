use Rattle.std.proofs.Common.{◌≡◌, vec_len}
use Rattle.least_length.specs.Searching.{AreSegments, IsReady}
use Rattle.least_length.proofs.pulling.Pulling.least_slack.Given as goal

abbrev pub invariant-loop-place : goal.invariant-loop-place
invariant-loop-place l = record {
  ready : IsReady l.self;
  unlooked : AreSegments (vec_len l.self.coordinates) l.self.unlooked.items;
  reached : l.self.reached ≡ l.initial.self.reached;
  count : vec_len l.self.coordinates ≡ vec_len l.initial.self.coordinates;
  up : l.self.up ≡ l.initial.self.up;
  down : l.self.down ≡ l.initial.self.down;
}
