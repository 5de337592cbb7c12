use Rattle.std.proofs.Common.{◌≡◌, ◌≤◌, vec_len}
use Rattle.least_length.specs.Searching.{IsReady}
use Rattle.least_length.proofs.pulling.Pulling.relieve.Given as goal

abbrev pub invariant-loop : goal.invariant-loop
invariant-loop l = record {
  ready : IsReady l.self;
  looks : l.looks ≤ l.initial.looks;
  count : vec_len l.self.coordinates ≡ vec_len l.initial.self.coordinates;
}
