use Rattle.std.proofs.Common.{◌<◌, ◌≤◌, vec_len}
use Rattle.least_length.proofs.pulling.Pulling.path_capacity.Given as goal

abbrev pub invariant-loop : goal.invariant-loop
invariant-loop l = record {
  segment : l.segment < vec_len l.self.coordinates;
  units : l.units ≤ l.most;
}
