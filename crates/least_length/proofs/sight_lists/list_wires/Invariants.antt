use Rattle.std.proofs.Common.{◌≡◌, vec_len}
use Rattle.least_length.proofs.sight_lists.list_wires.Given as goal

abbrev pub invariant-loop-wire : goal.invariant-loop-wire
invariant-loop-wire l = record {
  lists : vec_len l.chains.firsts ≡ l.fn.segments;
  wires : vec_len l.chains.nexts ≡ l.wire-index;
}
