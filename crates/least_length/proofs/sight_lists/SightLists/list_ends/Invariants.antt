use Rattle.std.proofs.Common.{◌≡◌, ◌*◌, vec_len}
use Rattle.least_length.proofs.sight_lists.SightLists.list_ends.Given as goal

abbrev pub invariant-loop-done : goal.invariant-loop-done
invariant-loop-done l = record {
  lists : vec_len l.self.ends.firsts ≡ l.fn.segments;
  ends : vec_len l.self.ends.nexts ≡ 2 * l.done;
  same : l.self.sights ≡ l.initial.self.sights;
}
