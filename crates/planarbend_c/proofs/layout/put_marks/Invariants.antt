use Rattle.std.proofs.Common.{◌≡◌, ◌<◌, ℕ, if◌then◌else◌}
use Rattle.std.specs.Prelude.{slice_index}
use Rattle.flow_network.specs.Marks.{is_marked}
use Rattle.planarbend_c.proofs.layout.put_marks.Given as goal

abbrev pub invariant-loop-place : goal.invariant-loop-place
invariant-loop-place l = record {
  so_far : (k : ℕ) → k < l.place → slice_index l.out k ≡ (if is_marked l.marks k then 1 else 0);
}
