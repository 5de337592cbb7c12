use Rattle.std.specs.Ordering.{nat_cmp}
use Rattle.std.specs.BTreeMap.{get, btree_map_len}
use Rattle.geometry.specs.Dictionary.{IsSweepDictionary, Clears}
use Rattle.geometry.proofs.plane_sweep.remove_ended.Given as goal

abbrev pub invariant-loop-bottom : goal.invariant-loop-bottom
invariant-loop-bottom l =
    IsSweepDictionary (get nat_cmp l.active) × Clears (get nat_cmp l.initial.active) (get nat_cmp l.active) l.new

abbrev pub decreases-loop-bottom : goal.decreases-loop-bottom
decreases-loop-bottom l = btree_map_len l.active
