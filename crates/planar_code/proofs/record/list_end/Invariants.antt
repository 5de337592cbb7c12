use Rattle.std.proofs.Common.{ℕ, ◌≤◌, List, ◌++◌, take}
use Rattle.planar_code.specs.declared.TheConstants.{MAX_LIST}
use Rattle.planar_code.specs.Started.{IsStarted}
use Rattle.planar_code.proofs.record.list_end.Given as goal

-- the bytes up to here are entries
abbrev pub invariant-loop-i : goal.invariant-loop-i
invariant-loop-i l = record {
  short : l.i ≤ MAX_LIST;
  started : (before : List ℕ) (remaining : ℕ) → IsStarted before remaining 0 → IsStarted (before ++ take l.i l.bytes) remaining l.i;
}
