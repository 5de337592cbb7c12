use Rattle.std.proofs.Common.{ℕ, ◌<◌, ◌≤◌, List, ◌++◌, take}
use Rattle.planar_code.specs.declared.TheConstants.{MAX_LIST}
use Rattle.planar_code.specs.Started.{IsStarted}
use Rattle.planar_code.proofs.partial_record.scan_lists.Given as goal

-- the bytes up to here leave the record open
abbrev pub invariant-loop-i : goal.invariant-loop-i
invariant-loop-i l = record {
  some : 0 < l.remaining;
  short : l.entries ≤ MAX_LIST;
  started : (before : List ℕ) → IsStarted (before ++ take l.fn.from l.text) l.fn.remaining l.fn.entries → IsStarted (before ++ take l.i l.text) l.remaining l.entries;
}
