use Rattle.std.proofs.Common.{ℕ, Bool, List, Option}
use Rattle.checking.specs.Lines.{state_in}
use Rattle.checking.specs.UnderWay.{HasKept, KeepsMore}
use Rattle.checking.proofs.line_content.read_trailing.Given as goal

abbrev pub invariant-loop : goal.invariant-loop
invariant-loop g l = record {
  keeps : (known : Option (List ℕ)) (fails : Bool) (kept : List (List ℕ)) → HasKept g.L.Tap.to_come g.L.Tap.fails known fails l.initial.lines kept
      → KeepsMore g.L.Tap.to_come g.L.Tap.fails known fails (state_in l.initial.lines) l.lines kept l.surplus;
}
