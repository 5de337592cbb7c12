use Rattle.std.proofs.Common.{ℕ, Bool, List, Option}
use Rattle.checking.specs.Lines.{state_in}
use Rattle.checking.specs.UnderWay.{HasKept}
use Rattle.checking.proofs.Reading.{IsSince}
use Rattle.checking.proofs.line_content.next_input.Given as goal

abbrev pub invariant-loop : goal.invariant-loop
invariant-loop g l = record {
  since : IsSince (state_in l.initial.lines) (state_in l.lines);
  keeps : (known : Option (List ℕ)) (fails : Bool) (kept : List (List ℕ)) → HasKept g.L.Tap.to_come g.L.Tap.fails known fails l.initial.lines kept
      → HasKept g.L.Tap.to_come g.L.Tap.fails known fails l.lines kept;
}
