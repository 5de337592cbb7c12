use Rattle.std.proofs.Common.{◌≡◌, ℕ, ◌+◌, Bool, false, List, ◌++◌, length, Option, take}
use Rattle.checking.specs.UnderWay.{IsUnderWay}
use Rattle.checking.proofs.run.Checker.write_verdicts.Given as goal

abbrev pub invariant-loop-rec : goal.invariant-loop-rec
invariant-loop-rec g l = record {
  intact : g.S.Sink.failed l.out ≡ false;
  next : l.place ≡ l.fn.first + l.rec-index;
  options : l.self.options ≡ l.initial.self.options;
  goes_on : (known : Option (List ℕ)) (fails : Bool) (start : Option (List ℕ)) (earlier : List (List ℕ)) → length earlier ≡ l.fn.first
      → IsUnderWay g.L.Tap.to_come g.L.Tap.fails known fails start (g.S.Sink.taken l.initial.out) l.initial.self earlier
      → IsUnderWay g.L.Tap.to_come g.L.Tap.fails known fails start (g.S.Sink.taken l.out) l.self (earlier ++ take l.rec-index l.rec-items);
}
