use Rattle.std.proofs.Common.{◌≡◌, ◌-◌, ℕ, List, Option, false, length}
use Rattle.collector.specs.Came.{Came}
use Rattle.collector.specs.Holding.{LinesWrite, AreLinesOf}
use Rattle.collector.proofs.texts.Lines.advance.Given as goal

abbrev pub invariant-loop-end : goal.invariant-loop-end
invariant-loop-end g l = record {
  stands : g.S.Sink.failed l.sink ≡ false;
  same : AreLinesOf l.initial.self l.self;
  flawless : l.self.flawless ≡ l.initial.self.flawless;
  written : (start : Option (List ℕ)) (came : ℕ → Came) → LinesWrite start (g.S.Sink.taken l.initial.sink) l.initial.self came → LinesWrite start (g.S.Sink.taken l.sink) l.self came;
}

abbrev pub decreases-loop-end : goal.decreases-loop-end
decreases-loop-end g l = length l.self.order.waiting - l.self.order.current
