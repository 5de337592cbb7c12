use Rattle.std.proofs.Common.{◌≡◌, ◌-◌, ℕ, List, Option, false, length}
use Rattle.collector.specs.Arrived.{Arrived}
use Rattle.collector.specs.PicksHolding.{PicksWrite, ArePicksOf}
use Rattle.collector.proofs.picking.Picks.advance.Given as goal

abbrev pub invariant-loop-alloc : goal.invariant-loop-alloc
invariant-loop-alloc g l = record {
  stands : g.S.Sink.failed l.sink ≡ false;
  same : ArePicksOf l.initial.self l.self;
  flaws : l.self.flaws ≡ l.initial.self.flaws;
  written : (start : Option (List ℕ)) (arrived : ℕ → Arrived) → PicksWrite start (g.S.Sink.taken l.initial.sink) l.initial.self arrived → PicksWrite start (g.S.Sink.taken l.sink) l.self arrived;
}

abbrev pub decreases-loop-alloc : goal.decreases-loop-alloc
decreases-loop-alloc g l = length l.self.order.waiting - l.self.order.current
