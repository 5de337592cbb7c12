use Rattle.std.proofs.Common.{◌≡◌, ◌++◌, ℕ, List, false}
use Rattle.std.specs.List.{flat_map}
use Rattle.streams.specs.Sink.{IsInTransit}
use Rattle.graph_facts.specs.declared.table.Combination.{Combination}
use Rattle.graph_facts.specs.Tables.{row_text}
use Rattle.graph_facts.proofs.table.write_counts.Given as goal

abbrev pub invariant-loop-combination : goal.invariant-loop-combination
invariant-loop-combination g l = record {
  whole : g.S.Sink.failed l.sink ≡ false;
  in_transit : (done : List (Combination × ℕ)) × (l.counts.rows ≡ done ++ l.combination-iterator)
      × IsInTransit (g.S.Sink.taken l.initial.sink) (g.S.Sink.taken l.sink) l.lines (flat_map (row_text l.columns) done);
}
