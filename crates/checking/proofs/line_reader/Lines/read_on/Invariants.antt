use Rattle.std.proofs.Common.{◌≡◌, ℕ, List}
use Rattle.std.specs.Io.KnownBytes.{Consumes}
use Rattle.checking.specs.declared.line_reader.SourceState.TheVariants.{Open}
use Rattle.checking.specs.Lines.{IsNoEnd, IsCollected, rest_in, fails_in}
use Rattle.checking.proofs.line_reader.Lines.read_on.Given as goal

abbrev pub invariant-loop : goal.invariant-loop
invariant-loop g l = record {
  reads : l.self.state ≡ Open;
  seen : List ℕ;
  none : IsNoEnd seen;
  kept : IsCollected seen l.self.line.bytes.items l.self.line.long;
  took : Consumes (rest_in g.T.Tap.to_come l.initial.self) (rest_in g.T.Tap.to_come l.self) seen;
  same : fails_in g.T.Tap.fails l.self ≡ fails_in g.T.Tap.fails l.initial.self;
}
