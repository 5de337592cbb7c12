use Rattle.std.proofs.Common.{◌≡◌, ℕ, List, false}
use Rattle.std.specs.Io.KnownBytes.{Appends}
use Rattle.commands.proofs.FlawTexts.{IsLinesUpTo}
use Rattle.commands.proofs.runs.write_flaws.Given as goal

abbrev pub invariant-loop-name : goal.invariant-loop-name
invariant-loop-name g l = record {
  place : l.file ≡ l.name-index;
  stands : g.E.Sink.failed l.err ≡ false;
  told : (front : List ℕ) × Appends (g.E.Sink.taken l.initial.err) (g.E.Sink.taken l.err) front × IsLinesUpTo l.names l.flaws l.name-index front;
}
