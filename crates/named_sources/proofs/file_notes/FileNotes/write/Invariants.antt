use Rattle.std.proofs.Common.{◌≡◌, false}
use Rattle.named_sources.proofs.file_notes.FileNotes.write.Given as goal

abbrev pub invariant-loop-name : goal.invariant-loop-name
invariant-loop-name g l = g.E.Sink.failed l.err ≡ false
