use Rattle.std.proofs.Common.{◌≡◌, vec_len}
use Rattle.streams.specs.declared.source.TheConstants.{PIECE}
use Rattle.reports.specs.Books.{AreBooks}
use Rattle.collector.proofs.run.books_on_this_thread.Given as goal

abbrev pub invariant-loop-file : goal.invariant-loop-file
invariant-loop-file g l = record {
  room : vec_len l.buffer ≡ PIECE;
  count : vec_len l.books ≡ l.file;
  each : AreBooks l.choice (g.O.Opener.meaning l.opener) 0 l.books.items;
}
