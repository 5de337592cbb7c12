use Rattle.std.proofs.Common.{◌≡◌, ◌+◌, length, arith, subst, sym}
use Rattle.reports.specs.Books.{IsBook, AreBooks}
use Rattle.reports.proofs.KeptBooks.{books_more}
use Rattle.collector.proofs.run.books_on_this_thread.Goals as goal

pub loop-file-preserved : goal.loop-file-preserved
loop-file-preserved g c =
    let meaning = g.O.Opener.meaning c.args.opener.now in
    let books = c.loop-file.books.items in
    let next : c.loop-file.file ≡ 0 + length books = omega (arith, c.loop-file.invariant.count) in
    record {
      room = c.loop-file.invariant.room;
      count = omega (arith, c.in_ok-push.ensures.len, c.loop-file.invariant.count);
      each = subst (AreBooks c.args.choice meaning 0) (sym c.in_ok-push.ensures.items)
          (books_more c.args.choice meaning 0 books c.in_ok-read_book.field-0 c.loop-file.invariant.each
          (subst (λ k. IsBook c.args.choice (meaning k) k c.in_ok-read_book.field-0) next c.in_ok-read_book.ensures.book));
    }
