use Rattle.std.proofs.Common.{◌≡◌, ◌+◌, length, vec_len, arith, ap, sym, subst}
use Rattle.lanes.specs.Files.{AreReady}
use Rattle.reports.specs.Abouts.{about_of}
use Rattle.reports.specs.Books.{IsBook, AreBooks}
use Rattle.reports.proofs.KeptBooks.{books_more}
use Rattle.reports.proofs.Ready.{ready_some, book_ready}
use Rattle.reports.proofs.book.books_of.Goals as goal

pub book_of-requires : goal.book_of-requires
book_of-requires c =
    let some = c.loop-draft.invariant.some in
    ready_some _ _ _ c.in-Some.draft (subst (AreReady about_of some.0 some.1 (vec_len c.loop-draft.books)) c.in-Some.ensures.steps.0 some.2).0

pub loop-draft-preserved : goal.loop-draft-preserved
loop-draft-preserved c =
    let some = c.loop-draft.invariant.some in
    let books = c.loop-draft.books.items in
    let next : vec_len c.loop-draft.books + 1 ≡ vec_len c.push.new.self = omega (arith, c.in_ok-push.ensures.len) in
    let here : vec_len c.loop-draft.books ≡ 0 + length books = omega arith in
    record {
      count = omega (arith, c.loop-draft.invariant.count, ap length c.in-Some.ensures.steps.0, c.in_ok-push.ensures.len);
      some = (
        some.0,
        some.1,
        subst (λ k. AreReady about_of some.0 some.1 k c.next.new.self.rest.items) next
            (subst (AreReady about_of some.0 some.1 (vec_len c.loop-draft.books)) c.in-Some.ensures.steps.0 some.2).1,
      );
      book_of = λ choice meaning ready.
          let both = c.loop-draft.invariant.book_of choice meaning ready in
          let rest = subst (AreReady about_of choice meaning (vec_len c.loop-draft.books)) c.in-Some.ensures.steps.0 both.1 in (
            subst (AreBooks choice meaning 0) (sym c.in_ok-push.ensures.items)
                (books_more choice meaning 0 books c.book_of.result both.0
                (subst (λ k. IsBook choice (meaning k) k c.book_of.result) here (book_ready _ _ _ c.in-Some.draft c.book_of.result rest.0 c.book_of.ensures))),
            subst (λ k. AreReady about_of choice meaning k c.next.new.self.rest.items) next rest.1,
          );
    }
