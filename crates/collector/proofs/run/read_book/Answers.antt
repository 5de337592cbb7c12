use Rattle.std.proofs.Common.{map, subst, sym}
use Rattle.lanes.specs.Notes.{Item}
use Rattle.lanes.specs.Keeping.{KeepsFile}
use Rattle.reports.specs.Abouts.{about_of}
use Rattle.reports.specs.Books.{IsBook}
use Rattle.reports.proofs.KeptBooks.{whole_kept, all_answered}
use Rattle.collector.proofs.run.read_book.Goals as goal

pub returns-clause-book : goal.returns-clause-book
returns-clause-book g c =
    let meaning = g.O.Opener.meaning c.args.opener.now c.args.file in
    let entries = c.read_file.new.sink.entries.items in
    subst (IsBook c.args.choice meaning c.args.file) (sym c.new-2.ensures) (record {
      whole = whole_kept c.args.choice meaning c.args.file entries c.in_ok-end.end.count c.in_ok-end.end.mark
          (subst (λ none. KeepsFile c.args.choice meaning c.args.file (map (λ entry. Item (about_of entry)) none) (map (λ entry. Item (about_of entry)) entries) c.in_ok-end.end.count c.in_ok-end.end.mark)
          c.new.ensures.items c.in_ok-end.ensures.kept);
      answered = all_answered entries;
    })
