-- The texts of two whole runs of the same bytes.
use Rattle.std.proofs.Common.{◌≡◌, ℕ, ◌+◌, List, [], ◌∷◌, ◌++◌, refl, sym, ap, subst, ◌∙◌, Some}
use Rattle.std.proofs.Math.Logic.{∥∥₁_map}
use Rattle.planar_code.proofs.Splits.{split_same}
use Rattle.planar_code.specs.Stream.{lists_of}
use Rattle.streams.specs.declared.frames.Mark.TheVariants.{Ended}
use Rattle.common.specs.declared.parameters.Choice.{Choice}
use Rattle.reports.specs.declared.answer.Answer.{Answer}
use Rattle.reports.specs.declared.answer.Answer.TheVariants.{Laid, Refused, NoMemory}
use Rattle.reports.specs.declared.answer.Entry.{Entry}
use Rattle.lanes.specs.Opening.{Meaning}
use Rattle.reports.specs.Books.{BookModel}
use Rattle.reports.specs.Report.{book_text, report_text}
use Rattle.streams.specs.declared.frames.Form.TheVariants.{Report}
use Rattle.collector.specs.Whole.{IsAllWritten}
use Rattle.collector.specs.Headline.{IsDecided, AreOneForEach, IsWholeRun}
use Rattle.run_laws.specs.Reports.{IsReport}
use Rattle.run_laws.proofs.Memory as memory
use Rattle.run_laws.proofs.Entering.{AreDecided}
use Rattle.run_laws.proofs.WholeReports.{whole_book}

decided : (choice : Choice) (g : List (List ℕ)) (answer : Answer) → IsDecided choice g answer → memory.IsDecided choice g answer
decided choice g (Laid plane shape prices drawing) is = is
decided choice g (Refused rule) is = is
decided choice g NoMemory is = absurd is

decided_by_run : (choice : Choice) (file ordinal : ℕ) (records : List (List ℕ)) (entries : List Entry)
    → AreOneForEach choice file ordinal records entries → AreDecided choice records entries
decided_by_run choice file ordinal [] [] are = tt
decided_by_run choice file ordinal [] (entry ∷ entries) are = absurd are
decided_by_run choice file ordinal (bytes ∷ records) [] are = absurd are
decided_by_run choice file ordinal (bytes ∷ records) (entry ∷ entries) are =
    (∥∥₁_map are.0.decided (decided choice (lists_of bytes) entry.answer), decided_by_run choice file (ordinal + 1) records entries are.1)

pub same_runs : (choice : Choice) (file other_file : ℕ) (bytes : List ℕ) (book other : BookModel)
    → IsWholeRun choice file bytes book → IsWholeRun choice other_file bytes other
    → (number : ℕ) → book_text number book ≡ book_text number other
same_runs choice file other_file bytes book other one two number =
    let same = split_same bytes one.records two.records one.end two.end one.split two.split in
    whole_book choice one.records book other
    (decided_by_run choice file 0 one.records book.entries one.entries)
    (subst (λ (rs : List (List ℕ)). AreDecided choice rs other.entries) (sym same.0) (decided_by_run choice other_file 0 two.records other.entries two.entries))
    (one.mark ∙ ap Ended same.1 ∙ sym two.mark) number

-- what was written of all books is their report
pub as_report : (choice : Choice) (meaning : ℕ → Meaning) (files status : ℕ) (start now : List ℕ)
    → IsAllWritten choice meaning Report files (Some start) (Some now) status
    → (text : List ℕ) × (now ≡ start ++ text) × IsReport choice meaning files text
as_report choice meaning files status start now is =
    (report_text is.books, is.text, record { books = is.books; of_files = is.of_files; text_is = refl })
