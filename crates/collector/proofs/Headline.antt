-- The promise of a run in short.
use Rattle.std.proofs.Common.{◌≡◌, ◌≢◌, ℕ, zero, suc, ◌+◌, ◌<◌, List, [], ◌∷◌, map, length, drop, All, get_or, false, arith, refl, sym, ap, subst}
use Rattle.std.proofs.Math.Logic.{∥∥₁_map}
use Rattle.std.proofs.lemmas.Bool.{false≢true}
use Rattle.planar_code.specs.declared.partial_record.Ending.{Ending}
use Rattle.planar_code.specs.declared.partial_record.Ending.TheVariants as ending
use Rattle.planar_code.specs.Stream.{lists_of}
use Rattle.planar_code.specs.Split.{IsSplit}
use Rattle.streams.specs.declared.frames.Mark.{Mark}
use Rattle.streams.specs.declared.frames.Mark.TheVariants.{Ended, Io}
use Rattle.streams.specs.Marks.{IsMarked}
use Rattle.common.specs.declared.parameters.Choice.{Choice}
use Rattle.lanes.specs.Notes.{numbered}
use Rattle.lanes.specs.Opening.{Meaning, Opened}
use Rattle.reports.specs.declared.answer.Answer.{Answer}
use Rattle.reports.specs.declared.answer.Answer.TheVariants.{Laid, Refused, NoMemory}
use Rattle.reports.specs.declared.answer.Entry.{Entry}
use Rattle.reports.specs.Answers.{Answers}
use Rattle.reports.specs.Abouts.{about_of}
use Rattle.reports.specs.Books.{BookModel, IsBook, AreBooks}
use Rattle.reports.specs.AllBooks.{AreAllBooks}
use Rattle.answers.proofs.DrawnAnswers.{answer_drawn}
use Rattle.collector.specs.Headline.{IsDecided, IsEntryFor, AreOneForEach, IsWholeRun, HasMemory}

decided : (choice : Choice) (g : List (List ℕ)) (answer : Answer) → answer ≢ NoMemory → Answers choice g answer → IsDecided choice g answer
decided choice g (Laid plane shape prices drawing) has is = is
decided choice g (Refused rule) has is = is
decided choice g NoMemory has is = has refl

entry_for : (choice : Choice) (file ordinal : ℕ) (bytes : List ℕ) (entry : Entry)
    → about_of entry ≡ record { file = file; ordinal = ordinal; bytes = bytes; choice = choice }
    → ∥ Answers entry.choice (lists_of entry.rec) entry.answer ∥₁ → entry.answer ≢ NoMemory → IsEntryFor choice file ordinal bytes entry
entry_for choice file ordinal bytes entry e answered has = record {
  file_is = ap (λ about. about.file) e;
  ordinal_is = ap (λ about. about.ordinal) e;
  bytes_are = ap (λ about. about.bytes) e;
  choice_is = ap (λ about. about.choice) e;
  decided = ∥∥₁_map answered (λ is.
      decided choice (lists_of bytes) entry.answer has (subst (λ about. Answers about.choice (lists_of about.bytes) entry.answer) e is));
  drawn = ∥∥₁_map answered (λ is. answer_drawn entry.choice (lists_of entry.rec) entry.answer is);
}

entries_for : (choice : Choice) (file ordinal : ℕ) (records : List (List ℕ)) (entries : List Entry)
    → map about_of entries ≡ numbered choice file ordinal records
    → All (λ entry. ∥ Answers entry.choice (lists_of entry.rec) entry.answer ∥₁) entries
    → All (λ entry. entry.answer ≢ NoMemory) entries
    → AreOneForEach choice file ordinal records entries
entries_for choice file ordinal [] [] e answered has = tt
entries_for choice file ordinal [] (entry ∷ entries) e answered has = absurd (omega (arith, ap length e))
entries_for choice file ordinal (bytes ∷ records) [] e answered has = absurd (omega (arith, ap length e))
entries_for choice file ordinal (bytes ∷ records) (entry ∷ entries) e answered has = (
  entry_for choice file ordinal bytes entry (ap (λ l. get_or l 0 (about_of entry)) e) (answered 0 entry (omega arith)) (has 0 entry (omega arith)),
  entries_for choice file (ordinal + 1) records entries (ap (drop 1) e)
      (λ k d below. answered (suc k) d (omega (arith, below))) (λ k d below. has (suc k) d (omega (arith, below))),
)

split_of : (bytes : List ℕ) (records : List (List ℕ)) (mark : Mark) → IsMarked bytes false records mark
    → mark ≢ Ended ending.Memory → (end : Ending) × IsSplit bytes records end × (mark ≡ Ended end)
split_of bytes records Io is has = absurd (false≢true is.0.0)
split_of bytes records (Ended ending.Complete) is has = (ending.Complete, is.1, refl)
split_of bytes records (Ended ending.Truncated) is has = (ending.Truncated, is.1, refl)
split_of bytes records (Ended ending.Header) is has = (ending.Header, is.1, refl)
split_of bytes records (Ended ending.Large) is has = (ending.Large, is.1, refl)
split_of bytes records (Ended ending.Oversize) is has = (ending.Oversize, is.1, refl)
split_of bytes records (Ended ending.Many) is has = (ending.Many, is.1, refl)
split_of bytes records (Ended ending.Memory) is has = absurd (has refl)

book_at : (choice : Choice) (meaning : ℕ → Meaning) (first : ℕ) (books : List BookModel) (k : ℕ) (other : BookModel) → AreBooks choice meaning first books
    → k < length books → IsBook choice (meaning (first + k)) (first + k) (get_or books k other)
book_at choice meaning first [] k other are below = absurd (omega (arith, below))
book_at choice meaning first (book ∷ books) zero other (is, are) below =
    (let e : first ≡ first + 0 = omega arith in subst (λ n. IsBook choice (meaning n) n book) e is)
book_at choice meaning first (book ∷ books) (suc k) other (is, are) below =
    (let e : first + 1 + k ≡ first + suc k = omega arith in
    subst (λ n. IsBook choice (meaning n) n (get_or books k other)) e (book_at choice meaning (first + 1) books k other are (omega (arith, below))))

run_of : (choice : Choice) (bytes : List ℕ) (file : ℕ) (book : BookModel) → IsBook choice (Opened bytes false) file book → HasMemory book → IsWholeRun choice file bytes book
run_of choice bytes file book is has =
    let whole = is.whole in
    let found = whole.found in
    let marked : IsMarked bytes false whole.records book.mark =
    subst (λ b. IsMarked b false whole.records book.mark) (sym found.gave.0)
    (subst (λ f. IsMarked found.bytes f whole.records book.mark) (sym found.gave.1) found.marked) in
    let split = split_of bytes whole.records book.mark marked has.mark in
    record {
      records = whole.records;
      end = split.0;
      split = split.1;
      entries = entries_for choice file 0 whole.records book.entries whole.each is.answered has.answers;
      mark = split.2;
    }

pub whole_runs : (choice : Choice) (meaning : ℕ → Meaning) (files : ℕ) (books : List BookModel) (other : BookModel) → AreAllBooks choice meaning files books
    → (file : ℕ) (bytes : List ℕ) → file < files → meaning file ≡ Opened bytes false
    → HasMemory (get_or books file other) → IsWholeRun choice file bytes (get_or books file other)
whole_runs choice meaning files books other are file bytes below opens has =
    let book = get_or books file other in
    let e : 0 + file ≡ file = omega arith in
    let is : IsBook choice (meaning file) file book =
    subst (λ n. IsBook choice (meaning n) n book) e (book_at choice meaning 0 books file other are.each (omega (arith, below, are.count))) in
    run_of choice bytes file book (subst (λ m. IsBook choice m file book) opens is) has
