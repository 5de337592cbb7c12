-- Entries that decide the records of their book.
use Rattle.std.proofs.Common.{◌≡◌, ◌≢◌, ℕ, suc, ◌+◌, List, [], ◌∷◌, map, length, drop, All, get_or, refl, ap, subst, arith}
use Rattle.std.proofs.Math.Logic.{∥∥₁_map}
use Rattle.planar_code.specs.Stream.{lists_of}
use Rattle.common.specs.declared.parameters.Choice.{Choice}
use Rattle.lanes.specs.Notes.{numbered}
use Rattle.reports.specs.declared.answer.Answer.{Answer}
use Rattle.reports.specs.declared.answer.Answer.TheVariants.{Laid, Refused, NoMemory}
use Rattle.reports.specs.declared.answer.Entry.{Entry}
use Rattle.reports.specs.Answers.{Answers}
use Rattle.reports.specs.Abouts.{about_of}
use Rattle.run_laws.proofs.Memory.{IsDecided}

-- the entries decide the records, each the one at its place
abbrev pub AreDecided : Choice → List (List ℕ) → List Entry → Type 0
AreDecided choice [] [] = Unit {0}
AreDecided choice (bytes ∷ records) (entry ∷ entries) = ∥ IsDecided choice (lists_of bytes) entry.answer ∥₁ × AreDecided choice records entries
AreDecided choice _ _ = ⊥

pub as_many : (choice : Choice) (records : List (List ℕ)) (entries : List Entry) → AreDecided choice records entries → length entries ≡ length records
as_many choice [] [] are = refl
as_many choice [] (entry ∷ entries) are = absurd are
as_many choice (bytes ∷ records) [] are = absurd are
as_many choice (bytes ∷ records) (entry ∷ entries) are = ap suc (as_many choice records entries are.1)

-- ---- from the words of a book

decided : (choice : Choice) (g : List (List ℕ)) (answer : Answer) → answer ≢ NoMemory → Answers choice g answer → IsDecided choice g answer
decided choice g (Laid plane shape prices drawing) has is = is
decided choice g (Refused rule) has is = is
decided choice g NoMemory has is = has refl

decided_entry : (choice : Choice) (file ordinal : ℕ) (bytes : List ℕ) (entry : Entry)
    → about_of entry ≡ record { file = file; ordinal = ordinal; bytes = bytes; choice = choice }
    → ∥ Answers entry.choice (lists_of entry.rec) entry.answer ∥₁ → entry.answer ≢ NoMemory → ∥ IsDecided choice (lists_of bytes) entry.answer ∥₁
decided_entry choice file ordinal bytes entry e answered has =
    ∥∥₁_map answered (λ is. decided choice (lists_of bytes) entry.answer has (subst (λ about. Answers about.choice (lists_of about.bytes) entry.answer) e is))

pub decided_by_book : (choice : Choice) (file ordinal : ℕ) (records : List (List ℕ)) (entries : List Entry)
    → map about_of entries ≡ numbered choice file ordinal records
    → All (λ entry. ∥ Answers entry.choice (lists_of entry.rec) entry.answer ∥₁) entries
    → All (λ entry. entry.answer ≢ NoMemory) entries
    → AreDecided choice records entries
decided_by_book choice file ordinal [] [] e answered has = tt
decided_by_book choice file ordinal [] (entry ∷ entries) e answered has = absurd (omega (arith, ap length e))
decided_by_book choice file ordinal (bytes ∷ records) [] e answered has = absurd (omega (arith, ap length e))
decided_by_book choice file ordinal (bytes ∷ records) (entry ∷ entries) e answered has = (
  decided_entry choice file ordinal bytes entry (ap (λ l. get_or l 0 (about_of entry)) e) (answered 0 entry (omega arith)) (has 0 entry (omega arith)),
  decided_by_book choice file (ordinal + 1) records entries (ap (drop 1) e)
      (λ k d below. answered (suc k) d (omega (arith, below))) (λ k d below. has (suc k) d (omega (arith, below))),
)
