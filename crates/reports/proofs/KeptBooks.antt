-- The entries that were kept of a file are its book, and one book more goes with those in front of it.
use Rattle.std.proofs.Common.{◌≡◌, ℕ, ◌+◌, List, [], ◌∷◌, ◌++◌, map, length, All, get_or, arith, refl, sym, ap, subst, ◌∙◌}
use Rattle.planar_code.specs.Stream.{lists_of}
use Rattle.streams.specs.declared.frames.Mark.{Mark}
use Rattle.common.specs.declared.parameters.Choice.{Choice}
use Rattle.lanes.specs.Notes.{About, numbered, Item}
use Rattle.lanes.specs.Opening.{Meaning}
use Rattle.lanes.specs.Keeping.{KeepsFile}
use Rattle.lanes.specs.Drafts.{abouts, IsWhole}
use Rattle.reports.specs.declared.answer.Entry.{Entry}
use Rattle.reports.specs.Answers.{Answers}
use Rattle.reports.specs.Abouts.{about_of}
use Rattle.reports.specs.Books.{BookModel, IsBook, AreBooks}

-- what notes of records are about
abouts-map : (xs : List About) → abouts (map Item xs) ≡ xs
abouts-map [] = refl
abouts-map (x ∷ xs) = ap (λ l. x ∷ l) (abouts-map xs)

abouts-entries : (entries : List Entry) → abouts (map (λ entry. Item (about_of entry)) entries) ≡ map about_of entries
abouts-entries [] = refl
abouts-entries (entry ∷ entries) = ap (λ l. about_of entry ∷ l) (abouts-entries entries)

-- each entry keeps that its answer is one for its record
pub all_answered : (entries : List Entry) → All (λ entry. ∥ Answers entry.choice (lists_of entry.rec) entry.answer ∥₁) entries
all_answered entries = λ k d below. (get_or entries k d).answers

pub whole_kept : (choice : Choice) (meaning : Meaning) (file : ℕ) (entries : List Entry) (count : ℕ) (mark : Mark)
    → KeepsFile choice meaning file [] (map (λ entry. Item (about_of entry)) entries) count mark → IsWhole about_of choice meaning file entries mark
whole_kept choice meaning file entries count mark keeps = record {
  records = keeps.records;
  each = sym (abouts-entries entries) ∙ ap abouts keeps.kept ∙ abouts-map (numbered choice file 0 keeps.records);
  found = keeps.found;
}

-- one book more
pub books_more : (choice : Choice) (meaning : ℕ → Meaning) (first : ℕ) (books : List BookModel) (book : BookModel) → AreBooks choice meaning first books
    → IsBook choice (meaning (first + length books)) (first + length books) book → AreBooks choice meaning first (books ++ book ∷ [])
books_more choice meaning first [] book are is =
    (let e : first + 0 ≡ first = omega arith in subst (λ k. IsBook choice (meaning k) k book) e is, tt)
books_more choice meaning first (b ∷ books) book (was, are) is =
    (was, books_more choice meaning (first + 1) books book are (let e : first + length (b ∷ books) ≡ first + 1 + length books = omega arith in subst (λ k. IsBook choice (meaning k) k book) e is))
