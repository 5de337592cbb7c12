-- If the word "memory" does not occur in a report, its books do not say that memory ran out.
use Rattle.std.proofs.Common.{◌≡◌, ℕ, zero, suc, ◌+◌, ◌<◌, List, [], ◌∷◌, ◌++◌, length, All, get_or, codes, decimal, refl, sym, ap, subst, ◌∙◌, arith, append_assoc}
use Rattle.planar_code.specs.declared.partial_record.Ending.TheVariants as ending
use Rattle.streams.specs.declared.frames.Mark.{Mark}
use Rattle.streams.specs.declared.frames.Mark.TheVariants.{Ended}
use Rattle.reports.specs.declared.answer.Answer.{Answer}
use Rattle.reports.specs.declared.answer.Answer.TheVariants.{NoMemory}
use Rattle.reports.specs.declared.answer.Entry.{Entry}
use Rattle.reports.specs.Books.{BookModel}
use Rattle.reports.specs.Report.{numbered_texts, answer_text, entry_line, end_line, file_line, book_text, report_text}
use Rattle.run_laws.proofs.Memory.{HasMemory}
use Rattle.run_laws.specs.Reports.{HasNoMemoryWord}

-- the word stands somewhere in the text
pub record HasWord (text : List ℕ) : Type 0 where
  pub front : List ℕ
  pub back : List ℕ
  pub parts : text ≡ front ++ codes "memory" ++ back

-- it also occurs in a longer text, with more after or before it
word_before : (xs ys : List ℕ) → HasWord xs → HasWord (xs ++ ys)
word_before xs ys has = record {
  front = has.front;
  back = has.back ++ ys;
  parts = ap (λ (l : List ℕ). l ++ ys) has.parts ∙ append_assoc (has.front ++ codes "memory") has.back ys;
}

word_behind : (xs ys : List ℕ) → HasWord ys → HasWord (xs ++ ys)
word_behind xs ys has = record {
  front = xs ++ has.front;
  back = has.back;
  parts = ap (λ (l : List ℕ). xs ++ l) has.parts
      ∙ sym (append_assoc xs (has.front ++ codes "memory") has.back)
      ∙ ap (λ (l : List ℕ). l ++ has.back) (sym (append_assoc xs has.front (codes "memory")));
}

word_in_answer : (answer : Answer) → answer ≡ NoMemory → HasWord (answer_text answer)
word_in_answer answer is = subst (λ a. HasWord (answer_text a)) (sym is) (record { front = codes " "; back = []; parts = refl })

word_in_entry : (number : ℕ) (entry : Entry) → entry.answer ≡ NoMemory → HasWord (entry_line number entry)
word_in_entry number entry is =
    word_before (codes "graph " ++ decimal number ++ answer_text entry.answer) (codes "\n")
    (word_behind (codes "graph " ++ decimal number) (answer_text entry.answer) (word_in_answer entry.answer is))

word_in_entries : (number : ℕ) (entries : List Entry) (k : ℕ) (d : Entry) → k < length entries → (get_or entries k d).answer ≡ NoMemory
    → HasWord (numbered_texts entry_line number entries)
word_in_entries number [] k d inside is = absurd (omega (arith, inside))
word_in_entries number (entry ∷ entries) zero d inside is = word_before (entry_line number entry) (numbered_texts entry_line (number + 1) entries) (word_in_entry number entry is)
word_in_entries number (entry ∷ entries) (suc k) d inside is =
    word_behind (entry_line number entry) (numbered_texts entry_line (number + 1) entries) (word_in_entries (number + 1) entries k d (omega (arith, inside)) is)

word_in_end : (mark : Mark) (count : ℕ) → mark ≡ Ended ending.Memory → HasWord (end_line mark count)
word_in_end mark count is =
    let word : HasWord (codes "end " ++ codes "memory") = record { front = codes "end "; back = []; parts = refl } in
    let more : HasWord (codes "end " ++ codes "memory" ++ codes " graphs=" ++ decimal count) =
    word_before (codes "end " ++ codes "memory" ++ codes " graphs=") (decimal count) (word_before (codes "end " ++ codes "memory") (codes " graphs=") word) in
    subst (λ m. HasWord (end_line m count)) (sym is) (word_before (codes "end " ++ codes "memory" ++ codes " graphs=" ++ decimal count) (codes "\n") more)

pub has_memory : (number : ℕ) (book : BookModel) → (HasWord (book_text number book) → ⊥) → HasMemory book
has_memory number book none =
    let first : List ℕ = file_line number in
    let graphs : List ℕ = numbered_texts entry_line 1 book.entries in
    let last : List ℕ = end_line book.mark (length book.entries) in
    record {
      mark = λ is. none (word_behind (first ++ graphs) last (word_in_end book.mark (length book.entries) is));
      answers = λ k d inside is. none (word_before (first ++ graphs) last (word_behind first graphs (word_in_entries 1 book.entries k d inside is)));
    }

have_memory : (number : ℕ) (books : List BookModel) → (HasWord (numbered_texts book_text number books) → ⊥) → All HasMemory books
have_memory number [] none k d inside = absurd (omega (arith, inside))
have_memory number (book ∷ books) none zero d inside = has_memory number book (λ has. none (word_before (book_text number book) (numbered_texts book_text (number + 1) books) has))
have_memory number (book ∷ books) none (suc k) d inside =
    have_memory (number + 1) books (λ has. none (word_behind (book_text number book) (numbered_texts book_text (number + 1) books) has)) k d (omega (arith, inside))

pub books_have_memory : (text : List ℕ) (books : List BookModel) → text ≡ report_text books → HasNoMemoryWord text → All HasMemory books
books_have_memory text books is none = have_memory 1 books (λ has. none has.front has.back (is ∙ has.parts))
