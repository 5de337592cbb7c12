-- Numbered texts in parts.
use Rattle.std.proofs.Common.{◌≡◌, ℕ, ◌+◌, ◌<◌, ◌≤◌, List, [], ◌∷◌, ◌++◌, length, take, drop, get_or, sym, ◌∙◌, ap, append_assoc, append-nil, arith}
use Rattle.std.proofs.lemmas.List.{take-append-drop, take_more, length-take, take_all}
use Rattle.streams.specs.declared.frames.Mark.{Mark}
use Rattle.reports.specs.declared.answer.Entry.{Entry}
use Rattle.reports.specs.Books.{BookModel}
use Rattle.reports.specs.Report.{numbered_texts, file_line, entry_line, end_line, book_text}

module _ {A : Type 0} (text : ℕ → A → List ℕ) where
  -- the texts of two lists, one after the other
  pub texts-append : (n : ℕ) (xs ys : List A) → numbered_texts text n (xs ++ ys) ≡ numbered_texts text n xs ++ numbered_texts text (n + length xs) ys
  texts-append n [] ys = let same : n ≡ n + 0 = omega arith in ap (λ k. numbered_texts text k ys) same
  texts-append n (x ∷ xs) ys =
      let same : n + 1 + length xs ≡ n + length (x ∷ xs) = omega arith in
      ap (λ l. text n x ++ l) (texts-append (n + 1) xs ys ∙ ap (λ k. numbered_texts text (n + 1) xs ++ numbered_texts text k ys) same)
      ∙ sym (append_assoc (text n x) _ _)

  -- the texts up to one thing, and the text of that thing
  pub texts-next : (xs : List A) (i : ℕ) (x : A) → i < length xs → x ≡ get_or xs i x
      → numbered_texts text 1 (take i xs) ++ text (i + 1) x ≡ numbered_texts text 1 (take (i + 1) xs)
  texts-next xs i x below is =
      let number : 1 + length (take i xs) ≡ i + 1 = omega (arith, length-take i xs) in
      let here : numbered_texts text 1 (take (i + 1) xs) ≡ numbered_texts text 1 (take i xs) ++ text (i + 1) (get_or xs i x) =
      ap (numbered_texts text 1) (take_more xs i x below) ∙ texts-append 1 (take i xs) (get_or xs i x ∷ [])
      ∙ ap (λ l. numbered_texts text 1 (take i xs) ++ l) (append-nil _ ∙ ap (λ k. text k (get_or xs i x)) number) in
      ap (λ y. numbered_texts text 1 (take i xs) ++ text (i + 1) y) is ∙ sym here

  -- the texts after the first ones
  abbrev pub texts_rest : List A → ℕ → List ℕ
  texts_rest xs i = numbered_texts text (1 + length (take i xs)) (drop i xs)

  -- the texts before one thing, its text, and what follows
  pub texts-at : (xs : List A) (i : ℕ) (x : A) → i < length xs → x ≡ get_or xs i x
      → numbered_texts text 1 xs ≡ (numbered_texts text 1 (take i xs) ++ text (i + 1) x) ++ texts_rest xs (i + 1)
  texts-at xs i x below is =
      ap (numbered_texts text 1) (sym (take-append-drop (i + 1) xs)) ∙ texts-append 1 (take (i + 1) xs) (drop (i + 1) xs)
      ∙ ap (λ l. l ++ texts_rest xs (i + 1)) (sym (texts-next xs i x below is))

  -- past the last thing there are the texts of all
  pub texts-all : (xs : List A) (i : ℕ) → length xs ≤ i → numbered_texts text 1 (take i xs) ≡ numbered_texts text 1 xs
  texts-all xs i past = ap (numbered_texts text 1) (take_all i xs past)

-- the text of a book, by its parts
pub book_by_parts : (number : ℕ) (book : BookModel) (xs : List Entry) (mark : Mark) → xs ≡ book.entries → mark ≡ book.mark
    → (file_line number ++ numbered_texts entry_line 1 xs) ++ end_line mark (length xs) ≡ book_text number book
book_by_parts number book xs mark same same_mark =
    ap (λ (ys : List Entry). (file_line number ++ numbered_texts entry_line 1 ys) ++ end_line mark (length ys)) same
    ∙ ap (λ (m : Mark). (file_line number ++ numbered_texts entry_line 1 book.entries) ++ end_line m (length book.entries)) same_mark
