-- The text of books is that of their entries' lines.
use Rattle.std.proofs.Common.{◌≡◌, ℕ, ◌+◌, List, [], ◌∷◌, ◌++◌, map, length, refl, ap, ◌∙◌}
use Rattle.common.specs.declared.parameters.Choice.{Choice}
use Rattle.lanes.specs.Notes.{About, numbered}
use Rattle.lanes.specs.Opening.{Meaning}
use Rattle.reports.specs.declared.answer.Entry.{Entry}
use Rattle.reports.specs.Abouts.{about_of}
use Rattle.reports.specs.Books.{BookModel, AreBooks}
use Rattle.streams.specs.declared.frames.Form.{Form}
use Rattle.streams.specs.declared.frames.Form.TheVariants.{Report, Json}
use Rattle.reports.specs.Report.{numbered_texts, entry_line, end_line, file_line, book_text}
use Rattle.reports.specs.Json.{entry_json, end_json, book_json}
use Rattle.reports.specs.Forms.{text_in}
use Rattle.collector.specs.FormLines.{lines_in, book_in}

-- the text of a book in this form
abbrev pub book_text_in : Form → ℕ → BookModel → List ℕ
book_text_in Report number book = book_text number book
book_text_in Json number book = book_json number book

-- the entries of one file from one place on
report_lines : (choice : Choice) (file ordinal : ℕ) (entries : List Entry) (records : List (List ℕ)) → map about_of entries ≡ numbered choice file ordinal records
    → lines_in Report entries ≡ numbered_texts entry_line (ordinal + 1) entries
report_lines choice file ordinal [] records same = refl
report_lines choice file ordinal (entry ∷ entries) [] same = absurd (let none : ⊥ = cc in none)
report_lines choice file ordinal (entry ∷ entries) (bytes ∷ records) same =
    let here : about_of entry ≡ record { file = file; ordinal = ordinal; bytes = bytes; choice = choice } = cc in
    let rest : map about_of entries ≡ numbered choice file (ordinal + 1) records = cc in
    let place : entry.ordinal ≡ ordinal = ap (λ (a : About). a.ordinal) here in
    ap (λ k. entry_line (k + 1) entry ++ lines_in Report entries) place
    ∙ ap (λ l. entry_line (ordinal + 1) entry ++ l) (report_lines choice file (ordinal + 1) entries records rest)

json_lines : (choice : Choice) (file ordinal : ℕ) (entries : List Entry) (records : List (List ℕ)) → map about_of entries ≡ numbered choice file ordinal records
    → lines_in Json entries ≡ numbered_texts (entry_json (file + 1)) (ordinal + 1) entries
json_lines choice file ordinal [] records same = refl
json_lines choice file ordinal (entry ∷ entries) [] same = absurd (let none : ⊥ = cc in none)
json_lines choice file ordinal (entry ∷ entries) (bytes ∷ records) same =
    let here : about_of entry ≡ record { file = file; ordinal = ordinal; bytes = bytes; choice = choice } = cc in
    let rest : map about_of entries ≡ numbered choice file (ordinal + 1) records = cc in
    let at : entry.file ≡ file = ap (λ (a : About). a.file) here in
    let place : entry.ordinal ≡ ordinal = ap (λ (a : About). a.ordinal) here in
    ap (λ k. entry_json (k + 1) (entry.ordinal + 1) entry ++ lines_in Json entries) at
    ∙ ap (λ k. entry_json (file + 1) (k + 1) entry ++ lines_in Json entries) place
    ∙ ap (λ l. entry_json (file + 1) (ordinal + 1) entry ++ l) (json_lines choice file (ordinal + 1) entries records rest)

-- the text of the book of file `file`, counted from 0
pub book_by_lines : (form : Form) (choice : Choice) (file : ℕ) (book : BookModel) (records : List (List ℕ)) → map about_of book.entries ≡ numbered choice file 0 records
    → book_in form (file + 1) book ≡ book_text_in form (file + 1) book
book_by_lines Report choice file book records same =
    ap (λ l. file_line (file + 1) ++ l ++ end_line book.mark (length book.entries)) (report_lines choice file 0 book.entries records same)
book_by_lines Json choice file book records same =
    ap (λ l. l ++ end_json (file + 1) book.mark (length book.entries)) (json_lines choice file 0 book.entries records same)

-- the text of books in a row, the first of which is of file `file`, counted from 0
pub books_by_lines : (form : Form) (choice : Choice) (meaning : ℕ → Meaning) (file : ℕ) (books : List BookModel) → AreBooks choice meaning file books
    → numbered_texts (book_in form) (file + 1) books ≡ numbered_texts (book_text_in form) (file + 1) books
books_by_lines form choice meaning file [] are = refl
books_by_lines form choice meaning file (book ∷ books) are =
    ap (λ l. l ++ numbered_texts (book_in form) (file + 1 + 1) books) (book_by_lines form choice file book are.0.whole.records are.0.whole.each)
    ∙ ap (λ l. book_text_in form (file + 1) book ++ l) (books_by_lines form choice meaning (file + 1) books are.1)

-- the text of a run's books
pub text_by_lines : (form : Form) (choice : Choice) (meaning : ℕ → Meaning) (books : List BookModel) → AreBooks choice meaning 0 books
    → numbered_texts (book_in form) 1 books ≡ text_in form books
text_by_lines Report choice meaning books are = books_by_lines Report choice meaning 0 books are
text_by_lines Json choice meaning books are = books_by_lines Json choice meaning 0 books are
