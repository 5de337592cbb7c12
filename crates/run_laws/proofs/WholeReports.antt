-- Whole reports of the same bytes: as each accepted graph is drawn, they are one text.
use Rattle.std.proofs.Common.{◌≡◌, ℕ, suc, ◌+◌, ◌<◌, Bool, List, [], ◌∷◌, ◌++◌, length, All, codes, decimal, Result, refl, sym, ap, ap₂, subst, ◌∙◌, arith}
use Rattle.std.proofs.Math.Logic.{∥∥₁_elim}
use Rattle.std.proofs.Props.{props}
use Rattle.planar_code.specs.Stream.{lists_of}
use Rattle.streams.specs.Marks.{IsMarked}
use Rattle.embedding.specs.declared.breaks.Rule.{Rule}
use Rattle.embedding.specs.Rules.{KeepsBefore}
use Rattle.embedding.specs.Words as rules
use Rattle.common.specs.declared.parameters.Choice.{Choice}
use Rattle.lanes.specs.Opening.{Meaning, fails_of}
use Rattle.faces.specs.Planes.{PlaneModel}
use Rattle.ortho_rep.specs.Shapes.{ShapeModel}
use Rattle.ortho_rep.specs.Points.{PointsModel}
use Rattle.ortho_rep.specs.Prices.{PricesModel}
use Rattle.reports.specs.declared.answer.Cause.{Cause}
use Rattle.reports.specs.declared.answer.Answer.{Answer}
use Rattle.reports.specs.declared.answer.Answer.TheVariants.{Laid, Refused, NoMemory}
use Rattle.reports.specs.declared.answer.Entry.{Entry}
use Rattle.reports.specs.Answers.{IsLaid}
use Rattle.answers.proofs.DrawnAnswers.{drawn}
use Rattle.reports.specs.Books.{BookModel, IsBook, AreBooks}
use Rattle.reports.specs.Report.{numbered_texts, drawn_text, answer_text, entry_line, end_line, file_line, book_text}
use Rattle.run_laws.specs.Reports.{IsReport, AreKnownAlike, AreAllKnownAlike, HasNoMemoryWord}
use Rattle.run_laws.proofs.Memory.{IsDecided, HasMemory}
use Rattle.run_laws.proofs.Planes.{one_rule, none_broken}
use Rattle.run_laws.proofs.LineSizes.{same_sizes}
use Rattle.run_laws.proofs.Entering.{AreDecided, as_many, decided_by_book}
use Rattle.run_laws.proofs.Booking.{same_marked, book_marked}
use Rattle.run_laws.proofs.Wording.{has_memory, books_have_memory}

drawn_yes : (choice : Choice) (g : List (List ℕ)) (plane : PlaneModel) (shape : ShapeModel) (prices : PricesModel) (drawing : Result PointsModel Cause)
    → IsLaid choice g plane shape prices drawing → drawn_text drawing ≡ codes " drawn=yes"
drawn_yes choice g plane shape prices drawing is = ap drawn_text (drawn choice g plane shape prices drawing is).1

whole_answer : (choice : Choice) (g : List (List ℕ)) (one other : Answer) → IsDecided choice g one → IsDecided choice g other → answer_text one ≡ answer_text other
whole_answer choice g (Laid plane shape prices drawing) (Laid plane' shape' prices' drawing') is is' =
    ap₂ (λ (sizes : List ℕ) (last : List ℕ). codes " ok" ++ sizes ++ last)
    (same_sizes choice g plane plane' shape shape' prices prices' drawing drawing' is is')
    (drawn_yes choice g plane shape prices drawing is ∙ sym (drawn_yes choice g plane' shape' prices' drawing' is'))
whole_answer choice g (Refused rule) (Refused other) is is' =
    ap (λ (r : Rule). codes " refused " ++ rules.word_of r) (one_rule g rule other is is')
whole_answer choice g (Laid plane shape prices drawing) (Refused rule) is is' =
    absurd (none_broken g rule (subst (λ (lists : List (List ℕ)). KeepsBefore lists 9) is.lists is.rules.rules) is')
whole_answer choice g (Refused rule) (Laid plane shape prices drawing) is is' =
    absurd (none_broken g rule (subst (λ (lists : List (List ℕ)). KeepsBefore lists 9) is'.lists is'.rules.rules) is)
whole_answer choice g NoMemory other is is' = absurd is
whole_answer choice g one NoMemory is is' = absurd is'

whole_graph : (choice : Choice) (g : List (List ℕ)) (one other : Answer) → ∥ IsDecided choice g one ∥₁ → ∥ IsDecided choice g other ∥₁ → answer_text one ≡ answer_text other
whole_graph choice g one other is is' =
    ∥∥₁_elim is (hlevel props) (λ a. ∥∥₁_elim is' (hlevel props) (λ b. whole_answer choice g one other a b))

whole_entries : (choice : Choice) (records : List (List ℕ)) (entries others : List Entry) → AreDecided choice records entries → AreDecided choice records others
    → (number : ℕ) → numbered_texts entry_line number entries ≡ numbered_texts entry_line number others
whole_entries choice [] [] [] are are' number = refl
whole_entries choice [] (entry ∷ entries) others are are' number = absurd are
whole_entries choice [] [] (other ∷ others) are are' number = absurd are'
whole_entries choice (bytes ∷ records) [] others are are' number = absurd are
whole_entries choice (bytes ∷ records) (entry ∷ entries) [] are are' number = absurd are'
whole_entries choice (bytes ∷ records) (entry ∷ entries) (other ∷ others) are are' number =
    ap₂ (λ (answer : List ℕ) (rest : List ℕ). (codes "graph " ++ decimal number ++ answer ++ codes "\n") ++ rest)
    (whole_graph choice (lists_of bytes) entry.answer other.answer are.0 are'.0)
    (whole_entries choice records entries others are.1 are'.1 (number + 1))

pub whole_book : (choice : Choice) (records : List (List ℕ)) (book other : BookModel) → AreDecided choice records book.entries → AreDecided choice records other.entries
    → book.mark ≡ other.mark → (number : ℕ) → book_text number book ≡ book_text number other
whole_book choice records book other are are' marked number =
    let count : length book.entries ≡ length other.entries = as_many choice records book.entries are ∙ sym (as_many choice records other.entries are') in
    ap₂ (λ (graphs : List ℕ) (last : List ℕ). file_line number ++ graphs ++ last)
    (whole_entries choice records book.entries other.entries are are' 1)
    (ap₂ end_line marked count)

whole_told : (choice : Choice) (meaning other_meaning : Meaning) (file other_file : ℕ) (book other : BookModel)
    → IsBook choice meaning file book → IsBook choice other_meaning other_file other → AreKnownAlike meaning other_meaning → HasMemory book → HasMemory other
    → (number : ℕ) → book_text number book ≡ book_text number other
whole_told choice meaning other_meaning file other_file book other one two tell has has' number =
    let marked : IsMarked tell.bytes (fails_of meaning) one.whole.records book.mark = book_marked choice meaning file book tell.bytes tell.known one in
    let marked' : IsMarked tell.bytes (fails_of meaning) two.whole.records other.mark =
    subst (λ (f : Bool). IsMarked tell.bytes f two.whole.records other.mark) (sym tell.fails) (book_marked choice other_meaning other_file other tell.bytes tell.known_too two) in
    let same = same_marked tell.bytes (fails_of meaning) one.whole.records two.whole.records book.mark other.mark marked marked' has.mark has'.mark in
    whole_book choice one.whole.records book other
    (decided_by_book choice file 0 one.whole.records book.entries one.whole.each one.answered has.answers)
    (subst (λ (rs : List (List ℕ)). AreDecided choice rs other.entries) (sym same.0)
    (decided_by_book choice other_file 0 two.whole.records other.entries two.whole.each two.answered has'.answers))
    same.1 number

pub one_told : (choice : Choice) (meaning other_meaning : Meaning) (file other_file : ℕ) (book other : BookModel)
    → IsBook choice meaning file book → IsBook choice other_meaning other_file other → AreKnownAlike meaning other_meaning
    → (number : ℕ) → HasNoMemoryWord (book_text number book) → HasNoMemoryWord (book_text number other) → book_text number book ≡ book_text number other
one_told choice meaning other_meaning file other_file book other one two tell number none none' =
    whole_told choice meaning other_meaning file other_file book other one two tell
    (has_memory number book (λ has. none has.front has.back has.parts)) (has_memory number other (λ has. none' has.front has.back has.parts)) number

whole_books : (choice : Choice) (meaning other_meaning : ℕ → Meaning) (first number : ℕ) (books others : List BookModel)
    → AreBooks choice meaning first books → AreBooks choice other_meaning first others → length books ≡ length others
    → ((k : ℕ) → k < length books → AreKnownAlike (meaning (first + k)) (other_meaning (first + k)))
    → All HasMemory books → All HasMemory others
    → numbered_texts book_text number books ≡ numbered_texts book_text number others
whole_books choice meaning other_meaning first number [] [] are are' count tell has has' = refl
whole_books choice meaning other_meaning first number [] (other ∷ others) are are' count tell has has' = absurd (omega (arith, count))
whole_books choice meaning other_meaning first number (book ∷ books) [] are are' count tell has has' = absurd (omega (arith, count))
whole_books choice meaning other_meaning first number (book ∷ books) (other ∷ others) are are' count tell has has' =
    let here : first + 0 ≡ first = omega arith in
    ap₂ (λ (text : List ℕ) (rest : List ℕ). text ++ rest)
    (whole_told choice (meaning first) (other_meaning first) first first book other are.0 are'.0
    (subst (λ (n : ℕ). AreKnownAlike (meaning n) (other_meaning n)) here (tell 0 (omega arith)))
    (has 0 book (omega arith)) (has' 0 other (omega arith)) number)
    (whole_books choice meaning other_meaning (first + 1) (number + 1) books others are.1 are'.1 (omega (arith, count))
    (λ k inside.
    let there : first + suc k ≡ first + 1 + k = omega arith in
    subst (λ (n : ℕ). AreKnownAlike (meaning n) (other_meaning n)) there (tell (suc k) (omega (arith, inside))))
    (λ k d inside. has (suc k) d (omega (arith, inside))) (λ k d inside. has' (suc k) d (omega (arith, inside))))

pub whole_texts : (choice : Choice) (meaning other_meaning : ℕ → Meaning) (files : ℕ) (text other : List ℕ)
    → IsReport choice meaning files text → IsReport choice other_meaning files other → AreAllKnownAlike files meaning other_meaning
    → HasNoMemoryWord text → HasNoMemoryWord other → text ≡ other
whole_texts choice meaning other_meaning files text other one two tell none none' =
    let are = one.of_files in
    let are' = two.of_files in
    one.text_is
    ∙ whole_books choice meaning other_meaning 0 1 one.books two.books are.each are'.each (are.count ∙ sym are'.count)
    (λ k inside.
    let there : k ≡ 0 + k = omega arith in
    subst (λ (n : ℕ). AreKnownAlike (meaning n) (other_meaning n)) there (tell k (omega (arith, inside, are.count))))
    (books_have_memory text one.books one.text_is none) (books_have_memory other two.books two.text_is none')
    ∙ sym two.text_is
