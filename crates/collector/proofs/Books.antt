-- The books of a run are of graphs that are drawn.
use Rattle.std.proofs.Common.{ℕ, zero, suc, ◌+◌, List, [], ◌∷◌, arith}
use Rattle.std.proofs.Math.Logic.{∥∥₁_map}
use Rattle.common.specs.declared.parameters.Choice.{Choice}
use Rattle.lanes.specs.Opening.{Meaning}
use Rattle.reports.specs.Books.{BookModel, IsBook, AreBooks}
use Rattle.answers.proofs.DrawnAnswers.{answer_drawn}
use Rattle.collector.specs.DrawnBooks.{IsDrawnBook, AreDrawnBooks}

pub drawn_book : (choice : Choice) (meaning : Meaning) (file : ℕ) (book : BookModel) → IsBook choice meaning file book → IsDrawnBook book
drawn_book choice meaning file book is k d inside = ∥∥₁_map (is.answered k d inside) (λ answers. answer_drawn _ _ _ answers)

pub drawn_books : (choice : Choice) (meaning : ℕ → Meaning) (file : ℕ) (books : List BookModel) → AreBooks choice meaning file books → AreDrawnBooks books
drawn_books choice meaning file [] are k d inside = absurd (let none : ⊥ = omega (arith, inside) in none)
drawn_books choice meaning file (book ∷ books) are zero d inside = drawn_book choice (meaning file) file book are.0
drawn_books choice meaning file (book ∷ books) are (suc k) d inside = drawn_books choice meaning (file + 1) books are.1 k d (omega (arith, inside))
