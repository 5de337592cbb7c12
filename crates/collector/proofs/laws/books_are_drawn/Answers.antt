use Rattle.collector.proofs.Books.{drawn_book, drawn_books}
use Rattle.collector.proofs.laws.books_are_drawn.Goals as goal

pub returns-clause-one : goal.returns-clause-one
returns-clause-one c = drawn_book

pub returns-clause-all : goal.returns-clause-all
returns-clause-all c = drawn_books
