use Rattle.book_law.proofs.Books.{one_right_book}
use Rattle.book_law.proofs.book_laws.one_right_book.Goals as goal

pub returns : goal.returns
returns c = one_right_book
