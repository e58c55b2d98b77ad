-- The empty book.
use Rattle.std.specs.Prelude.{◌≡◌, []}
use Rattle.journal_text.specs.declared.book.Book.{Book}

pub record IsEmpty (book : Book) : Type 0 where
  pub control : book.control ≡ []
  pub conns : book.conns ≡ []
  pub units : book.units ≡ []
