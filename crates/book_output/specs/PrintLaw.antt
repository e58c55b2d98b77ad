-- The law of the print.
use Rattle.std.specs.Prelude.{◌≡◌, ◌==◌, [], ◌∷◌, ◌++◌}
use Rattle.std.specs.List.{slice_split}
use Rattle.journal_text.specs.Print.{book_text}
use Rattle.journal_text.specs.declared.book.Book.{Book}
use Rattle.book_output.specs.Print.{book_lines, print_of}

-- what is written entry after entry is the print; and cut at its line feeds the print is its lines, with nothing behind the last line feed
pub record IsInLines (book : Book) : Type 0 where
  pub written : book_text book ≡ print_of book
  pub cut : slice_split (λ b. b == 10) (print_of book) ≡ book_lines book ++ [] ∷ []

abbrev pub PrintIsInLines : Type 0
PrintIsInLines = (book : Book) → IsInLines book
