-- The laws of what is found of a journal's text: one thing of each, and it is legal exactly where it is the print of a right book, which is then found.
use Rattle.std.specs.Prelude.{◌≡◌, ◌↔◌, ℕ, List, Ok}
use Rattle.std.specs.declared.result.Result.{Result}
use Rattle.node_head.specs.declared.head.Head.{Head}
use Rattle.journal_text.specs.declared.book.Book.{Book}
use Rattle.capture_form.specs.Events.{Stamped}
use Rattle.right_book.specs.Right.{IsRight}
use Rattle.book_output.specs.Print.{print_of}
use Rattle.printable_law.specs.CaptureRanges.{InputInRange}
use Rattle.printable_law.specs.PrintableLaw.{IsGiven}
use Rattle.journal_finding.specs.declared.finding.Fault.{Fault}
use Rattle.journal_finding.specs.Finding.{Finds}

-- the text is the print of this book, which is right
pub record IsPrintOfRight (head : Head) (phases : List (List Stamped)) (text : List ℕ) (book : Book) : Type 0 where
  pub print : text ≡ print_of book
  pub right : IsRight head phases book

-- a text that is found legal is the print of the book that is found, which is right
abbrev pub FoundIsRight : Type 0
FoundIsRight = (head : Head) (phases : List (List Stamped)) (text : List ℕ) (book : Book) → Finds head phases text (Ok book) → IsPrintOfRight head phases text book

-- and whatever is found of the print of a right book: it is that book
abbrev pub RightIsFound : Type 0
RightIsFound =
    (head : Head) (phases : List (List Stamped)) (book : Book) (found : Result Book Fault) → IsGiven head phases book → Finds head phases (print_of book) found
    → found ≡ Ok book

-- one thing is found of a text
abbrev pub FoundOnce : Type 0
FoundOnce =
    (head : Head) (phases : List (List Stamped)) (text : List ℕ) (one other : Result Book Fault) → Finds head phases text one → Finds head phases text other → one ≡ other

-- and something is found of every text
pub record IsFoundOf (head : Head) (phases : List (List Stamped)) (text : List ℕ) : Type 0 where
  pub found : Result Book Fault
  pub finds : Finds head phases text found

abbrev pub SomethingIsFound : Type 0
SomethingIsFound = (head : Head) (phases : List (List Stamped)) (text : List ℕ) → IsFoundOf head phases text

-- so a text is legal exactly where it is the print of a right book
abbrev pub LegalIsRight : Type 0
LegalIsRight =
    (head : Head) (phases : List (List Stamped)) (text : List ℕ) (book : Book) → InputInRange head phases → Finds head phases text (Ok book) ↔ IsPrintOfRight head phases text book
