-- Right books may be printed, and their prints have the form of a journal.
use Rattle.std.proofs.Common.{◌≡◌, List, length, map, None, sym, ap₂, subst}
use Rattle.journal_text.specs.declared.book.Book.{Book}
use Rattle.capture_form.specs.Events.{Stamped}
use Rattle.node_head.specs.declared.head.Head.{Head}
use Rattle.right_book.specs.Right.{HasLanes}
use Rattle.book_output.specs.Print.{print_of}
use Rattle.journal_form.specs.Form.{lane_lines, form_fault}
use Rattle.journal_form.specs.Parts.{LanePart, HasForm}
use Rattle.printable_law.specs.Printed.{read_lane, printed}
use Rattle.printable_law.specs.Written.{IsPrintable}
use Rattle.printable_law.proofs.Print.{print_has_form}
use Rattle.printable_law.proofs.FormReading.{print_is_read}
use Rattle.printable_law.proofs.Captures.{captures_are_in_range}
use Rattle.printable_law.proofs.Streams.{streams_are_in_range}
use Rattle.printable_law.specs.BookRanges.{BookInRange}
use Rattle.printable_law.proofs.Books.{right_books_are_in_range}
use Rattle.printable_law.specs.PrintableLaw.{IsGiven, RightIsPrintable, CapturesArePrintable, StreamsArePrintable, lines_of, PrintsHaveForm}
use Rattle.printable_law.proofs.Writing.{lanes-written, control-written}

given-printable : (book : Book) → BookInRange book → IsPrintable book
given-printable book given = record {
  control = control-written book.control given.control;
  conns = lanes-written book.conns given.conns;
  units = lanes-written book.units given.units;
}

pub right_is_printable : RightIsPrintable
right_is_printable head phases book is = given-printable book (right_books_are_in_range head phases book is.input is.right)

pub captures_are_printable : CapturesArePrintable
captures_are_printable bytes capture book e right =
    right_is_printable capture.head capture.phases book (record { input = captures_are_in_range bytes capture e; right = right })

pub streams_are_printable : StreamsArePrintable
streams_are_printable bytes capture book are e right =
    right_is_printable capture.head capture.phases book (record { input = streams_are_in_range bytes capture are e; right = right })

-- the lines of the lanes of a book are those of its head
same-lines : (head : Head) (book : Book) → HasLanes head book → lane_lines (length book.conns) (length book.units) ≡ lines_of head
same-lines head book has = ap₂ lane_lines has.conns has.units

has-form : (head : Head) (phases : List (List Stamped)) (book : Book) → IsGiven head phases book → form_fault (lines_of head) (print_of book) ≡ None
has-form head phases book is =
    subst (λ lines. form_fault lines (print_of book) ≡ None) (same-lines head book is.right.lanes) (print_has_form book (right_is_printable head phases book is))

is-read : (head : Head) (phases : List (List Stamped)) (book : Book) (lanes : List LanePart) → IsGiven head phases book
    → HasForm (lines_of head) (print_of book) lanes → map read_lane lanes ≡ printed book
is-read head phases book lanes is form =
    print_is_read book lanes (right_is_printable head phases book is)
    (subst (λ lines. HasForm lines (print_of book) lanes) (sym (same-lines head book is.right.lanes)) form)

pub prints_have_form : PrintsHaveForm
prints_have_form = record { form = has-form; reading = is-read }
