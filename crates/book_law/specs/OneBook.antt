-- The law of the one right book: phases determine it where their events come one after another.
--
-- In such a phase either nothing is published, so that every routing in it is of the edition that was there before it; or the control lane
-- alone takes events, and they ask no routing. Without the links of a capture the law is false: with an edit and a routing on one link of a
-- phase there are two editions to choose from.
use Rattle.std.specs.Prelude.{◌≡◌, List}
use Rattle.node_head.specs.declared.head.Head.{Head}
use Rattle.capture_form.specs.Events.{Stamped}
use Rattle.capture_form.specs.Links.{AreLinked}
use Rattle.journal_text.specs.declared.book.Book.{Book}
use Rattle.right_book.specs.Right.{IsRight}
use Rattle.book_law.specs.Sequential.{IsSequential}

abbrev pub OneRightBook : Type 0
OneRightBook =
    (head : Head) (phases : List (List Stamped)) (one other : Book) → AreLinked phases → IsSequential head phases
    → IsRight head phases one → IsRight head phases other → one ≡ other
