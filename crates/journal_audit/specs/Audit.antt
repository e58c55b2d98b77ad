-- What is told of a journal's text beside a capture: it is legal, or its first fault.
use Rattle.std.specs.Prelude.{◌≡◌, ℕ, codes, List, [], ◌∷◌, ◌++◌, Ok, Err}
use Rattle.std.specs.declared.result.Result.{Result}
use Rattle.std.specs.Fmt.{decimal}
use Rattle.node_head.specs.declared.head.Head.{Head}
use Rattle.journal_text.specs.Print.{spaced}
use Rattle.journal_text.specs.declared.book.Book.{Book}
use Rattle.capture_form.specs.Events.{Stamped}
use Rattle.journal_finding.specs.declared.finding.Fault.{Fault}
use Rattle.journal_finding.specs.declared.finding.FindingKind.{FindingKind}
use Rattle.journal_finding.specs.declared.finding.FindingKind.TheVariants as fault
use Rattle.journal_finding.specs.Finding.{Finds}
use Rattle.journal_audit.specs.declared.finding.Finding.{Finding}
use Rattle.journal_audit.specs.declared.finding.Finding.TheVariants.{Legal, Illegal}

-- what is told where this is found
abbrev pub finding_of : Result Book Fault → Finding
finding_of (Ok book) = Legal
finding_of (Err fault) = Illegal fault.line fault.kind

-- this is told of a text
pub record IsFinding (head : Head) (phases : List (List Stamped)) (text : List ℕ) (finding : Finding) : Type 0 where
  pub found : Result Book Fault
  pub finds : Finds head phases text found
  pub is : finding ≡ finding_of found

-- ---- its line

abbrev pub kind_word : FindingKind → List ℕ
kind_word fault.Form = codes "form"
kind_word fault.Order = codes "order"
kind_word fault.Edition = codes "edition"
kind_word fault.Entry = codes "entry"

-- legal, or illegal <line> <kind>, each with a line feed
abbrev pub finding_text : Finding → List ℕ
finding_text Legal = codes "legal\n"
finding_text (Illegal line kind) = spaced (codes "illegal" ∷ decimal line ∷ kind_word kind ∷ []) ++ codes "\n"
