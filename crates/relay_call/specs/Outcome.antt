-- What a command did, by how it ended.
use Rattle.std.specs.Prelude.{◌≡◌, ◌≢◌, ◌≤◌, ◌⊎◌, ℕ, ◌==◌, ◌++◌, codes, List, [], Option, Some, None, Ok, IfSome, if◌then◌else◌}
use Rattle.std.specs.declared.result.Result.{Result}
use Rattle.std.specs.Io.KnownBytes.{Appends, Keeps}
use Rattle.relay_base.specs.Causes.{Rose}
use Rattle.relay_base.specs.Streams.{AppendedPart}
use Rattle.node_head.specs.declared.head.Head.{Head}
use Rattle.capture_input.specs.declared.reading.AuditInput.{AuditInput}
use Rattle.capture_input.specs.declared.fault.InputFault.{InputFault}
use Rattle.capture_input.specs.declared.input.Form.{Form}
use Rattle.capture_input.specs.declared.input.Form.TheVariants as form
use Rattle.capture_input.specs.declared.input.Input.{Input}
use Rattle.capture_input.specs.declared.input.Input.TheVariants as input
use Rattle.capture_input.specs.Input.{Bytes, bytes, input_of, ReadAs, PassesLimit, IsHeadFault, IsLineFault, IsPortFault, HasNoJournal, IsDue}
use Rattle.journal_text.specs.declared.book.Book.{Book}
use Rattle.journal_text.specs.Book.{IsEmpty}
use Rattle.book_output.specs.Print.{print_of}
use Rattle.capture_generator.specs.Counts.{counts_text}
use Rattle.book_law.specs.LengthLaw.{all_frames}
use Rattle.chain_text.specs.Print.{run_text}
use Rattle.journal_audit.specs.declared.finding.Finding.{Finding}
use Rattle.journal_audit.specs.declared.finding.Finding.TheVariants.{Legal, Illegal}
use Rattle.journal_audit.specs.Audit.{IsFinding, finding_text}
use Rattle.command_words.specs.declared.command.Command.{Command}
use Rattle.command_words.specs.declared.command.Command.TheVariants.{Run, Generate, Stream, Frames, Chain, Audit}
use Rattle.capture_generator.specs.Generator.{generated_capture}
use Rattle.right_book.specs.Right.{IsRight}
use Rattle.book_law.specs.Sequential.{IsSequential}

-- What a device tells before a call and after it: its bytes, and how often it failed.
pub record Device : Type 0 where
  pub bytes : Bytes
  pub before : ℕ
  pub after : ℕ

abbrev pub device : Option (List ℕ) → Option (List ℕ) → ℕ → ℕ → Device
device before after failed fails = record { bytes = bytes before after; before = failed; after = fails }

-- it failed in the call
abbrev pub HasFailed : Device → Type 0
HasFailed d = Rose d.before d.after

-- ---- what was read

-- the form of the input that a command reads, if it reads one
abbrev pub form_of : Command → Option Form
form_of Run = Some form.Lines
form_of (Generate number lines) = None
form_of Stream = Some form.Stream
form_of Frames = Some form.Stream
form_of Chain = Some form.Steps
form_of Audit = Some form.Audited

abbrev pub form_read : Option Command → Option Form
form_read None = None
form_read (Some command) = form_of command

-- the words state a command that reads an input of this form, which was read to its end, and this is said of what it states
abbrev pub ReadBy : Form → Option Command → Bytes → (Result Input InputFault → Type 0) → Type 0
ReadBy form stated read P = (form_read stated ≡ Some form) × ReadAs form read P

-- this is said of the input of a command: `gen` makes a capture and leaves the source as it is, and the others read theirs
abbrev pub GivesAs : Command → Bytes → (Result Input InputFault → Type 0) → Type 0
GivesAs Run read P = ReadAs form.Lines read P
GivesAs (Generate number lines) read P = (read.after ≡ read.before) × P (Ok (input.Capture (generated_capture number lines)))
GivesAs Stream read P = ReadAs form.Stream read P
GivesAs Frames read P = ReadAs form.Stream read P
GivesAs Chain read P = ReadAs form.Steps read P
GivesAs Audit read P = ReadAs form.Audited read P

-- ---- what was written

-- a text was written; or a front of it
abbrev pub Wrote : Bytes → List ℕ → Type 0
Wrote written text = Appends written.before written.after text

abbrev pub WrotePart : Bytes → List ℕ → Type 0
WrotePart written text = AppendedPart written.before written.after text

-- a sink got a part of the text, and all of it where it did not fail
pub record Says (noted : Bytes) (before after : ℕ) (text : List ℕ) : Type 0 where
  pub part : WrotePart noted text
  pub whole : (Rose before after → ⊥) → Wrote noted text

abbrev pub Notes : Device → List ℕ → Type 0
Notes notes text = Says notes.bytes notes.before notes.after text

-- nothing was written, and the book is empty
abbrev pub Untouched : Bytes → Book → Type 0
Untouched written book = Keeps written.before written.after × IsEmpty book

-- what a command writes of the book of a head's node: the line of its counts, the M3UA messages that carry all that it sends, or its print
abbrev pub text_of_book : Command → Head → Book → List ℕ
text_of_book (Generate number lines) head book = counts_text lines book ++ codes "\n"
text_of_book Frames head book = all_frames head.point book
text_of_book _ head book = print_of book

-- the status that a finding ends with
abbrev pub finding_status : Finding → ℕ
finding_status Legal = 0
finding_status (Illegal line kind) = 9

-- a finding of a journal's text beside its capture, with its line and its status
pub record IsJudgement (audited : AuditInput) (status : ℕ) (text : List ℕ) : Type 0 where
  pub finding : Finding
  pub found : IsFinding audited.capture.head audited.capture.phases audited.text finding
  pub ends : status ≡ finding_status finding
  pub line : text ≡ finding_text finding

-- what a command writes, and the status that it ends with: of a capture what it writes of the book, of nodes in a row the print of their run, and of a
-- journal's text what is found of it
abbrev pub IsOutput : Command → Input → Book → ℕ → List ℕ → Type 0
IsOutput command (input.Capture capture) book status text = (status ≡ 0) × (text ≡ text_of_book command capture.head book)
IsOutput command (input.Chain steps) book status text = (status ≡ 0) × (text ≡ run_text steps)
IsOutput command (input.Audited audited) book status text = IsJudgement audited status text

-- the book is right for a capture; nodes in a row and a journal's text leave it empty
abbrev pub IsRightFor : Input → Book → Type 0
IsRightFor (input.Capture capture) book = IsRight capture.head capture.phases book
IsRightFor (input.Chain steps) book = IsEmpty book
IsRightFor (input.Audited audited) book = IsEmpty book

-- the book is right for the input, and this is said of what is written and of the status with which that ends
abbrev pub Filled : (ℕ → List ℕ → Type 0) → Command → Input → Book → Type 0
Filled Written command given book = IsRightFor given book × (status : ℕ) × (text : List ℕ) × IsOutput command given book status text × Written status text

-- the input of a command is known, and the book filled with it
abbrev pub FilledBy : (ℕ → List ℕ → Type 0) → Command → Bytes → Book → Type 0
FilledBy Written command read book = GivesAs command read (λ parts. (given : Input) × (parts ≡ Ok given) × Filled Written command given book)

-- the command that words state was done
abbrev pub DoneAs : (ℕ → List ℕ → Type 0) → Option Command → Bytes → Book → Type 0
DoneAs Written stated read book = (command : Command) × (stated ≡ Some command) × FilledBy Written command read book

-- all was written, and it ends with this status; or a part was
abbrev pub WroteAll : Bytes → ℕ → ℕ → List ℕ → Type 0
WroteAll written ends status text = (status ≡ ends) × Wrote written text

abbrev pub WroteSome : Bytes → ℕ → List ℕ → Type 0
WroteSome written status text = WrotePart written text

abbrev pub IsDone : Option Command → Bytes → Bytes → Book → ℕ → Type 0
IsDone stated read written book ends = DoneAs (WroteAll written ends) stated read book

-- but for a part of the output
abbrev pub IsDonePartly : Option Command → Bytes → Bytes → Book → Type 0
IsDonePartly stated read written book = DoneAs (WroteSome written) stated read book

-- ---- what is determined

-- all bytes which the source tells state this
abbrev pub States : Form → Option (List ℕ) → Input → Type 0
States form left given = (came : List ℕ) × (left ≡ Some came) × (input_of form came ≡ Ok given)

-- the input of a command
abbrev pub IsInputOf : Command → Option (List ℕ) → Input → Type 0
IsInputOf Run left given = States form.Lines left given
IsInputOf (Generate number lines) left given = given ≡ input.Capture (generated_capture number lines)
IsInputOf Stream left given = States form.Stream left given
IsInputOf Frames left given = States form.Stream left given
IsInputOf Chain left given = States form.Steps left given
IsInputOf Audit left given = States form.Audited left given

-- the events of a capture come one after another; steps always do, and beside a text they needn't
abbrev pub IsInOrder : Input → Type 0
IsInOrder (input.Capture capture) = IsSequential capture.head capture.phases
IsInOrder (input.Chain steps) = Unit {0}
IsInOrder (input.Audited audited) = Unit {0}

-- where what happens comes one after another, each right book of the input is this one, whatever the command may write of it was written, and it ends
-- with this status
abbrev pub IsDetermined : Option Command → Bytes → Bytes → Book → ℕ → Type 0
IsDetermined stated read written book ends =
    (command : Command) (given : Input) (right : Book)
    → stated ≡ Some command → IsInputOf command read.before given → IsInOrder given → IsRightFor given right
    → (right ≡ book) × ((status : ℕ) (text : List ℕ) → IsOutput command given right status text → WroteAll written ends status text)

-- the status that an input ends with which was served: 0, or for a journal's text that of what is found of it
abbrev pub EndsWith : Input → ℕ → Type 0
EndsWith (input.Capture capture) status = status ≡ 0
EndsWith (input.Chain steps) status = status ≡ 0
EndsWith (input.Audited audited) status = (text : List ℕ) × IsJudgement audited status text

-- ---- the statuses whose note needs no input

abbrev pub plain_note : ℕ → Option (List ℕ)
plain_note status =
    if status == 0 then Some []
    else if status == 1 then Some (codes "usage\n")
    else if status == 5 then Some (codes "read fault\n")
    else if status == 6 then Some (codes "write fault\n")
    else if status == 7 then Some (codes "memory\n")
    else if status == 9 then Some []
    else None

-- ---- the status

-- the status of a command that was done
abbrev pub IsEnding : ℕ → Type 0
IsEnding status = (status ≡ 0) ⊎ (status ≡ 9)

-- a line of the input is at fault, which a capture and steps have
abbrev pub HasLineFault : Option Command → Bytes → (List ℕ → Type 0) → Type 0
HasLineFault stated read Said =
    ReadBy form.Lines stated read (IsLineFault Said) ⊎ ReadBy form.Steps stated read (IsLineFault Said) ⊎ ReadBy form.Audited stated read (IsLineFault Said)

-- What a call did for the words that state this command, or none, with a source, a sink for the output and one for notes, and what the book is then.
pub record IsServed (stated : Option Command) (source out notes : Device) (book : Book) (status : ℕ) : Type 0 where
  -- The input of the command is known: `gen` makes it, and of the others it was read to its end. The book is right for it, and what the command
  -- writes was written. Status 9 is that of `audit` where the text of a journal is illegal.
  pub done : IsEnding status → IsDone stated source.bytes out.bytes book status
  -- Where what happens comes one after another, what is written is a function of the words and of the bytes read, as is the status.
  pub determined : IsEnding status → IsDetermined stated source.bytes out.bytes book status
  -- Words that are no command.
  pub usage : status ≡ 1 → stated ≡ None
  pub unstated : stated ≡ None → (status ≡ 1) ⊎ (status ≡ 7)
  -- `gen` reads nothing, and has no fault of an input.
  pub made :
      (number lines : ℕ) → stated ≡ Some (Generate number lines) →
      (source.bytes.after ≡ source.bytes.before) × ((status ≡ 0) ⊎ (status ≡ 6) ⊎ (status ≡ 7))
  -- The first fault of the input, and what is noted of it. Lines stand in a capture, with a text behind it too, and among steps, messages in a stream
  -- alone, and a text behind a capture where it is audited.
  pub head : status ≡ 2 → (form : Form) × ReadBy form stated source.bytes (IsHeadFault (Notes notes))
  pub line : status ≡ 3 → HasLineFault stated source.bytes (Notes notes)
  pub too_long : status ≡ 4 → (form : Form) × (form_read stated ≡ Some form) × PassesLimit form source.bytes (Notes notes)
  pub port : status ≡ 8 → ReadBy form.Stream stated source.bytes (IsPortFault (Notes notes))
  pub no_journal : status ≡ 10 → ReadBy form.Audited stated source.bytes (HasNoJournal (Notes notes))
  -- What is noted otherwise.
  pub said : IfSome (plain_note status) (Notes notes)
  -- A device failed in this call.
  pub read_fault : status ≡ 5 → HasFailed source
  pub write_fault : status ≡ 6 → HasFailed out
  pub source_kept : status ≢ 5 → source.after ≡ source.before
  pub out_kept : status ≢ 6 → out.after ≡ out.before
  -- What stands after a refusal, a write fault, and want of memory.
  pub refused : (IsEnding status → ⊥) → status ≢ 6 → status ≢ 7 → Untouched out.bytes book
  pub written : status ≡ 6 → IsDonePartly stated source.bytes out.bytes book
  pub memory : status ≡ 7 → Untouched out.bytes book ⊎ IsDonePartly stated source.bytes out.bytes book
  pub known : status ≤ 10
  -- Where no device fails, the status of a command that reads an input is that of the bytes, or memory ran out.
  pub complete :
      (form : Form) → form_read stated ≡ Some form → (HasFailed source → ⊥) → (HasFailed out → ⊥) → IfSome source.bytes.before (IsDue EndsWith form status)
