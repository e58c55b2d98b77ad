-- Lemmas on what a command did.
use Rattle.std.proofs.Common.{◌≡◌, ◌⊎◌, ℕ, ◌%◌, List, [], length, Some, None, Result, Ok, Err, OnOk, OnErr, IfErr, IfSome, sym, ap, ap₂, ◌∙◌, refl, inl, inr, subst, arith}
use Rattle.std.specs.Prelude.{Option}
use Rattle.std.proofs.lemmas.List.{append-nil, take_all}
use Rattle.std.proofs.lemmas.Option.{same_Some}
use Rattle.std.specs.Result.{result_ok}
use Rattle.std.proofs.KnownBytes.{Consumes-whole}
use Rattle.relay_base.specs.Causes.{HasCause}
use Rattle.relay_base.specs.declared.errors.Failed.{Failed}
use Rattle.journal_text.specs.declared.book.Book.{Book}
use Rattle.journal_text.specs.Book.{IsEmpty}
use Rattle.plant_core.specs.declared.entry.Entry.{Entry}
use Rattle.capture_form.specs.Links.{AreLinked}
use Rattle.capture_form.specs.declared.capture.Capture.{Capture}
use Rattle.capture_generator.specs.Generator.{generated_capture}
use Rattle.capture_generator.proofs.CaptureLemmas.{phases-linked}
use Rattle.right_book.specs.Right.{IsRight}
use Rattle.book_law.proofs.Books.{one_right_book}
use Rattle.book_output.specs.Report.{report_text}
use Rattle.book_law.proofs.LengthBooks.{none_is_left_out}
use Rattle.chain_form.specs.declared.reading.ChainInput.{ChainInput}
use Rattle.chain_text.specs.Print.{run_text}
use Rattle.capture_input.specs.declared.reading.AuditInput.{AuditInput}
use Rattle.journal_audit.specs.declared.finding.Finding.{Finding}
use Rattle.journal_audit.specs.Audit.{IsFinding, finding_of, finding_text}
use Rattle.finding_law.proofs.Books.{found_once}
use Rattle.capture_input.specs.declared.fault.InputFault.{InputFault}
use Rattle.capture_input.specs.declared.input.Form.{Form}
use Rattle.capture_input.specs.declared.input.Form.TheVariants as form
use Rattle.capture_input.specs.declared.input.Input.{Input}
use Rattle.capture_input.specs.declared.input.Input.TheVariants as input
use Rattle.capture_input.specs.declared.stop.Stop.{Stop}
use Rattle.capture_input.specs.declared.stop.Stop.TheVariants as stop
use Rattle.capture_input.specs.Input.{Bytes, bytes, input_of, ReadAs}
use Rattle.capture_input.proofs.StatusLemmas.{input-linked}
use Rattle.command_words.specs.declared.command.Command.{Command}
use Rattle.command_words.specs.declared.command.Command.TheVariants.{Run, Generate, Stream, Frames, Chain, Audit}
use Rattle.relay_call.specs.Outcome.{GivesAs, States, Wrote, WrotePart, WroteAll, WroteSome, Says, Filled, FilledBy, IsDone, IsInputOf, IsInOrder, IsRightFor, IsDetermined, finding_status, IsJudgement, IsOutput, text_of_book}
use Rattle.relay_call.specs.Inner.Reports.{report_of}
use Rattle.relay_call.specs.Inner.Stops.{Judged, StoppedJudging, StoppedLate, Stopped}

-- what writing a whole text told a sink
pub Says-written : {T : Type 0} (r : Result T Failed) (noted : Bytes) (before after : ℕ) (text : List ℕ)
    → OnOk r (Wrote noted text) → OnErr r (WrotePart noted text) → HasCause before after r → Says noted before after text
Says-written (Ok u) noted before after text ok err cause = record {
  part = (length text, subst (Wrote noted) (sym (take_all (length text) text (omega arith))) ok);
  whole = λ calm. ok;
}
Says-written (Err e) noted before after text ok err cause = record { part = err; whole = λ calm. absurd (calm cause.failed) }

-- and nothing, where nothing was written
pub says-nothing : (held : Option (List ℕ)) (failed : ℕ) → Says (bytes held held) failed failed []
says-nothing None failed = record { part = (0, tt); whole = λ calm. tt }
says-nothing (Some xs) failed = record { part = (0, sym (append-nil xs)); whole = λ calm. sym (append-nil xs) }

-- ---- what a command is given

-- what is said of the input of a command, where that is known
gives_more : (command : Command) (read : Bytes) (P Q : Result Input InputFault → Type 0) → ((parts : Result Input InputFault) → P parts → Q parts) → GivesAs command read P → GivesAs command read Q
gives_more Run read P Q f (came, consumed, ended, p) = (came, consumed, ended, f (input_of form.Lines came) p)
gives_more (Generate number lines) read P Q f (kept, p) = (kept, f (Ok (input.Capture (generated_capture number lines))) p)
gives_more Stream read P Q f (came, consumed, ended, p) = (came, consumed, ended, f (input_of form.Stream came) p)
gives_more Frames read P Q f (came, consumed, ended, p) = (came, consumed, ended, f (input_of form.Stream came) p)
gives_more Chain read P Q f (came, consumed, ended, p) = (came, consumed, ended, f (input_of form.Steps came) p)
gives_more Audit read P Q f (came, consumed, ended, p) = (came, consumed, ended, f (input_of form.Audited came) p)

pub filled_by : (Written : ℕ → List ℕ → Type 0) (command : Command) (read : Bytes) (given : Input) (book : Book)
    → GivesAs command read (λ parts. parts ≡ Ok given) → Filled Written command given book → FilledBy Written command read book
filled_by Written command read given book known filled = gives_more command read _ _ (λ parts e. (given, e, filled)) known

-- ---- what is written of a right book

-- a command's report is what it writes; of the M3UA messages none is left out
reported : (command : Command) (capture : Capture) (book : Book) → IsRight capture.head capture.phases book
    → report_text (report_of command capture.head) book ≡ text_of_book command capture.head book
reported Run capture book right = refl
reported (Generate number lines) capture book right = refl
reported Stream capture book right = refl
reported Frames capture book right = none_is_left_out capture.head.point capture.head capture.phases book right
reported Chain capture book right = refl
reported Audit capture book right = refl

pub wrote_whole : {T : Type 0} (r : Result T Stop) (command : Command) (written : Bytes) (capture : Capture) (book : Book)
    → IsRight capture.head capture.phases book → OnOk r (Wrote written (report_text (report_of command capture.head) book))
    → OnOk r (Filled (WroteAll written 0) command (input.Capture capture) book)
wrote_whole (Ok u) command written capture book right whole =
    (right, 0, text_of_book command capture.head book, (refl, refl), (refl, subst (Wrote written) (reported command capture book right) whole))
wrote_whole (Err e) command written capture book right whole = tt

-- what stands where the output was not written whole
stopped_with : (why : Stop) (command : Command) (written : Bytes) (given : Input) (book : Book) → Filled (WroteSome written) command given book
    → (why ≡ stop.WriteFault) ⊎ (why ≡ stop.Memory) → StoppedLate command written given book why
stopped_with why command written given book filled (inl is) = subst (StoppedLate command written given book) (sym is) filled
stopped_with why command written given book filled (inr is) = subst (StoppedLate command written given book) (sym is) (inr filled)

pub write_stopped : {T : Type 0} (r : Result T Stop) (command : Command) (written : Bytes) (capture : Capture) (book : Book)
    → IsRight capture.head capture.phases book → OnErr r (WrotePart written (report_text (report_of command capture.head) book))
    → IfErr r (λ why. (why ≡ stop.WriteFault) ⊎ (why ≡ stop.Memory)) → IfErr r (StoppedLate command written (input.Capture capture) book)
write_stopped (Ok u) command written capture book right part why = tt
write_stopped (Err e) command written capture book right part why =
    stopped_with e command written (input.Capture capture) book
    (right, 0, text_of_book command capture.head book, (refl, refl), subst (WrotePart written) (reported command capture book right) part) why

-- the same of nodes in a row, which leave the book empty
pub chain_wrote : {T : Type 0} (r : Result T Stop) (command : Command) (written : Bytes) (given : Input) (steps : ChainInput) (book : Book) → given ≡ input.Chain steps
    → IsEmpty book → OnOk r (Wrote written (run_text steps)) → OnOk r (Filled (WroteAll written 0) command given book)
chain_wrote (Ok u) command written given steps book is empty whole =
    subst (λ g. Filled (WroteAll written 0) command g book) (sym is) (empty, 0, run_text steps, (refl, refl), (refl, whole))
chain_wrote (Err e) command written given steps book is empty whole = tt

pub chain_stopped : {T : Type 0} (r : Result T Stop) (command : Command) (written : Bytes) (given : Input) (steps : ChainInput) (book : Book) → given ≡ input.Chain steps
    → IsEmpty book → OnErr r (WrotePart written (run_text steps))
    → IfErr r (λ why. (why ≡ stop.WriteFault) ⊎ (why ≡ stop.Memory)) → IfErr r (StoppedLate command written given book)
chain_stopped (Ok u) command written given steps book is empty part why = tt
chain_stopped (Err e) command written given steps book is empty part why =
    subst (λ g. StoppedLate command written g book e) (sym is)
    (stopped_with e command written (input.Chain steps) book (empty, 0, run_text steps, (refl, refl), part) why)

-- ---- what is written of a journal's text

abbrev Found : AuditInput → Finding → Type 0
Found audited finding = IsFinding audited.capture.head audited.capture.phases audited.text finding

judgement : (audited : AuditInput) (finding : Finding) (status : ℕ) → Found audited finding → finding_status finding ≡ status → IsJudgement audited status (finding_text finding)
judgement audited finding status found ends = record { finding = finding; found = found; ends = sym ends; line = refl }

pub judged_whole : {T : Type 0} (r : Result T Stop) (written : Bytes) (audited : AuditInput) (finding : Finding) → Found audited finding → Wrote written (finding_text finding)
    → OnOk r (finding_status finding ≡ 0) → OnOk r (Judged (WroteAll written 0) audited)
judged_whole (Ok u) written audited finding found whole ends = (0, finding_text finding, judgement audited finding 0 found ends, (refl, whole))
judged_whole (Err e) written audited finding found whole ends = tt

pub judged_illegal : {T : Type 0} (r : Result T Stop) (written : Bytes) (audited : AuditInput) (finding : Finding) → Found audited finding → Wrote written (finding_text finding)
    → IfErr r (λ why. (why ≡ stop.Illegal) × (finding_status finding ≡ 9)) → IfErr r (StoppedJudging written audited)
judged_illegal (Ok u) written audited finding found whole ends = tt
judged_illegal (Err e) written audited finding found whole (is, ends) =
    subst (StoppedJudging written audited) (sym is) (9, finding_text finding, judgement audited finding 9 found ends, (refl, whole))

judged_partly : (why : Stop) (written : Bytes) (audited : AuditInput) (finding : Finding) → Found audited finding → WrotePart written (finding_text finding)
    → (why ≡ stop.WriteFault) ⊎ (why ≡ stop.Memory) → StoppedJudging written audited why
judged_partly why written audited finding found part (inl is) =
    subst (StoppedJudging written audited) (sym is) (finding_status finding, finding_text finding, judgement audited finding (finding_status finding) found refl, part)
judged_partly why written audited finding found part (inr is) =
    subst (StoppedJudging written audited) (sym is) (inr (finding_status finding, finding_text finding, judgement audited finding (finding_status finding) found refl, part))

pub line_stopped : {T : Type 0} (r : Result T Stop) (why : Stop) (written : Bytes) (audited : AuditInput) (finding : Finding) → r ≡ Err why → Found audited finding
    → WrotePart written (finding_text finding) → (why ≡ stop.WriteFault) ⊎ (why ≡ stop.Memory) → IfErr r (StoppedJudging written audited)
line_stopped r why written audited finding is found part stopped =
    subst (λ x. IfErr x (StoppedJudging written audited)) (sym is) (judged_partly why written audited finding found part stopped)

-- and this of a command that judged it
with-book : (Written : ℕ → List ℕ → Type 0) (command : Command) (audited : AuditInput) (book : Book) → IsEmpty book → Judged Written audited
    → Filled Written command (input.Audited audited) book
with-book Written command audited book empty (status, text, found, wrote) = (empty, status, text, found, wrote)

pub audit_wrote : {T : Type 0} (r : Result T Stop) (command : Command) (written : Bytes) (given : Input) (audited : AuditInput) (book : Book) → given ≡ input.Audited audited
    → IsEmpty book → OnOk r (Judged (WroteAll written 0) audited) → OnOk r (Filled (WroteAll written 0) command given book)
audit_wrote (Ok u) command written given audited book is empty judged = subst (λ g. Filled (WroteAll written 0) command g book) (sym is) (with-book (WroteAll written 0) command audited book empty judged)
audit_wrote (Err e) command written given audited book is empty judged = tt

judging_stopped : (why : Stop) (command : Command) (written : Bytes) (audited : AuditInput) (book : Book) → IsEmpty book → StoppedJudging written audited why
    → StoppedLate command written (input.Audited audited) book why
judging_stopped stop.Memory command written audited book empty (inl kept) = inl (kept, empty)
judging_stopped stop.Memory command written audited book empty (inr judged) = inr (with-book (WroteSome written) command audited book empty judged)
judging_stopped stop.WriteFault command written audited book empty judged = with-book (WroteSome written) command audited book empty judged
judging_stopped stop.Illegal command written audited book empty judged = with-book (WroteAll written 9) command audited book empty judged
judging_stopped stop.Usage command written audited book empty judged = absurd judged
judging_stopped (stop.Refused fault note) command written audited book empty judged = absurd judged
judging_stopped stop.Bytes command written audited book empty judged = absurd judged
judging_stopped stop.ReadFault command written audited book empty judged = absurd judged

pub audit_stopped : {T : Type 0} (r : Result T Stop) (command : Command) (written : Bytes) (given : Input) (audited : AuditInput) (book : Book) → given ≡ input.Audited audited
    → IsEmpty book → IfErr r (StoppedJudging written audited) → IfErr r (StoppedLate command written given book)
audit_stopped (Ok u) command written given audited book is empty stopped = tt
audit_stopped (Err e) command written given audited book is empty stopped =
    subst (λ g. StoppedLate command written g book e) (sym is) (judging_stopped e command written audited book empty stopped)

-- the same of a command whose input this is
pub late_stopped : {T : Type 0} (r : Result T Stop) (command : Command) (read written : Bytes) (given : Input) (book : Book)
    → GivesAs command read (λ parts. parts ≡ Ok given) → IfErr r (StoppedLate command written given book) → IfErr r (Stopped (Some command) read written book)
late_stopped (Ok u) command read written given book known late = tt
late_stopped (Err stop.Memory) command read written given book known (inl untouched) = inl untouched
late_stopped (Err stop.Memory) command read written given book known (inr filled) = inr (command, refl, filled_by (WroteSome written) command read given book known filled)
late_stopped (Err stop.WriteFault) command read written given book known filled = (command, refl, filled_by (WroteSome written) command read given book known filled)
late_stopped (Err stop.Illegal) command read written given book known filled = (command, refl, filled_by (WroteAll written 9) command read given book known filled)
late_stopped (Err stop.Usage) command read written given book known late = absurd late
late_stopped (Err (stop.Refused fault note)) command read written given book known late = absurd late
late_stopped (Err stop.Bytes) command read written given book known late = absurd late
late_stopped (Err stop.ReadFault) command read written given book known late = absurd late

-- ---- what is determined

same_input : (r : Result Input InputFault) (a b : Input) → r ≡ Ok a → r ≡ Ok b → a ≡ b
same_input r a b h g = same_Some a b (ap result_ok (sym h ∙ g))

-- the capture of an input is linked, if it is one
abbrev IsLinked : Input → Type 0
IsLinked (input.Capture capture) = AreLinked capture.phases
IsLinked (input.Chain steps) = Unit {0}
IsLinked (input.Audited audited) = Unit {0}

stated-linked : (form : Form) (came : List ℕ) (given : Input) → input_of form came ≡ Ok given → IsLinked given
stated-linked form came (input.Capture capture) h = input-linked form came capture h
stated-linked form came (input.Chain steps) h = tt
stated-linked form came (input.Audited audited) h = tt

same-empty : (one other : Book) → IsEmpty one → IsEmpty other → one ≡ other
same-empty one other a b =
    ap₂ (λ c (p : List (List Entry) × List (List Entry)). record { control = c; conns = p.0; units = p.1 }) (a.control ∙ sym b.control)
    (ap₂ (λ x y. (x, y)) (a.conns ∙ sym b.conns) (a.units ∙ sym b.units))

-- two right books of an input are one
one-right : (given : Input) (right book : Book) → IsLinked given → IsInOrder given → IsRightFor given right → IsRightFor given book → right ≡ book
one-right (input.Capture capture) right book linked ordered is here = one_right_book capture.head capture.phases right book linked ordered is here
one-right (input.Chain steps) right book linked ordered is here = same-empty right book is here
one-right (input.Audited audited) right book linked ordered is here = same-empty right book is here

-- and whatever is written of it is one text, with one status
abbrev IsSame : ℕ → List ℕ → ℕ → List ℕ → Type 0
IsSame status text other line = (status ≡ other) × (text ≡ line)

one-judgement : (audited : AuditInput) (status other : ℕ) (text line : List ℕ) → IsJudgement audited status text → IsJudgement audited other line → IsSame status text other line
one-judgement audited status other text line a b =
    let capture = audited.capture in
    let same = a.found.is ∙ ap finding_of (found_once capture.head capture.phases audited.text a.found.found b.found.found a.found.finds b.found.finds) ∙ sym b.found.is in
    (a.ends ∙ ap finding_status same ∙ sym b.ends, a.line ∙ ap finding_text same ∙ sym b.line)

one-output : (command : Command) (given : Input) (book : Book) (status other : ℕ) (text line : List ℕ) → IsOutput command given book status text → IsOutput command given book other line
    → IsSame status text other line
one-output command (input.Capture capture) book status other text line a b = (a.0 ∙ sym b.0, a.1 ∙ sym b.1)
one-output command (input.Chain steps) book status other text line a b = (a.0 ∙ sym b.0, a.1 ∙ sym b.1)
one-output command (input.Audited audited) book status other text line a b = one-judgement audited status other text line a b

-- what is known of a command that was done, whose input this is
abbrev IsOne : Bytes → Command → Input → Book → Book → ℕ → Type 0
IsOne written command given book right ends =
    (right ≡ book) × ((status : ℕ) (text : List ℕ) → IsOutput command given right status text → WroteAll written ends status text)

filled-one : (written : Bytes) (command : Command) (given : Input) (book right : Book) (ends : ℕ) → right ≡ book → Filled (WroteAll written ends) command given book
    → IsOne written command given book right ends
filled-one written command given book right ends one (is, status, text, output, (same, wrote)) = (
  one,
  λ other line out.
      let equal = one-output command given book other status line text (subst (λ b. IsOutput command given b other line) one out) output in
      (equal.0 ∙ same, subst (Wrote written) (sym equal.1) wrote),
)

-- each right book of an input is the one that it filled
filled-determined : (written : Bytes) (command : Command) (found given : Input) (book right : Book) (ends : ℕ) → found ≡ given → IsLinked given → IsInOrder given
    → IsRightFor given right → Filled (WroteAll written ends) command found book → IsOne written command given book right ends
filled-determined written command found given book right ends same linked ordered is filled =
    let here : Filled (WroteAll written ends) command given book = subst (λ c. Filled (WroteAll written ends) command c book) same filled in
    filled-one written command given book right ends (one-right given right book linked ordered is here.0) here

-- the input that was read is that of all bytes
read-determined : (form : Form) (command : Command) (read written : Bytes) (book right : Book) (ends : ℕ) (given : Input)
    → ReadAs form read (λ parts. (found : Input) × (parts ≡ Ok found) × Filled (WroteAll written ends) command found book) → States form read.before given
    → IsInOrder given → IsRightFor given right → IsOne written command given book right ends
read-determined form command read written book right ends given (came, consumed, ended, (found, parts, filled)) (whole, told, of) ordered is =
    let all : input_of form whole ≡ Ok found = subst (λ left. IfSome left (λ xs. input_of form xs ≡ Ok found)) told (Consumes-whole read.before read.after came (λ xs. input_of form xs ≡ Ok found) consumed ended parts) in
    filled-determined written command found given book right ends (same_input (input_of form whole) found given all of) (stated-linked form whole given of) ordered is filled

made-determined : (number lines : ℕ) (written : Bytes) (book right : Book) (ends : ℕ) (given : Input)
    → ((found : Input) × (◌≡◌ {A = Result Input InputFault} (Ok (input.Capture (generated_capture number lines))) (Ok found)) × Filled (WroteAll written ends) (Generate number lines) found book)
    → given ≡ input.Capture (generated_capture number lines) → IsInOrder given → IsRightFor given right → IsOne written (Generate number lines) given book right ends
made-determined number lines written book right ends given (found, parts, filled) of ordered is =
    let made : input.Capture (generated_capture number lines) ≡ found = same_input (Ok (input.Capture (generated_capture number lines))) (input.Capture (generated_capture number lines)) found refl parts in
    let linked : IsLinked given = subst IsLinked (sym of) (phases-linked (number % 2147483648) lines) in
    filled-determined written (Generate number lines) found given book right ends (sym made ∙ sym of) linked ordered is filled

command-determined : (command : Command) (read written : Bytes) (book right : Book) (ends : ℕ) (given : Input) → FilledBy (WroteAll written ends) command read book
    → IsInputOf command read.before given → IsInOrder given → IsRightFor given right → IsOne written command given book right ends
command-determined Run read written book right ends given done of ordered is = read-determined form.Lines Run read written book right ends given done of ordered is
command-determined (Generate number lines) read written book right ends given done of ordered is = made-determined number lines written book right ends given done.1 of ordered is
command-determined Stream read written book right ends given done of ordered is = read-determined form.Stream Stream read written book right ends given done of ordered is
command-determined Frames read written book right ends given done of ordered is = read-determined form.Stream Frames read written book right ends given done of ordered is
command-determined Chain read written book right ends given done of ordered is = read-determined form.Steps Chain read written book right ends given done of ordered is
command-determined Audit read written book right ends given done of ordered is = read-determined form.Audited Audit read written book right ends given done of ordered is

pub done-determined : (stated : Option Command) (read written : Bytes) (book : Book) (ends : ℕ) → IsDone stated read written book ends → IsDetermined stated read written book ends
done-determined stated read written book ends (command, e, done) other given right is of ordered r =
    let same : command ≡ other = same_Some command other (sym e ∙ is) in
    command-determined other read written book right ends given (subst (λ c. FilledBy (WroteAll written ends) c read book) same done) of ordered r
