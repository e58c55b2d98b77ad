-- Lemmas on why a command stopped, by its status.
use Rattle.std.proofs.Common.{◌≡◌, ◌≢◌, ◌⊎◌, ◌∙◌, ℕ, ◌≤◌, List, [], Some, None, Ok, Err, IfSome, sym, ap, subst, refl, inl, inr, arith}
use Rattle.std.specs.Prelude.{Option}
use Rattle.std.specs.declared.result.Result.{Result}
use Rattle.std.proofs.lemmas.Option.{same_Some}
use Rattle.journal_text.specs.declared.book.Book.{Book}
use Rattle.capture_form.specs.declared.fault.LineFault.{LineFault}
use Rattle.capture_form.specs.declared.fault.CaptureFault.TheVariants as refused
use Rattle.m3ua_capture.specs.declared.fault.StreamFault.TheVariants as stream
use Rattle.capture_input.specs.declared.fault.InputFault.{InputFault}
use Rattle.capture_input.specs.declared.fault.InputFault.TheVariants as fault
use Rattle.capture_form.specs.declared.capture.Capture.{Capture}
use Rattle.capture_generator.specs.Generator.{generated_capture}
use Rattle.m3ua_port.specs.declared.fault.PortFault.{PortFault}
use Rattle.capture_input.specs.declared.input.Form.{Form}
use Rattle.capture_input.specs.declared.input.Form.TheVariants as form
use Rattle.capture_input.specs.declared.input.Input.{Input}
use Rattle.capture_input.specs.declared.stop.Stop.{Stop}
use Rattle.capture_input.specs.declared.stop.Stop.TheVariants as stop
use Rattle.capture_input.specs.declared.input.Input.TheVariants as input
use Rattle.capture_input.specs.Input.{Bytes, input_of, ReadAs, PassesLimit, IsHeadFault, IsPortFault, HasNoJournal, IsDue}
use Rattle.capture_input.specs.Stops.{NotedAs, note_of, status_of}
use Rattle.capture_input.proofs.StatusLemmas.{more-due, memory-due, read-due, fault-due, no-line, no-port, no-step-port, no-audit-port, audited-alone}
use Rattle.command_words.specs.declared.command.Command.{Command}
use Rattle.command_words.specs.declared.command.Command.TheVariants.{Run, Generate, Stream, Frames, Chain, Audit}
use Rattle.relay_call.specs.Outcome.{Device, HasFailed, form_read, ReadBy, WroteAll, Says, Notes, Untouched, IsJudgement, IsOutput, Filled, FilledBy, IsDone, IsDonePartly, EndsWith, IsEnding, HasLineFault, plain_note, IsServed}
use Rattle.relay_call.specs.Inner.Stops.{Stopped}
use Rattle.relay_call.proofs.OutcomeLemmas.{done-determined}

-- ---- a fault of a line, which all have but a stream

line-found : (form : Form) (stated : Option Command) (read noted : Bytes) (before after : ℕ) (f : LineFault) (note : List ℕ) → form_read stated ≡ Some form
    → NotedAs form read (fault.Stream (stream.Capture (refused.Line f))) note → Says noted before after note → HasLineFault stated read (Says noted before after)
line-found form.Lines stated read noted before after f note reads ((came, consumed, ended, is), same) told = inl (reads, (came, consumed, ended, (f, (is, subst (Says noted before after) same told))))
line-found form.Steps stated read noted before after f note reads ((came, consumed, ended, is), same) told =
    inr (inl (reads, (came, consumed, ended, (f, (is, subst (Says noted before after) same told)))))
line-found form.Audited stated read noted before after f note reads ((came, consumed, ended, is), same) told =
    inr (inr (reads, (came, consumed, ended, (f, (is, subst (Says noted before after) same told)))))
line-found form.Stream stated read noted before after f note reads ((came, consumed, ended, is), same) told = absurd (no-line came f is)

line-of : (stated : Option Command) (read written noted : Bytes) (before after : ℕ) (book : Book) (why : Stop) → Stopped stated read written book why
    → Says noted before after (note_of why) → status_of why ≡ 3 → HasLineFault stated read (Says noted before after)
line-of stated read written noted before after book stop.Usage s told e = absurd (cc)
line-of stated read written noted before after book (stop.Refused (fault.Stream (stream.Capture (refused.Head f))) note) s told e = absurd (cc)
line-of stated read written noted before after book (stop.Refused (fault.Stream (stream.Capture (refused.Line f))) note) ((form, reads, said), untouched) told e = line-found form stated read noted before after f note reads said told
line-of stated read written noted before after book (stop.Refused (fault.Stream (stream.Capture (refused.TooLong l))) note) s told e = absurd (cc)
line-of stated read written noted before after book (stop.Refused (fault.Stream (stream.Capture refused.Memory)) note) s told e = absurd (cc)
line-of stated read written noted before after book (stop.Refused (fault.Stream (stream.Port f)) note) s told e = absurd (cc)
line-of stated read written noted before after book (stop.Refused fault.NoJournal note) s told e = absurd (cc)
line-of stated read written noted before after book stop.Bytes s told e = absurd (cc)
line-of stated read written noted before after book stop.ReadFault s told e = absurd (cc)
line-of stated read written noted before after book stop.WriteFault s told e = absurd (cc)
line-of stated read written noted before after book stop.Memory s told e = absurd (cc)
line-of stated read written noted before after book stop.Illegal s told e = absurd (cc)

-- ---- a fault of the head, and one of a message, which a stream alone has

abbrev IsOfHead : Option Command → Bytes → (List ℕ → Type 0) → Type 0
IsOfHead stated read Said = (form : Form) × ReadBy form stated read (IsHeadFault Said)

head-of : (stated : Option Command) (read written noted : Bytes) (before after : ℕ) (book : Book) (why : Stop) → Stopped stated read written book why
    → Says noted before after (note_of why) → status_of why ≡ 2 → IsOfHead stated read (Says noted before after)
head-of stated read written noted before after book stop.Usage s told e = absurd (cc)
head-of stated read written noted before after book (stop.Refused (fault.Stream (stream.Capture (refused.Head f))) note) ((form, reads, ((came, consumed, ended, is), same)), untouched) told e =
    (form, (reads, (came, consumed, ended, (f, (is, subst (Says noted before after) same told)))))
head-of stated read written noted before after book (stop.Refused (fault.Stream (stream.Capture (refused.Line f))) note) s told e = absurd (cc)
head-of stated read written noted before after book (stop.Refused (fault.Stream (stream.Capture (refused.TooLong l))) note) s told e = absurd (cc)
head-of stated read written noted before after book (stop.Refused (fault.Stream (stream.Capture refused.Memory)) note) s told e = absurd (cc)
head-of stated read written noted before after book (stop.Refused (fault.Stream (stream.Port f)) note) s told e = absurd (cc)
head-of stated read written noted before after book (stop.Refused fault.NoJournal note) s told e = absurd (cc)
head-of stated read written noted before after book stop.Bytes s told e = absurd (cc)
head-of stated read written noted before after book stop.ReadFault s told e = absurd (cc)
head-of stated read written noted before after book stop.WriteFault s told e = absurd (cc)
head-of stated read written noted before after book stop.Memory s told e = absurd (cc)
head-of stated read written noted before after book stop.Illegal s told e = absurd (cc)

message-found : (shape : Form) (stated : Option Command) (read noted : Bytes) (before after : ℕ) (f : PortFault) (note : List ℕ) → form_read stated ≡ Some shape
    → NotedAs shape read (fault.Stream (stream.Port f)) note → Says noted before after note → ReadBy form.Stream stated read (IsPortFault (Says noted before after))
message-found form.Stream stated read noted before after f note reads ((came, consumed, ended, is), same) told = (reads, (came, consumed, ended, (f, (is, subst (Says noted before after) same told))))
message-found form.Lines stated read noted before after f note reads ((came, consumed, ended, is), same) told = absurd (no-port came f is)
message-found form.Steps stated read noted before after f note reads ((came, consumed, ended, is), same) told = absurd (no-step-port came f is)
message-found form.Audited stated read noted before after f note reads ((came, consumed, ended, is), same) told = absurd (no-audit-port came f is)

message-of : (stated : Option Command) (read written noted : Bytes) (before after : ℕ) (book : Book) (why : Stop) → Stopped stated read written book why
    → Says noted before after (note_of why) → status_of why ≡ 8 → ReadBy form.Stream stated read (IsPortFault (Says noted before after))
message-of stated read written noted before after book stop.Usage s told e = absurd (cc)
message-of stated read written noted before after book (stop.Refused (fault.Stream (stream.Capture (refused.Head f))) note) s told e = absurd (cc)
message-of stated read written noted before after book (stop.Refused (fault.Stream (stream.Capture (refused.Line f))) note) s told e = absurd (cc)
message-of stated read written noted before after book (stop.Refused (fault.Stream (stream.Capture (refused.TooLong l))) note) s told e = absurd (cc)
message-of stated read written noted before after book (stop.Refused (fault.Stream (stream.Capture refused.Memory)) note) s told e = absurd (cc)
message-of stated read written noted before after book (stop.Refused (fault.Stream (stream.Port f)) note) ((form, reads, said), untouched) told e = message-found form stated read noted before after f note reads said told
message-of stated read written noted before after book (stop.Refused fault.NoJournal note) s told e = absurd (cc)
message-of stated read written noted before after book stop.Bytes s told e = absurd (cc)
message-of stated read written noted before after book stop.ReadFault s told e = absurd (cc)
message-of stated read written noted before after book stop.WriteFault s told e = absurd (cc)
message-of stated read written noted before after book stop.Memory s told e = absurd (cc)
message-of stated read written noted before after book stop.Illegal s told e = absurd (cc)

-- ---- no text of a journal

-- a journal lacks in what is read for an audit alone
journal-lacks : (shape : Form) (stated : Option Command) (read noted : Bytes) (before after : ℕ) (note : List ℕ) → form_read stated ≡ Some shape → NotedAs shape read fault.NoJournal note
    → Says noted before after note → ReadBy form.Audited stated read (HasNoJournal (Says noted before after))
journal-lacks shape stated read noted before after note reads ((came, consumed, ended, is), same) told =
    let alone : shape ≡ form.Audited = audited-alone shape came is in (
      subst (λ f. form_read stated ≡ Some f) alone reads,
      (came, consumed, ended, (subst (λ f. input_of f came ≡ Err fault.NoJournal) alone is, subst (Says noted before after) same told)),
    )

journal-of : (stated : Option Command) (read written noted : Bytes) (before after : ℕ) (book : Book) (why : Stop) → Stopped stated read written book why
    → Says noted before after (note_of why) → status_of why ≡ 10 → ReadBy form.Audited stated read (HasNoJournal (Says noted before after))
journal-of stated read written noted before after book stop.Usage s told e = absurd (cc)
journal-of stated read written noted before after book (stop.Refused (fault.Stream (stream.Capture (refused.Head f))) note) s told e = absurd (cc)
journal-of stated read written noted before after book (stop.Refused (fault.Stream (stream.Capture (refused.Line f))) note) s told e = absurd (cc)
journal-of stated read written noted before after book (stop.Refused (fault.Stream (stream.Capture (refused.TooLong l))) note) s told e = absurd (cc)
journal-of stated read written noted before after book (stop.Refused (fault.Stream (stream.Capture refused.Memory)) note) s told e = absurd (cc)
journal-of stated read written noted before after book (stop.Refused (fault.Stream (stream.Port f)) note) s told e = absurd (cc)
journal-of stated read written noted before after book (stop.Refused fault.NoJournal note) ((form, reads, said), untouched) told e = journal-lacks form stated read noted before after note reads said told
journal-of stated read written noted before after book stop.Bytes s told e = absurd (cc)
journal-of stated read written noted before after book stop.ReadFault s told e = absurd (cc)
journal-of stated read written noted before after book stop.WriteFault s told e = absurd (cc)
journal-of stated read written noted before after book stop.Memory s told e = absurd (cc)
journal-of stated read written noted before after book stop.Illegal s told e = absurd (cc)

-- ---- a limit that is passed, that of the bytes or another

abbrev IsPassed : Option Command → Bytes → (List ℕ → Type 0) → Type 0
IsPassed stated read Said = (form : Form) × (form_read stated ≡ Some form) × PassesLimit form read Said

limit-of : (stated : Option Command) (read written noted : Bytes) (before after : ℕ) (book : Book) (why : Stop) → Stopped stated read written book why
    → Says noted before after (note_of why) → status_of why ≡ 4 → IsPassed stated read (Says noted before after)
limit-of stated read written noted before after book stop.Usage s told e = absurd (cc)
limit-of stated read written noted before after book (stop.Refused (fault.Stream (stream.Capture (refused.Head f))) note) s told e = absurd (cc)
limit-of stated read written noted before after book (stop.Refused (fault.Stream (stream.Capture (refused.Line f))) note) s told e = absurd (cc)
limit-of stated read written noted before after book (stop.Refused (fault.Stream (stream.Capture (refused.TooLong l))) note) ((form, reads, ((came, consumed, ended, is), same)), untouched) told e =
    (form, reads, inr (came, consumed, ended, (l, (is, subst (Says noted before after) same told))))
limit-of stated read written noted before after book (stop.Refused (fault.Stream (stream.Capture refused.Memory)) note) s told e = absurd (cc)
limit-of stated read written noted before after book (stop.Refused (fault.Stream (stream.Port f)) note) s told e = absurd (cc)
limit-of stated read written noted before after book (stop.Refused fault.NoJournal note) s told e = absurd (cc)
limit-of stated read written noted before after book stop.Bytes ((form, reads, more), untouched) told e = (form, reads, inl (more, told))
limit-of stated read written noted before after book stop.ReadFault s told e = absurd (cc)
limit-of stated read written noted before after book stop.WriteFault s told e = absurd (cc)
limit-of stated read written noted before after book stop.Memory s told e = absurd (cc)
limit-of stated read written noted before after book stop.Illegal s told e = absurd (cc)

-- ---- what a command ends with that was done

-- `gen` reads no input
reads-none : (number lines : ℕ) (form : Form) → form_read (Some (Generate number lines)) ≡ Some form → ⊥
reads-none number lines form e = cc

same-given : (one other : Input) → ◌≡◌ {A = Result Input InputFault} (Ok one) (Ok other) → one ≡ other
same-given one other e = cc

-- an output of a capture ends with 0
capture-ends : (command : Command) (given : Input) (capture : Capture) (book : Book) (status : ℕ) (text : List ℕ) → given ≡ input.Capture capture → IsOutput command given book status text → status ≡ 0
capture-ends command given capture book status text is output = (subst (λ g. IsOutput command g book status text) is output).0

output-ends : (command : Command) (given : Input) (book : Book) (status ends : ℕ) (text : List ℕ) → status ≡ ends → IsOutput command given book status text → EndsWith given ends
output-ends command (input.Capture capture) book status ends text same output = sym same ∙ output.0
output-ends command (input.Chain steps) book status ends text same output = sym same ∙ output.0
output-ends command (input.Audited audited) book status ends text same output = (text, subst (λ n. IsJudgement audited n text) same output)

-- the status of an input that was read and served
given-due : (form other : Form) (read written : Bytes) (command : Command) (book : Book) (ends : ℕ) → other ≡ form
    → ReadAs other read (λ parts. (given : Input) × (parts ≡ Ok given) × Filled (WroteAll written ends) command given book) → IfSome read.before (IsDue EndsWith form ends)
given-due form other read written command book ends same (came, consumed, ended, (given, parts, (right, status, text, output, (equal, wrote)))) =
    subst (λ f. IfSome read.before (IsDue EndsWith f ends)) same
    (read-due EndsWith other read (Ok given) ends (output-ends command given book status ends text equal output) (came, consumed, ended, parts))

done-due : (shape : Form) (stated : Option Command) (read written : Bytes) (book : Book) (ends : ℕ) → form_read stated ≡ Some shape → IsDone stated read written book ends
    → IfSome read.before (IsDue EndsWith shape ends)
done-due shape stated read written book ends reads (command, is, filled) = by command (subst (λ s. form_read s ≡ Some shape) is reads) filled
  where
    by : (command : Command) → form_read (Some command) ≡ Some shape → FilledBy (WroteAll written ends) command read book → IfSome read.before (IsDue EndsWith shape ends)
    by Run e f = given-due shape form.Lines read written Run book ends (same_Some form.Lines shape e) f
    by (Generate number lines) e f = absurd (reads-none number lines shape e)
    by Stream e f = given-due shape form.Stream read written Stream book ends (same_Some form.Stream shape e) f
    by Frames e f = given-due shape form.Stream read written Frames book ends (same_Some form.Stream shape e) f
    by Chain e f = given-due shape form.Steps read written Chain book ends (same_Some form.Steps shape e) f
    by Audit e f = given-due shape form.Audited read written Audit book ends (same_Some form.Audited shape e) f

-- `gen` ends with 0
made-ends : (stated : Option Command) (read written : Bytes) (book : Book) (number lines ends : ℕ) → stated ≡ Some (Generate number lines) → IsDone stated read written book ends → ends ≡ 0
made-ends stated read written book number lines ends is (command, e, filled) =
    let same : command ≡ Generate number lines = same_Some command (Generate number lines) (sym e ∙ is) in
    by (subst (λ c. FilledBy (WroteAll written ends) c read book) same filled)
  where
    by : FilledBy (WroteAll written ends) (Generate number lines) read book → ends ≡ 0
    by (kept, (given, parts, (right, status, text, output, (equal, wrote)))) =
        let made : given ≡ input.Capture (generated_capture number lines) = sym (same-given (input.Capture (generated_capture number lines)) given parts) in
        sym equal ∙ capture-ends (Generate number lines) given (generated_capture number lines) book status text made output

-- ---- the status is that of the bytes, where no device failed

stop-due : (form : Form) (stated : Option Command) (read written : Bytes) (book : Book) (why : Stop) → Stopped stated read written book why
    → form_read stated ≡ Some form → (why ≡ stop.ReadFault → ⊥) → (why ≡ stop.WriteFault → ⊥) → IfSome read.before (IsDue EndsWith form (status_of why))
stop-due form stated read written book stop.Usage (none, untouched) reads r w = absurd (cc)
stop-due form stated read written book (stop.Refused f note) ((other, is, said), untouched) reads r w =
    let same : other ≡ form = same_Some other form (sym is ∙ reads) in
    fault-due EndsWith form read f (subst (λ shape. ReadAs shape read (λ parts. parts ≡ Err f)) same said.0)
stop-due form stated read written book stop.Bytes ((other, is, more), untouched) reads r w = more-due EndsWith form read.before read.after more
stop-due form stated read written book stop.ReadFault s reads r w = absurd (r refl)
stop-due form stated read written book stop.WriteFault s reads r w = absurd (w refl)
stop-due form stated read written book stop.Memory s reads r w = memory-due EndsWith form read.before
stop-due form stated read written book stop.Illegal s reads r w = done-due form stated read written book 9 reads s

-- ---- the other statuses

-- no run stops with status 0
is-stopped : (why : Stop) → status_of why ≡ 0 → ⊥
is-stopped stop.Usage e = absurd (cc)
is-stopped (stop.Refused (fault.Stream (stream.Capture (refused.Head f))) note) e = absurd (cc)
is-stopped (stop.Refused (fault.Stream (stream.Capture (refused.Line f))) note) e = absurd (cc)
is-stopped (stop.Refused (fault.Stream (stream.Capture (refused.TooLong l))) note) e = absurd (cc)
is-stopped (stop.Refused (fault.Stream (stream.Capture refused.Memory)) note) e = absurd (cc)
is-stopped (stop.Refused (fault.Stream (stream.Port f)) note) e = absurd (cc)
is-stopped (stop.Refused fault.NoJournal note) e = absurd (cc)
is-stopped stop.Bytes e = absurd (cc)
is-stopped stop.ReadFault e = absurd (cc)
is-stopped stop.WriteFault e = absurd (cc)
is-stopped stop.Memory e = absurd (cc)
is-stopped stop.Illegal e = absurd (cc)

illegal-of : (why : Stop) → status_of why ≡ 9 → why ≡ stop.Illegal
illegal-of stop.Usage e = absurd (cc)
illegal-of (stop.Refused (fault.Stream (stream.Capture (refused.Head f))) note) e = absurd (cc)
illegal-of (stop.Refused (fault.Stream (stream.Capture (refused.Line f))) note) e = absurd (cc)
illegal-of (stop.Refused (fault.Stream (stream.Capture (refused.TooLong l))) note) e = absurd (cc)
illegal-of (stop.Refused (fault.Stream (stream.Capture refused.Memory)) note) e = absurd (cc)
illegal-of (stop.Refused (fault.Stream (stream.Port f)) note) e = absurd (cc)
illegal-of (stop.Refused fault.NoJournal note) e = absurd (cc)
illegal-of stop.Bytes e = absurd (cc)
illegal-of stop.ReadFault e = absurd (cc)
illegal-of stop.WriteFault e = absurd (cc)
illegal-of stop.Memory e = absurd (cc)
illegal-of stop.Illegal e = refl

-- and one that ends stops for an illegal text
ending-of : (stated : Option Command) (read written : Bytes) (book : Book) (why : Stop) → Stopped stated read written book why → IsEnding (status_of why)
    → IsDone stated read written book (status_of why)
ending-of stated read written book why s (inl zero) = absurd (is-stopped why zero)
ending-of stated read written book why s (inr nine) =
    let illegal = illegal-of why nine in
    subst (IsDone stated read written book) (sym nine) (subst (Stopped stated read written book) illegal s)

read-fault-of : (why : Stop) → status_of why ≡ 5 → why ≡ stop.ReadFault
read-fault-of stop.Usage e = absurd (cc)
read-fault-of (stop.Refused (fault.Stream (stream.Capture (refused.Head f))) note) e = absurd (cc)
read-fault-of (stop.Refused (fault.Stream (stream.Capture (refused.Line f))) note) e = absurd (cc)
read-fault-of (stop.Refused (fault.Stream (stream.Capture (refused.TooLong l))) note) e = absurd (cc)
read-fault-of (stop.Refused (fault.Stream (stream.Capture refused.Memory)) note) e = absurd (cc)
read-fault-of (stop.Refused (fault.Stream (stream.Port f)) note) e = absurd (cc)
read-fault-of (stop.Refused fault.NoJournal note) e = absurd (cc)
read-fault-of stop.Bytes e = absurd (cc)
read-fault-of stop.ReadFault e = refl
read-fault-of stop.WriteFault e = absurd (cc)
read-fault-of stop.Memory e = absurd (cc)
read-fault-of stop.Illegal e = absurd (cc)

write-fault-of : (why : Stop) → status_of why ≡ 6 → why ≡ stop.WriteFault
write-fault-of stop.Usage e = absurd (cc)
write-fault-of (stop.Refused (fault.Stream (stream.Capture (refused.Head f))) note) e = absurd (cc)
write-fault-of (stop.Refused (fault.Stream (stream.Capture (refused.Line f))) note) e = absurd (cc)
write-fault-of (stop.Refused (fault.Stream (stream.Capture (refused.TooLong l))) note) e = absurd (cc)
write-fault-of (stop.Refused (fault.Stream (stream.Capture refused.Memory)) note) e = absurd (cc)
write-fault-of (stop.Refused (fault.Stream (stream.Port f)) note) e = absurd (cc)
write-fault-of (stop.Refused fault.NoJournal note) e = absurd (cc)
write-fault-of stop.Bytes e = absurd (cc)
write-fault-of stop.ReadFault e = absurd (cc)
write-fault-of stop.WriteFault e = refl
write-fault-of stop.Memory e = absurd (cc)
write-fault-of stop.Illegal e = absurd (cc)

usage-of : (stated : Option Command) (read written : Bytes) (book : Book) (why : Stop) → Stopped stated read written book why → status_of why ≡ 1 → stated ≡ None
usage-of stated read written book stop.Usage s e = s.0
usage-of stated read written book (stop.Refused (fault.Stream (stream.Capture (refused.Head f))) note) s e = absurd (cc)
usage-of stated read written book (stop.Refused (fault.Stream (stream.Capture (refused.Line f))) note) s e = absurd (cc)
usage-of stated read written book (stop.Refused (fault.Stream (stream.Capture (refused.TooLong l))) note) s e = absurd (cc)
usage-of stated read written book (stop.Refused (fault.Stream (stream.Capture refused.Memory)) note) s e = absurd (cc)
usage-of stated read written book (stop.Refused (fault.Stream (stream.Port f)) note) s e = absurd (cc)
usage-of stated read written book (stop.Refused fault.NoJournal note) s e = absurd (cc)
usage-of stated read written book stop.Bytes s e = absurd (cc)
usage-of stated read written book stop.ReadFault s e = absurd (cc)
usage-of stated read written book stop.WriteFault s e = absurd (cc)
usage-of stated read written book stop.Memory s e = absurd (cc)
usage-of stated read written book stop.Illegal s e = absurd (cc)

untouched-of : (stated : Option Command) (read written : Bytes) (book : Book) (why : Stop) → Stopped stated read written book why → (IsEnding (status_of why) → ⊥)
    → status_of why ≢ 6 → status_of why ≢ 7
    → Untouched written book
untouched-of stated read written book stop.Usage s ending six seven = s.1
untouched-of stated read written book (stop.Refused f note) s ending six seven = s.1
untouched-of stated read written book stop.Bytes s ending six seven = s.1
untouched-of stated read written book stop.ReadFault s ending six seven = s.1
untouched-of stated read written book stop.WriteFault s ending six seven = absurd (six refl)
untouched-of stated read written book stop.Memory s ending six seven = absurd (seven refl)
untouched-of stated read written book stop.Illegal s ending six seven = absurd (ending (inr refl))

partly-of : (stated : Option Command) (read written : Bytes) (book : Book) (why : Stop) → Stopped stated read written book why → status_of why ≡ 6
    → IsDonePartly stated read written book
partly-of stated read written book stop.Usage s e = absurd (cc)
partly-of stated read written book (stop.Refused (fault.Stream (stream.Capture (refused.Head f))) note) s e = absurd (cc)
partly-of stated read written book (stop.Refused (fault.Stream (stream.Capture (refused.Line f))) note) s e = absurd (cc)
partly-of stated read written book (stop.Refused (fault.Stream (stream.Capture (refused.TooLong l))) note) s e = absurd (cc)
partly-of stated read written book (stop.Refused (fault.Stream (stream.Capture refused.Memory)) note) s e = absurd (cc)
partly-of stated read written book (stop.Refused (fault.Stream (stream.Port f)) note) s e = absurd (cc)
partly-of stated read written book (stop.Refused fault.NoJournal note) s e = absurd (cc)
partly-of stated read written book stop.Bytes s e = absurd (cc)
partly-of stated read written book stop.ReadFault s e = absurd (cc)
partly-of stated read written book stop.WriteFault s e = s
partly-of stated read written book stop.Memory s e = absurd (cc)
partly-of stated read written book stop.Illegal s e = absurd (cc)

memory-of : (stated : Option Command) (read written : Bytes) (book : Book) (why : Stop) → Stopped stated read written book why → status_of why ≡ 7
    → Untouched written book ⊎ IsDonePartly stated read written book
memory-of stated read written book stop.Usage s e = absurd (cc)
memory-of stated read written book (stop.Refused (fault.Stream (stream.Capture (refused.Head f))) note) s e = absurd (cc)
memory-of stated read written book (stop.Refused (fault.Stream (stream.Capture (refused.Line f))) note) s e = absurd (cc)
memory-of stated read written book (stop.Refused (fault.Stream (stream.Capture (refused.TooLong l))) note) s e = absurd (cc)
memory-of stated read written book (stop.Refused (fault.Stream (stream.Capture refused.Memory)) note) s e = inl s.1
memory-of stated read written book (stop.Refused (fault.Stream (stream.Port f)) note) s e = absurd (cc)
memory-of stated read written book (stop.Refused fault.NoJournal note) s e = absurd (cc)
memory-of stated read written book stop.Bytes s e = absurd (cc)
memory-of stated read written book stop.ReadFault s e = absurd (cc)
memory-of stated read written book stop.WriteFault s e = absurd (cc)
memory-of stated read written book stop.Memory s e = s
memory-of stated read written book stop.Illegal s e = absurd (cc)

-- ---- what `notes` is told

plain-of : (stated : Option Command) (read written : Bytes) (book : Book) (says : List ℕ → Type 0) (why : Stop) → Stopped stated read written book why → says (note_of why)
    → IfSome (plain_note (status_of why)) says
plain-of stated read written book says stop.Usage s told = told
plain-of stated read written book says (stop.Refused (fault.Stream (stream.Capture (refused.Head f))) note) s told = tt
plain-of stated read written book says (stop.Refused (fault.Stream (stream.Capture (refused.Line f))) note) s told = tt
plain-of stated read written book says (stop.Refused (fault.Stream (stream.Capture (refused.TooLong l))) note) s told = tt
plain-of stated read written book says (stop.Refused (fault.Stream (stream.Capture refused.Memory)) note) ((form, is, (reads, same)), untouched) told = subst says same told
plain-of stated read written book says (stop.Refused (fault.Stream (stream.Port f)) note) s told = tt
plain-of stated read written book says (stop.Refused fault.NoJournal note) s told = tt
plain-of stated read written book says stop.Bytes s told = tt
plain-of stated read written book says stop.ReadFault s told = told
plain-of stated read written book says stop.WriteFault s told = told
plain-of stated read written book says stop.Memory s told = told
plain-of stated read written book says stop.Illegal s told = told

-- ---- what a call did

stop-known : (why : Stop) → status_of why ≤ 10
stop-known stop.Usage = omega arith
stop-known (stop.Refused (fault.Stream (stream.Capture (refused.Head f))) note) = omega arith
stop-known (stop.Refused (fault.Stream (stream.Capture (refused.Line f))) note) = omega arith
stop-known (stop.Refused (fault.Stream (stream.Capture (refused.TooLong l))) note) = omega arith
stop-known (stop.Refused (fault.Stream (stream.Capture refused.Memory)) note) = omega arith
stop-known (stop.Refused (fault.Stream (stream.Port f)) note) = omega arith
stop-known (stop.Refused fault.NoJournal note) = omega arith
stop-known stop.Bytes = omega arith
stop-known stop.ReadFault = omega arith
stop-known stop.WriteFault = omega arith
stop-known stop.Memory = omega arith
stop-known stop.Illegal = omega arith

pub same-stop : {T : Type 0} (one other : Stop) → ◌≡◌ {A = Result T Stop} (Err one) (Err other) → one ≡ other
same-stop one other e = cc

-- What is known of a call that stopped: for no words it is for them or for want of memory, `gen` reads nothing, and the devices failed where it says so.
pub record IsStop (stated : Option Command) (source out : Device) (book : Book) (why : Stop) : Type 0 where
  pub stopped : Stopped stated source.bytes out.bytes book why
  pub words : stated ≡ None → (why ≡ stop.Usage) ⊎ (why ≡ stop.Memory)
  pub made : (number lines : ℕ) → stated ≡ Some (Generate number lines) → source.bytes.after ≡ source.bytes.before
  pub read_fault : why ≡ stop.ReadFault → HasFailed source
  pub write_fault : why ≡ stop.WriteFault → HasFailed out
  pub source_kept : why ≢ stop.ReadFault → source.after ≡ source.before
  pub out_kept : why ≢ stop.WriteFault → out.after ≡ out.before

-- a command that reads nothing stops for a write or for want of memory
made-status : (stated : Option Command) (read written : Bytes) (book : Book) (number lines : ℕ) (why : Stop) → stated ≡ Some (Generate number lines) → Stopped stated read written book why
    → (status_of why ≡ 0) ⊎ (status_of why ≡ 6) ⊎ (status_of why ≡ 7)
made-status stated read written book number lines stop.Usage is (none, untouched) = absurd (let both : ◌≡◌ {A = Option Command} None (Some (Generate number lines)) = sym none ∙ is in cc)
made-status stated read written book number lines (stop.Refused f note) is ((form, reads, said), untouched) = absurd (reads-none number lines form (subst (λ s. form_read s ≡ Some form) is reads))
made-status stated read written book number lines stop.Bytes is ((form, reads, said), untouched) = absurd (reads-none number lines form (subst (λ s. form_read s ≡ Some form) is reads))
made-status stated read written book number lines stop.ReadFault is ((form, reads), untouched) = absurd (reads-none number lines form (subst (λ s. form_read s ≡ Some form) is reads))
made-status stated read written book number lines stop.WriteFault is s = inr (inl refl)
made-status stated read written book number lines stop.Memory is s = inr (inr refl)
made-status stated read written book number lines stop.Illegal is s = inl (made-ends stated read written book number lines 9 is s)

words-status : (why : Stop) → (why ≡ stop.Usage) ⊎ (why ≡ stop.Memory) → (status_of why ≡ 1) ⊎ (status_of why ≡ 7)
words-status why (inl is) = inl (ap status_of is)
words-status why (inr is) = inr (ap status_of is)

pub stop-served : (stated : Option Command) (source out notes : Device) (book : Book) (why : Stop) → IsStop stated source out book why → Notes notes (note_of why)
    → IsServed stated source out notes book (status_of why)
stop-served stated source out notes book why s told = record {
  done = ending-of stated source.bytes out.bytes book why s.stopped;
  determined = λ e. done-determined stated source.bytes out.bytes book (status_of why) (ending-of stated source.bytes out.bytes book why s.stopped e);
  usage = usage-of stated source.bytes out.bytes book why s.stopped;
  unstated = λ none. words-status why (s.words none);
  made = λ number lines is. (s.made number lines is, made-status stated source.bytes out.bytes book number lines why is s.stopped);
  head = head-of stated source.bytes out.bytes notes.bytes notes.before notes.after book why s.stopped told;
  line = line-of stated source.bytes out.bytes notes.bytes notes.before notes.after book why s.stopped told;
  too_long = limit-of stated source.bytes out.bytes notes.bytes notes.before notes.after book why s.stopped told;
  port = message-of stated source.bytes out.bytes notes.bytes notes.before notes.after book why s.stopped told;
  no_journal = journal-of stated source.bytes out.bytes notes.bytes notes.before notes.after book why s.stopped told;
  said = plain-of stated source.bytes out.bytes book (Notes notes) why s.stopped told;
  read_fault = λ e. s.read_fault (read-fault-of why e);
  write_fault = λ e. s.write_fault (write-fault-of why e);
  source_kept = λ other. s.source_kept (λ is. other (ap status_of is));
  out_kept = λ other. s.out_kept (λ is. other (ap status_of is));
  refused = untouched-of stated source.bytes out.bytes book why s.stopped;
  written = partly-of stated source.bytes out.bytes book why s.stopped;
  memory = memory-of stated source.bytes out.bytes book why s.stopped;
  known = stop-known why;
  complete = λ form reads read_well written_well.
      stop-due form stated source.bytes out.bytes book why s.stopped reads (λ is. read_well (s.read_fault is)) (λ is. written_well (s.write_fault is));
}

-- What is known of one that was done.
pub record IsEnd (stated : Option Command) (source out : Device) (book : Book) : Type 0 where
  pub done : IsDone stated source.bytes out.bytes book 0
  pub made : (number lines : ℕ) → stated ≡ Some (Generate number lines) → source.bytes.after ≡ source.bytes.before
  pub source_kept : source.after ≡ source.before
  pub out_kept : out.after ≡ out.before

pub end-served : (stated : Option Command) (source out notes : Device) (book : Book) → IsEnd stated source out book → Notes notes [] → IsServed stated source out notes book 0
end-served stated source out notes book d told = record {
  done = λ e. d.done;
  determined = λ e. done-determined stated source.bytes out.bytes book 0 d.done;
  usage = λ e. absurd (cc);
  unstated = λ none. absurd (let both : ◌≡◌ {A = Option Command} None (Some d.done.0) = sym none ∙ d.done.1 in cc);
  made = λ number lines is. (d.made number lines is, inl refl);
  head = λ e. absurd (cc);
  line = λ e. absurd (cc);
  too_long = λ e. absurd (cc);
  port = λ e. absurd (cc);
  no_journal = λ e. absurd (cc);
  said = told;
  read_fault = λ e. absurd (cc);
  write_fault = λ e. absurd (cc);
  source_kept = λ other. d.source_kept;
  out_kept = λ other. d.out_kept;
  refused = λ other. absurd (other (inl refl));
  written = λ e. absurd (cc);
  memory = λ e. absurd (cc);
  known = omega arith;
  complete = λ form reads read_well written_well. done-due form stated source.bytes out.bytes book 0 reads d.done;
}
