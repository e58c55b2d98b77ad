-- What is read of a source, and what it states.
use Rattle.std.specs.Prelude.{◌≡◌, ◌⊎◌, ℕ, ◌+◌, ◌^◌, ◌<◌, ◌≤◌, codes, List, length, Option, Ok, Err}
use Rattle.std.specs.declared.result.Result.{Result}
use Rattle.std.specs.Io.KnownBytes.{Consumes, IsAtEnd}
use Rattle.relay_base.specs.Streams.{TookMore}
use Rattle.relay_base.specs.declared.limits.TheConstants.{MOST_BYTES}
use Rattle.node_head.specs.declared.fault.HeadFault.{HeadFault}
use Rattle.node_head.specs.Ranges.{IsHead}
use Rattle.capture_form.specs.Capture.{capture_of}
use Rattle.capture_form.specs.declared.fault.LineFault.{LineFault}
use Rattle.capture_form.specs.declared.fault.Limit.{Limit}
use Rattle.capture_form.specs.declared.fault.CaptureFault.TheVariants as refused
use Rattle.capture_form.specs.declared.capture.Capture.{Capture}
use Rattle.capture_form.specs.declared.steps.TheConstants.{MOST_LINES}
use Rattle.capture_form.specs.Events.{all_events, IsStamped}
use Rattle.capture_input.specs.Audit.{audit_of}
use Rattle.capture_input.specs.declared.audit_fault.AuditFault.{AuditFault}
use Rattle.capture_input.specs.declared.audit_fault.AuditFault.TheVariants as audit
use Rattle.capture_input.specs.declared.reading.AuditInput.{AuditInput}
use Rattle.chain_form.specs.Chain.{IsInput, chain_of}
use Rattle.chain_form.specs.declared.fault.ChainFault.{ChainFault}
use Rattle.chain_form.specs.declared.fault.ChainFault.TheVariants as chain
use Rattle.chain_form.specs.declared.reading.ChainInput.{ChainInput}
use Rattle.m3ua_port.specs.declared.fault.PortFault.{PortFault}
use Rattle.m3ua_capture.specs.Note.{stream_note}
use Rattle.m3ua_capture.specs.Streams.{at_capture, stream_capture}
use Rattle.m3ua_capture.specs.declared.fault.StreamFault.{StreamFault}
use Rattle.m3ua_capture.specs.declared.fault.StreamFault.TheVariants as stream
use Rattle.capture_input.specs.declared.fault.InputFault.{InputFault}
use Rattle.capture_input.specs.declared.fault.InputFault.TheVariants as fault
use Rattle.capture_input.specs.declared.input.Form.{Form}
use Rattle.capture_input.specs.declared.input.Form.TheVariants.{Lines, Stream, Steps, Audited}
use Rattle.capture_input.specs.declared.input.Input.{Input}
use Rattle.capture_input.specs.declared.input.Input.TheVariants as input

-- The bytes that a device tells before a call and after it: those that a source still has, or those that a sink holds.
pub record Bytes : Type 0 where
  pub before : Option (List ℕ)
  pub after : Option (List ℕ)

abbrev pub bytes : Option (List ℕ) → Option (List ℕ) → Bytes
bytes before after = record { before = before; after = after }

-- a capture, or its first fault
abbrev pub of_capture : Result Capture StreamFault → Result Input InputFault
of_capture (Ok capture) = Ok (input.Capture capture)
of_capture (Err f) = Err (fault.Stream f)

-- steps of nodes in a row, or their first fault
abbrev pub chain_refusal : ChainFault → StreamFault
chain_refusal (chain.Line f) = stream.Capture (refused.Line f)
chain_refusal (chain.TooLong l) = stream.Capture (refused.TooLong l)
chain_refusal chain.Memory = stream.Capture refused.Memory

abbrev pub of_chain : Result ChainInput ChainFault → Result Input InputFault
of_chain (Ok steps) = Ok (input.Chain steps)
of_chain (Err f) = Err (fault.Stream (chain_refusal f))

-- a capture with the text of a journal behind it, or their first fault
abbrev pub audit_refusal : AuditFault → InputFault
audit_refusal (audit.Capture f) = fault.Stream (stream.Capture f)
audit_refusal audit.NoJournal = fault.NoJournal

abbrev pub of_audit : Result AuditInput AuditFault → Result Input InputFault
of_audit (Ok audited) = Ok (input.Audited audited)
of_audit (Err f) = Err (audit_refusal f)

-- what an input states, or its first fault
abbrev pub input_of : Form → List ℕ → Result Input InputFault
input_of Lines came = of_capture (at_capture (capture_of came))
input_of Stream came = of_capture (stream_capture came)
input_of Steps came = of_chain (chain_of came)
input_of Audited came = of_audit (audit_of came)

-- A capture that can be run: its head is one, its events have their stamps, and they are not too many.
pub record IsRunnable (capture : Capture) : Type 0 where
  pub head : IsHead capture.head
  pub stamped : IsStamped capture.head capture.phases
  pub few : length (all_events capture.phases) ≤ MOST_LINES

-- And one beside which a text can be judged.
pub record IsAuditable (audited : AuditInput) : Type 0 where
  pub capture : IsRunnable audited.capture
  pub short : length audited.text + 1 < 2 ^ 32

abbrev pub IsReady : Input → Type 0
IsReady (input.Capture capture) = IsRunnable capture
IsReady (input.Chain steps) = IsInput steps
IsReady (input.Audited audited) = IsAuditable audited

-- the source was read to its end, and this is said of what its bytes state
abbrev pub ReadAs : Form → Bytes → (Result Input InputFault → Type 0) → Type 0
ReadAs form read P = (came : List ℕ) × Consumes read.before read.after came × IsAtEnd read.after × P (input_of form came)

-- one byte more than an input may have was taken
abbrev pub ReadTooMuch : Bytes → Type 0
ReadTooMuch read = TookMore read.before read.after MOST_BYTES

-- ---- the first fault of an input, and what is said of its note

-- what is told of a fault
abbrev pub input_note : InputFault → List ℕ
input_note (fault.Stream f) = stream_note f
input_note fault.NoJournal = codes "no journal\n"

-- the first fault is this one, of whose note this is said
abbrev pub IsFault : (List ℕ → Type 0) → Result Input InputFault → InputFault → Type 0
IsFault Said parts f = (parts ≡ Err f) × Said (input_note f)

-- it is of the head; of a line; a passed limit; of a message; or no text of a journal is there
abbrev pub IsHeadFault : (List ℕ → Type 0) → Result Input InputFault → Type 0
IsHeadFault Said parts = (f : HeadFault) × IsFault Said parts (fault.Stream (stream.Capture (refused.Head f)))

abbrev pub IsLineFault : (List ℕ → Type 0) → Result Input InputFault → Type 0
IsLineFault Said parts = (f : LineFault) × IsFault Said parts (fault.Stream (stream.Capture (refused.Line f)))

abbrev pub IsTooLong : (List ℕ → Type 0) → Result Input InputFault → Type 0
IsTooLong Said parts = (l : Limit) × IsFault Said parts (fault.Stream (stream.Capture (refused.TooLong l)))

abbrev pub IsPortFault : (List ℕ → Type 0) → Result Input InputFault → Type 0
IsPortFault Said parts = (f : PortFault) × IsFault Said parts (fault.Stream (stream.Port f))

abbrev pub HasNoJournal : (List ℕ → Type 0) → Result Input InputFault → Type 0
HasNoJournal Said parts = IsFault Said parts fault.NoJournal

-- too many bytes came, or they pass another limit
abbrev pub PassesLimit : Form → Bytes → (List ℕ → Type 0) → Type 0
PassesLimit form read Said = (ReadTooMuch read × Said (codes "too long bytes\n")) ⊎ ReadAs form read (IsTooLong Said)

-- ---- the status of bytes that are told

-- the status that a refused input ends with
abbrev pub refusal_status : InputFault → ℕ
refusal_status (fault.Stream (stream.Capture (refused.Head f))) = 2
refusal_status (fault.Stream (stream.Capture (refused.Line f))) = 3
refusal_status (fault.Stream (stream.Capture (refused.TooLong l))) = 4
refusal_status (fault.Stream (stream.Capture refused.Memory)) = 7
refusal_status (fault.Stream (stream.Port f)) = 8
refusal_status fault.NoJournal = 10

-- the status is that of what bytes state: of an input one that it may end with, or that of their fault
abbrev pub IsStatusOf : (Input → ℕ → Type 0) → Result Input InputFault → ℕ → Type 0
IsStatusOf Ends (Ok given) status = Ends given status
IsStatusOf Ends (Err f) status = status ≡ refusal_status f

-- the status is that of the bytes, or memory ran out
abbrev pub IsDue : (Input → ℕ → Type 0) → Form → ℕ → List ℕ → Type 0
IsDue Ends form status came = IsStatusOf Ends (input_of form came) status ⊎ (status ≡ 7)
