-- The status of an input, and what is known of what it states.
use Rattle.std.proofs.Common.{◌≡◌, ℕ, ◌+◌, ◌<◌, nat_lt, cond, Bool, true, false, List, length, take, Some, None, Ok, Err, IfSome, sym, ap, ◌∙◌, refl, inl, inr, subst, arith, length-append, lt-ltb}
use Rattle.std.specs.Prelude.{Option}
use Rattle.std.specs.declared.result.Result.{Result}
use Rattle.std.proofs.KnownBytes.{Consumes-whole}
use Rattle.relay_base.specs.declared.limits.TheConstants.{MOST_BYTES}
use Rattle.relay_base.specs.Giving.{◌>>=◌}
use Rattle.node_head.specs.declared.head.Head.{Head}
use Rattle.node_head.specs.declared.fault.HeadFault.{HeadFault}
use Rattle.m3ua_capture.specs.OneLink.{one_link_head}
use Rattle.capture_form.specs.Capture.{at_head, capture_of}
use Rattle.capture_form.specs.declared.steps.TheConstants.{MOST_LINES}
use Rattle.capture_form.specs.declared.fault.LineFault.{LineFault}
use Rattle.capture_form.specs.Links.{AreLinked}
use Rattle.capture_form.specs.declared.capture.Capture.{Capture}
use Rattle.capture_form.specs.declared.fault.CaptureFault.{CaptureFault}
use Rattle.capture_form.specs.declared.fault.CaptureFault.TheVariants as refused
use Rattle.capture_form.specs.declared.fault.Limit.TheVariants as limit
use Rattle.capture_form.proofs.LinkLemmas.{linked-capture}
use Rattle.chain_form.specs.Chain.{chain_of}
use Rattle.chain_form.specs.declared.fault.ChainFault.{ChainFault}
use Rattle.chain_form.specs.declared.fault.ChainFault.TheVariants as chain
use Rattle.chain_form.specs.declared.reading.ChainInput.{ChainInput}
use Rattle.m3ua_port.specs.declared.fault.PortFault.{PortFault}
use Rattle.m3ua_port.specs.Frames.{Frames, frames_of}
use Rattle.m3ua_capture.specs.Streams.{head_before, stream_start, stream_behind, at_capture, unless_faulty, limited, capture_with, capture_within, stream_capture}
use Rattle.m3ua_capture.specs.declared.fault.StreamFault.{StreamFault}
use Rattle.m3ua_capture.specs.declared.fault.StreamFault.TheVariants as stream
use Rattle.m3ua_capture.proofs.CaptureLemmas.{capture-given}
use Rattle.capture_input.specs.Audit.{audit_of}
use Rattle.capture_input.specs.declared.audit_fault.AuditFault.{AuditFault}
use Rattle.capture_input.specs.declared.audit_fault.AuditFault.TheVariants as audit
use Rattle.capture_input.specs.declared.reading.AuditInput.{AuditInput}
use Rattle.capture_input.specs.declared.fault.InputFault.{InputFault}
use Rattle.capture_input.specs.declared.fault.InputFault.TheVariants as fault
use Rattle.capture_input.specs.declared.input.Form.{Form}
use Rattle.capture_input.specs.declared.input.Form.TheVariants.{Lines, Stream, Steps, Audited}
use Rattle.capture_input.specs.declared.input.Input.{Input}
use Rattle.capture_input.specs.declared.input.Input.TheVariants as input
use Rattle.capture_input.specs.Input.{Bytes, bytes, of_capture, of_chain, of_audit, input_of, ReadAs, ReadTooMuch, refusal_status, IsStatusOf, IsDue}

-- bytes that pass the limit of an input state nothing
long-refused : (form : Form) (came : List ℕ) → MOST_BYTES < length came → input_of form came ≡ Err (fault.Stream (stream.Capture (refused.TooLong limit.Bytes)))
unfolding capture_of stream_capture chain_of audit_of
long-refused Lines came h = rw (lt-ltb MOST_BYTES (length came) h) refl
long-refused Stream came h = rw (lt-ltb MOST_BYTES (length came) h) refl
long-refused Steps came h = rw (lt-ltb MOST_BYTES (length came) h) refl
long-refused Audited came h = rw (lt-ltb MOST_BYTES (length came) h) refl

-- the status that an input ends with
abbrev Ending : Type 1
Ending = Input → ℕ → Type 0

due-where : (Ends : Ending) (form : Form) (parts : Result Input InputFault) (status : ℕ) (came : List ℕ) → input_of form came ≡ parts → IsStatusOf Ends parts status → IsDue Ends form status came
due-where Ends form parts status came e is = inl (subst (λ r. IsStatusOf Ends r status) (sym e) is)

pub more-due : (Ends : Ending) (form : Form) (left rest : Option (List ℕ)) → ReadTooMuch (bytes left rest) → IfSome left (IsDue Ends form 4)
more-due Ends form None rest h = tt
more-due Ends form (Some xs) None h = absurd h.1
more-due Ends form (Some xs) (Some ys) h =
    let size : length xs ≡ length h.0 + length ys = ap length h.1 ∙ length-append h.0 ys in
    let taken : length h.0 ≡ MOST_BYTES + 1 = h.2 in
    due-where Ends form (Err (fault.Stream (stream.Capture (refused.TooLong limit.Bytes)))) 4 xs (long-refused form xs (omega (arith, size, taken))) refl

pub memory-due : (Ends : Ending) (form : Form) (left : Option (List ℕ)) → IfSome left (IsDue Ends form 7)
memory-due Ends form None = tt
memory-due Ends form (Some xs) = inr refl

-- the status of an input that was read to its end
pub read-due : (Ends : Ending) (form : Form) (read : Bytes) (parts : Result Input InputFault) (status : ℕ) → IsStatusOf Ends parts status → ReadAs form read (λ r. r ≡ parts)
    → IfSome read.before (IsDue Ends form status)
read-due Ends form read parts status is (came, consumed, ended, e) =
    Consumes-whole read.before read.after came (IsDue Ends form status) consumed ended (due-where Ends form parts status came e is)

pub fault-due : (Ends : Ending) (form : Form) (read : Bytes) (f : InputFault) → ReadAs form read (λ r. r ≡ Err f) → IfSome read.before (IsDue Ends form (refusal_status f))
fault-due Ends form read f h = read-due Ends form read (Err f) (refusal_status f) refl h

-- what an input states is linked
at-given : (r : Result Capture CaptureFault) (capture : Capture) → at_capture r ≡ Ok capture → r ≡ Ok capture
at-given (Ok x) capture h = cc
at-given (Err e) capture h = absurd (cc)

of-given : (r : Result Capture StreamFault) (capture : Capture) → of_capture r ≡ Ok (input.Capture capture) → r ≡ Ok capture
of-given (Ok x) capture h = cc
of-given (Err e) capture h = absurd (cc)

no-capture : (r : Result ChainInput ChainFault) (capture : Capture) → of_chain r ≡ Ok (input.Capture capture) → ⊥
no-capture (Ok x) capture h = cc
no-capture (Err e) capture h = cc

no-audited-capture : (r : Result AuditInput AuditFault) (capture : Capture) → of_audit r ≡ Ok (input.Capture capture) → ⊥
no-audited-capture (Ok x) capture h = cc
no-audited-capture (Err e) capture h = cc

pub input-linked : (form : Form) (came : List ℕ) (capture : Capture) → input_of form came ≡ Ok (input.Capture capture) → AreLinked capture.phases
input-linked Lines came capture h = linked-capture came capture (at-given (capture_of came) capture (of-given (at_capture (capture_of came)) capture h))
input-linked Stream came capture h = (capture-given came capture (of-given (stream_capture came) capture h)).linked
input-linked Steps came capture h = absurd (no-capture (chain_of came) capture h)
input-linked Audited came capture h = absurd (no-audited-capture (audit_of came) capture h)

-- ---- messages are faulty in a stream alone

lines-no-port : (r : Result Capture CaptureFault) (f : PortFault) → of_capture (at_capture r) ≡ Err (fault.Stream (stream.Port f)) → ⊥
lines-no-port (Ok x) f is = cc
lines-no-port (Err e) f is = cc

steps-no-port : (r : Result ChainInput ChainFault) (f : PortFault) → of_chain r ≡ Err (fault.Stream (stream.Port f)) → ⊥
steps-no-port (Ok x) f is = cc
steps-no-port (Err (chain.Line l)) f is = cc
steps-no-port (Err (chain.TooLong l)) f is = cc
steps-no-port (Err chain.Memory) f is = cc

audit-no-port : (r : Result AuditInput AuditFault) (f : PortFault) → of_audit r ≡ Err (fault.Stream (stream.Port f)) → ⊥
audit-no-port (Ok x) f is = cc
audit-no-port (Err (audit.Capture e)) f is = cc
audit-no-port (Err audit.NoJournal) f is = cc

pub no-port : (came : List ℕ) (f : PortFault) → input_of Lines came ≡ Err (fault.Stream (stream.Port f)) → ⊥
no-port came f e = lines-no-port (capture_of came) f e

pub no-step-port : (came : List ℕ) (f : PortFault) → input_of Steps came ≡ Err (fault.Stream (stream.Port f)) → ⊥
no-step-port came f e = steps-no-port (chain_of came) f e

pub no-audit-port : (came : List ℕ) (f : PortFault) → input_of Audited came ≡ Err (fault.Stream (stream.Port f)) → ⊥
no-audit-port came f e = audit-no-port (audit_of came) f e

-- ---- and a journal lacks behind an audited capture alone

capture-lacks-none : (r : Result Capture StreamFault) → of_capture r ≡ Err fault.NoJournal → ⊥
capture-lacks-none (Ok x) is = cc
capture-lacks-none (Err e) is = cc

steps-lack-none : (r : Result ChainInput ChainFault) → of_chain r ≡ Err fault.NoJournal → ⊥
steps-lack-none (Ok x) is = cc
steps-lack-none (Err e) is = cc

-- the form is that of an audited input
pub audited-alone : (form : Form) (came : List ℕ) → input_of form came ≡ Err fault.NoJournal → form ≡ Audited
audited-alone Lines came e = absurd (capture-lacks-none (at_capture (capture_of came)) e)
audited-alone Stream came e = absurd (capture-lacks-none (stream_capture came) e)
audited-alone Steps came e = absurd (steps-lack-none (chain_of came) e)
audited-alone Audited came e = refl

-- ---- lines are faulty everywhere but in a stream

of-refused : (r : Result Capture StreamFault) (f : StreamFault) → of_capture r ≡ Err (fault.Stream f) → r ≡ Err f
of-refused (Ok x) f h = absurd (cc)
of-refused (Err e) f h = cc

abbrev LacksLine : {A : Type 0} → Result A StreamFault → Type 0
LacksLine r = (f : LineFault) → r ≡ Err (stream.Capture (refused.Line f)) → ⊥

head-lacks : (start : Option ℕ) (bytes : List ℕ) → LacksLine (at_capture (head_before start bytes))
head-lacks None bytes f e = cc
head-lacks (Some start) bytes f e = by (one_link_head (take start bytes)) e
  where
    by : (r : Result Head HeadFault) → at_capture (at_head r) ≡ Err (stream.Capture (refused.Line f)) → ⊥
    by (Ok head) is = cc
    by (Err fault) is = cc

-- the events
limited-lacks : (frames : Frames) → LacksLine (limited frames)
limited-lacks frames f e = by (nat_lt MOST_LINES (length frames.events)) frames.fault e
  where
    by : (t : Bool) (fault : Option PortFault) → cond t (Err (stream.Capture (refused.TooLong limit.Lines))) (unless_faulty fault frames.events) ≡ Err (stream.Capture (refused.Line f)) → ⊥
    by true fault is = cc
    by false None is = cc
    by false (Some fault) is = cc

bind-lacks : {A B : Type 0} (r : Result A StreamFault) (g : A → Result B StreamFault) → LacksLine r → ((a : A) → LacksLine (g a)) → LacksLine (r >>= g)
bind-lacks (Ok a) g h i f e = i a f e
bind-lacks (Err fault) g h i f e = h f (let same : fault ≡ stream.Capture (refused.Line f) = cc in ap Err same)

with-lacks : (head : Head) (octets : List ℕ) → LacksLine (capture_with head octets)
unfolding capture_with
with-lacks head octets = bind-lacks (limited (frames_of head.point octets)) _ (limited-lacks (frames_of head.point octets)) (λ events f e. cc)

within-lacks : (bytes : List ℕ) → LacksLine (capture_within bytes)
within-lacks bytes =
    bind-lacks (at_capture (head_before (stream_start bytes) bytes)) (λ head. capture_with head (stream_behind (stream_start bytes) bytes))
    (head-lacks (stream_start bytes) bytes) (λ head. with-lacks head (stream_behind (stream_start bytes) bytes))

stream-lacks : (came : List ℕ) → LacksLine (stream_capture came)
unfolding stream_capture
stream-lacks came f e = by (nat_lt MOST_BYTES (length came)) e
  where
    by : (t : Bool) → cond t (Err (stream.Capture (refused.TooLong limit.Bytes))) (capture_within came) ≡ Err (stream.Capture (refused.Line f)) → ⊥
    by true is = cc
    by false is = within-lacks came f is

pub no-line : (came : List ℕ) (f : LineFault) → input_of Stream came ≡ Err (fault.Stream (stream.Capture (refused.Line f))) → ⊥
no-line came f e = stream-lacks came f (of-refused (stream_capture came) (stream.Capture (refused.Line f)) e)
