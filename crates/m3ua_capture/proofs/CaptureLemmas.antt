-- The capture of a stream: its stamps, its links, and how many events it has.
use Rattle.std.proofs.Common.{◌≡◌, ℕ, zero, suc, ◌+◌, ◌≤◌, nat_lt, Bool, true, false, cond, List, [], ◌∷◌, ◌++◌, length, take, drop, refl, ap, sym, ◌∙◌, subst, arith, append-nil}
use Rattle.std.specs.Prelude.{Option, Some, None, Ok, Err, IfOk, if◌then◌else◌}
use Rattle.std.specs.declared.result.Result.{Result}
use Rattle.std.specs.List.{AllByRecursion}
use Rattle.std.proofs.lemmas.Bool.{ltb-false}
use Rattle.capture_form.specs.declared.steps.TheConstants.{MOST_LINES}
use Rattle.relay_base.specs.declared.limits.TheConstants.{MOST_BYTES}
use Rattle.relay_base.specs.Giving.{◌>>=◌}
use Rattle.relay_base.specs.declared.words.Stamp.{Stamp}
use Rattle.relay_base.specs.declared.words.Event.{Event}
use Rattle.plant_core.specs.declared.entry.ControlEvent.TheVariants.{Plain}
use Rattle.node_head.specs.declared.head.Head.{Head}
use Rattle.node_head.specs.Head.{head_of}
use Rattle.node_head.specs.declared.fault.HeadFault.{HeadFault}
use Rattle.m3ua_capture.specs.OneLink.{one_link, one_link_head}
use Rattle.capture_form.specs.Capture.{at_head}
use Rattle.capture_form.specs.Events.{Stamped, all_events, AreOfPhases, IsStamped}
use Rattle.capture_form.specs.Links.{comes_on_link, AreLinked}
use Rattle.capture_form.specs.declared.fault.CaptureFault.{CaptureFault}
use Rattle.capture_form.specs.declared.capture.Capture.{Capture}
use Rattle.m3ua_port.specs.declared.fault.PortKind.{PortKind}
use Rattle.m3ua_port.specs.declared.fault.PortFault.{PortFault}
use Rattle.m3ua_port.specs.Frames.{Frames, is_data, protocol_data, data_event, message_event, message_length, front_event, length_of, frames_by, frames_in, frames_from, frames_of}
use Rattle.capture_form.specs.declared.fault.CaptureFault.TheVariants as refused
use Rattle.capture_form.specs.declared.fault.Limit.TheVariants.{Bytes, Lines}
use Rattle.m3ua_capture.specs.declared.fault.StreamFault.{StreamFault}
use Rattle.m3ua_capture.specs.declared.fault.StreamFault.TheVariants as stream
use Rattle.m3ua_capture.specs.Streams.{Reads, head_before, stream_start, stream_behind, at_capture, unless_faulty, limited, plain, phases_of, capture_with, capture_within, stream_capture}

-- what is bound gave a value
bound : {A B E : Type 0} (r : Result A E) (f : A → Result B E) (b : B) → (r >>= f) ≡ Ok b → (a : A) × (r ≡ Ok a) × (f a ≡ Ok b)
bound (Ok a) f b h = (a, refl, h)
bound (Err e) f b h = absurd (cc)

-- ---- the events of a stream

abbrev IsOfStream : Stamp × Event → Type 0
IsOfStream e = (e.0.phase ≡ 1) × (e.0.link ≡ 1) × (comes_on_link (Plain e.1) ≡ true)

-- what brings an event brings a message
abbrev BringsMessage : Result (Option Event) PortKind → Type 0
BringsMessage r = (e : Event) → r ≡ Ok (Some e) → comes_on_link (Plain e) ≡ true

data-brings : (own : ℕ) (value : List ℕ) → BringsMessage (data_event own value)
unfolding data_event
data-brings own value e h = grind arith

bind-brings : {A : Type 0} (r : Result A PortKind) (f : A → Result (Option Event) PortKind) → ((a : A) → BringsMessage (f a)) → BringsMessage (r >>= f)
bind-brings r f h e is = let b = bound r f (Some e) is in h b.0 e b.2

message-brings : (own : ℕ) (message : List ℕ) → BringsMessage (message_event own message)
unfolding message_event
message-brings own message =
    elim (is_data message) as (λ t. BringsMessage (if t then protocol_data (drop 8 message) >>= data_event own else Ok None)) [
      | true ↦ bind-brings (protocol_data (drop 8 message)) (data_event own) (data-brings own)
      | false ↦ (λ e h. absurd (cc))
    ]

front-brings : (own : ℕ) (octets : List ℕ) → BringsMessage (front_event own octets)
front-brings own octets = bind-brings (message_length octets) _ (λ size. message-brings own (take size octets))

by-each : (number : ℕ) (r : Result (Option Event) PortKind) (later : Frames) → BringsMessage r → AllByRecursion IsOfStream later.events → AllByRecursion IsOfStream (frames_by number r later).events
by-each number (Err k) later h each = tt
by-each number (Ok None) later h each = each
by-each number (Ok (Some e)) later h each = ((refl, refl, h e refl), each)

in-each : (own number n : ℕ) (octets : List ℕ) → AllByRecursion IsOfStream (frames_in own number n octets).events
in-each own number zero octets = tt
in-each own number (suc n) [] = tt
in-each own number (suc n) (octet ∷ octets) =
    by-each number (front_event own (octet ∷ octets)) _ (front-brings own (octet ∷ octets)) (in-each own (number + 1) n (drop (length_of (octet ∷ octets)) (octet ∷ octets)))

each : (own : ℕ) (octets : List ℕ) → AllByRecursion IsOfStream (frames_of own octets).events
unfolding frames_from
each own octets = in-each own 1 (length octets) octets

-- ---- its one phase

plain-stamped : (events : List (Stamp × Event)) → AllByRecursion IsOfStream events → AllByRecursion (λ e. (e.0.phase ≡ 1) × (e.0.link ≡ 1)) (plain events)
plain-stamped [] h = tt
plain-stamped (e ∷ events) h = ((h.0.0, h.0.1), plain-stamped events h.1)

plain-linked : (events : List (Stamp × Event)) → AllByRecursion IsOfStream events → AllByRecursion (λ e. comes_on_link e.1 ≡ true) (plain events)
plain-linked [] h = tt
plain-linked (e ∷ events) h = (h.0.2, plain-linked events h.1)

phases-stamped : (links : ℕ) (events : Stamped) → links ≡ 1 → AllByRecursion (λ e. (e.0.phase ≡ 1) × (e.0.link ≡ 1)) events → AreOfPhases links 1 (phases_of events)
phases-stamped links [] one h = tt
phases-stamped links (e ∷ events) one h = (omega (arith, one), (tt, (h, tt)), tt)

phases-linked : (events : Stamped) → AllByRecursion (λ e. comes_on_link e.1 ≡ true) events → AreLinked (phases_of events)
phases-linked [] h = tt
phases-linked (e ∷ events) h = ((tt, subst (AllByRecursion (λ x. comes_on_link x.1 ≡ true)) (sym (append-nil (e ∷ events))) h), tt)

phases-count : (events : Stamped) → length (all_events (phases_of events)) ≡ length events
phases-count [] = refl
phases-count (e ∷ events) = ap length (append-nil ((e ∷ events) ++ []) ∙ append-nil (e ∷ events))

length-plain : (events : List (Stamp × Event)) → length (plain events) ≡ length events
length-plain [] = refl
length-plain (e ∷ events) = ap suc (length-plain events)

-- ---- the capture

-- what is within the limit and without a fault
limited-given : (frames : Frames) (events : List (Stamp × Event)) → limited frames ≡ Ok events → (events ≡ frames.events) × (length events ≤ MOST_LINES)
limited-given frames events h = by (nat_lt MOST_LINES (length frames.events)) frames.fault refl h
  where
    by : (t : Bool) (fault : Option PortFault) → nat_lt MOST_LINES (length frames.events) ≡ t → cond t (Err (stream.Capture (refused.TooLong Lines))) (unless_faulty fault frames.events) ≡ Ok events → (events ≡ frames.events) × (length events ≤ MOST_LINES)
    by true fault e is = absurd (cc)
    by false (Some fault) e is = absurd (cc)
    by false None e is =
        let same : frames.events ≡ events = cc in
        (sym same, omega (arith, ltb-false MOST_LINES (length frames.events) e, ap length same))

-- what a capture of a stream is
pub record IsOfOneLink (c : Capture) : Type 0 where
  pub stamped : IsStamped c.head c.phases
  pub linked : AreLinked c.phases
  pub few : length (all_events c.phases) ≤ MOST_LINES

with-given : (head : Head) (octets : List ℕ) (c : Capture) → head.links ≡ 1 → capture_with head octets ≡ Ok c → IsOfOneLink c
unfolding capture_with
with-given head octets c one h =
    let b = bound (limited (frames_of head.point octets)) _ c h in
    let given = limited-given (frames_of head.point octets) b.0 b.1 in
    let all = subst (AllByRecursion IsOfStream) (sym given.0) (each head.point octets) in
    let made : Capture = record { head = head; phases = phases_of (plain b.0) } in
    let same : made ≡ c = cc in
    subst IsOfOneLink same (record {
      stamped = phases-stamped head.links (plain b.0) one (plain-stamped b.0 all);
      linked = phases-linked (plain b.0) (plain-linked b.0 all);
      few = omega (arith, phases-count (plain b.0), length-plain b.0, given.1);
    })

one-given : (bytes : List ℕ) (head : Head) → one_link_head bytes ≡ Ok head → head.links ≡ 1
unfolding one_link_head
one-given bytes head h = by (head_of bytes) h
  where
    by : (r : Result Head HeadFault) → one_link bytes r ≡ Ok head → head.links ≡ 1
    by (Ok found) is = grind arith
    by (Err fault) is = absurd (cc)

head-given : (r : Result Head HeadFault) (head : Head) → at_head r ≡ Ok head → r ≡ Ok head
head-given (Ok x) head h = cc
head-given (Err e) head h = absurd (cc)

before-given : (start : Option ℕ) (bytes : List ℕ) (head : Head) → head_before start bytes ≡ Ok head → head.links ≡ 1
before-given None bytes head h = absurd (cc)
before-given (Some start) bytes head h = one-given (take start bytes) head (head-given (one_link_head (take start bytes)) head h)

at-given : (r : Result Head CaptureFault) (head : Head) → at_capture r ≡ Ok head → r ≡ Ok head
at-given (Ok x) head h = cc
at-given (Err e) head h = absurd (cc)

within-given : (bytes : List ℕ) (c : Capture) → capture_within bytes ≡ Ok c → IsOfOneLink c
within-given bytes c h =
    let b = bound (at_capture (head_before (stream_start bytes) bytes)) (λ head. capture_with head (stream_behind (stream_start bytes) bytes)) c h in
    with-given b.0 _ c (before-given (stream_start bytes) bytes b.0 (at-given _ b.0 b.1)) b.2

pub capture-given : (bytes : List ℕ) (c : Capture) → stream_capture bytes ≡ Ok c → IsOfOneLink c
unfolding stream_capture
capture-given bytes c h = by (nat_lt MOST_BYTES (length bytes)) h
  where
    by : (t : Bool) → cond t (Err (stream.Capture (refused.TooLong Bytes))) (capture_within bytes) ≡ Ok c → IsOfOneLink c
    by true is = absurd (cc)
    by false is = within-given bytes c is

-- what a call that reads one gave
pub within-given-ok : (bytes : List ℕ) (P : Capture → Type 0) (r : Result Capture StreamFault) → ((c : Capture) → IsOfOneLink c → P c) → Reads r (capture_within bytes) → IfOk r P
within-given-ok bytes P (Ok c) f h = f c (within-given bytes c h)
within-given-ok bytes P (Err e) f h = tt
