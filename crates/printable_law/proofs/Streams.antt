-- What the capture of a stream states is in its ranges.
use Rattle.std.proofs.Common.{◌≡◌, ℕ, ◌+◌, ◌<◌, ◌≤◌, ◌==◌, nat_lt, Bool, true, false, List, [], ◌∷◌, ◌++◌, length, take, if◌then◌else◌, Option, Some, None, Ok, Err, refl, subst, arith, length-append, length-drop}
use Rattle.std.specs.Prelude.{IfOk}
use Rattle.std.specs.List.{AllByRecursion}
use Rattle.std.specs.declared.result.Result.{Result}
use Rattle.std.proofs.lemmas.Bool.{ltb-false}
use Rattle.std.proofs.lemmas.List.{length-map}
use Rattle.relay_base.proofs.GivingLemmas.{bound}
use Rattle.relay_base.specs.declared.limits.TheConstants.{MOST_BYTES}
use Rattle.relay_base.specs.declared.words.Event.{Event}
use Rattle.relay_base.specs.declared.words.Stamp.{Stamp}
use Rattle.plant_core.specs.declared.entry.ControlEvent.{ControlEvent}
use Rattle.plant_core.specs.declared.entry.ControlEvent.TheVariants.{Plain}
use Rattle.node_head.specs.Head.{begun, head_of_text, head_of}
use Rattle.node_head.specs.Lines.{lines, halves, joined}
use Rattle.node_head.specs.declared.fault.HeadFault.{HeadFault}
use Rattle.node_head.specs.declared.head.Head.{Head}
use Rattle.m3ua_capture.specs.OneLink.{many_links, one_link, one_link_head}
use Rattle.m3ua_port.specs.Frames.{Frames, frames_of}
use Rattle.m3ua_port.specs.declared.fault.PortFault.{PortFault}
use Rattle.capture_form.specs.Capture.{at_head}
use Rattle.capture_form.specs.Events.{Stamped, all_events}
use Rattle.capture_form.specs.declared.capture.Capture.{Capture}
use Rattle.capture_form.specs.declared.fault.CaptureFault.{CaptureFault}
use Rattle.capture_form.specs.declared.fault.CaptureFault.TheVariants as refused
use Rattle.capture_form.specs.declared.fault.Limit.TheVariants.{Bytes, Lines}
use Rattle.capture_form.specs.declared.steps.TheConstants.{MOST_LINES}
use Rattle.m3ua_capture.specs.Streams.{stream_start, head_before, stream_behind, unless_faulty, limited, plain, phases_of, at_capture, capture_with, capture_within, stream_capture}
use Rattle.m3ua_capture.specs.declared.fault.StreamFault.{StreamFault}
use Rattle.m3ua_capture.specs.declared.fault.StreamFault.TheVariants as stream
use Rattle.printable_law.specs.OctetLaw.{IsOctet, AreOctets}
use Rattle.printable_law.proofs.Lists.{either, all-map, all-drop}
use Rattle.printable_law.specs.CaptureRanges.{HeadInRange, StampedInRange, PhasesInRange, InputInRange}
use Rattle.printable_law.proofs.Heads.{heads_are_in_range}
use Rattle.printable_law.specs.StreamRanges.{StreamsAreInRange}
use Rattle.printable_law.proofs.Frames.{FrameInRange, frames-in}

-- The head.

lines-head : (h : Option (List (List ℕ) × List (List ℕ))) → IfOk (begun h) (λ parts. HeadInRange parts.0)
lines-head None = tt
lines-head (Some h) = bound HeadInRange (λ parts. HeadInRange parts.0) (head_of_text (joined h.0)) _ (heads_are_in_range (joined h.0)) (λ head in_range. in_range)

text-head : (bytes : List ℕ) → IfOk (head_of bytes) HeadInRange
unfolding head_of
text-head bytes = bound (λ parts. HeadInRange parts.0) HeadInRange (begun (halves (lines bytes))) _ (lines-head (halves (lines bytes))) (λ parts in_range. in_range)

one-head : (bytes : List ℕ) (r : Result Head HeadFault) → IfOk r HeadInRange → IfOk (one_link bytes r) HeadInRange
one-head bytes (Ok head) in_range = either (λ r. IfOk r HeadInRange) (head.links == 1) (Ok head) (Err many_links) in_range tt
one-head bytes (Err found) in_range = tt

linked-head : (bytes : List ℕ) → IfOk (one_link_head bytes) HeadInRange
unfolding one_link_head
linked-head bytes = one-head bytes (head_of bytes) (text-head bytes)

at_head-in : (r : Result Head HeadFault) → IfOk r HeadInRange → IfOk (at_head r) HeadInRange
at_head-in (Ok head) in_range = in_range
at_head-in (Err f) in_range = tt

before-in : (start : Option ℕ) (bytes : List ℕ) → IfOk (head_before start bytes) HeadInRange
before-in None bytes = tt
before-in (Some start) bytes = at_head-in (one_link_head (take start bytes)) (linked-head (take start bytes))

at_capture-in : {A : Type 0} (P : A → Type 0) (r : Result A CaptureFault) → IfOk r P → IfOk (at_capture r) P
at_capture-in P (Ok x) in_range = in_range
at_capture-in P (Err f) in_range = tt

-- The events.

record AreFrames (events : List (Stamp × Event)) : Type 0 where
  pub each : AllByRecursion FrameInRange events
  pub few : length events ≤ MOST_LINES

unless-in : (fault : Option PortFault) (events : List (Stamp × Event)) → AreFrames events → IfOk (unless_faulty fault events) AreFrames
unless-in None events are = are
unless-in (Some fault) events are = tt

limited-in : (frames : Frames) → AllByRecursion FrameInRange frames.events → IfOk (limited frames) AreFrames
limited-in frames all = by_test (nat_lt MOST_LINES (length frames.events)) refl
  where
    by_test : (long : Bool) → nat_lt MOST_LINES (length frames.events) ≡ long
        → IfOk (if long then Err (stream.Capture (refused.TooLong Lines)) else unless_faulty frames.fault frames.events) AreFrames
    by_test true e = tt
    by_test false e = unless-in frames.fault frames.events (record { each = all; few = ltb-false MOST_LINES (length frames.events) e })

plain-in : (events : List (Stamp × Event)) → AllByRecursion FrameInRange events → AllByRecursion StampedInRange (plain events)
plain-in events all = all-map FrameInRange StampedInRange _ (λ e in_range. in_range) events all

phases-in : (events : Stamped) → AllByRecursion StampedInRange events → PhasesInRange (phases_of events)
phases-in [] all = tt
phases-in (event ∷ events) all = ((tt, (all, tt)), tt)

phases-few : (events : Stamped) → length (all_events (phases_of events)) ≤ length events
phases-few [] = omega arith
phases-few (event ∷ events) =
    omega (arith, length-append ((event ∷ events) ++ []) [], length-append (event ∷ events) [])

-- The capture.

record IsInRange (c : Capture) : Type 0 where
  pub input : InputInRange c.head c.phases

with-in : (head : Head) (octets : List ℕ) → HeadInRange head → length octets + 1 < 4_294_967_296 → AreOctets octets → IfOk (capture_with head octets) IsInRange
unfolding capture_with
with-in head octets told few are =
    bound AreFrames IsInRange (limited (frames_of head.point octets)) _ (limited-in (frames_of head.point octets) (frames-in head.point octets few are)) (λ events is. record {
      input = record {
        told = told;
        events = phases-in (plain events) (plain-in events is.each);
        few = omega (arith, phases-few (plain events), is.few, length-map {B = Stamp × ControlEvent} events (λ e. (e.0, Plain e.1)));
      };
    })

behind-octets : (start : Option ℕ) (bytes : List ℕ) → AreOctets bytes → AreOctets (stream_behind start bytes)
behind-octets None bytes are = tt
behind-octets (Some start) bytes are = all-drop IsOctet start bytes are

behind-few : (start : Option ℕ) (bytes : List ℕ) → length (stream_behind start bytes) ≤ length bytes
behind-few None bytes = omega arith
behind-few (Some start) bytes = omega (arith, length-drop start bytes)

within-in : (bytes : List ℕ) → length bytes ≤ MOST_BYTES → AreOctets bytes → IfOk (capture_within bytes) IsInRange
within-in bytes small are =
    let start = stream_start bytes in
    bound HeadInRange IsInRange (at_capture (head_before start bytes)) _ (at_capture-in HeadInRange (head_before start bytes) (before-in start bytes)) (λ head told.
    with-in head (stream_behind start bytes) told (omega (arith, small, behind-few start bytes)) (behind-octets start bytes are))

stream-in : (bytes : List ℕ) → AreOctets bytes → IfOk (stream_capture bytes) IsInRange
unfolding stream_capture
stream-in bytes are = by_test (nat_lt MOST_BYTES (length bytes)) refl
  where
    by_test : (long : Bool) → nat_lt MOST_BYTES (length bytes) ≡ long
        → IfOk (if long then Err (stream.Capture (refused.TooLong Bytes)) else capture_within bytes) IsInRange
    by_test true e = tt
    by_test false e = within-in bytes (ltb-false MOST_BYTES (length bytes) e) are

capture-in : (capture : Capture) (r : Result Capture StreamFault) → r ≡ Ok capture → IfOk r IsInRange → InputInRange capture.head capture.phases
capture-in capture r e in_range = (subst (λ r. IfOk r IsInRange) e in_range).input

pub streams_are_in_range : StreamsAreInRange
streams_are_in_range bytes capture are e = capture-in capture (stream_capture bytes) e (stream-in bytes are)
