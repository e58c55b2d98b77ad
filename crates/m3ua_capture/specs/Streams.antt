-- The capture of an input that is a head, its mark, and the octets of a stream of M3UA messages (RFC 4666).
use Rattle.std.specs.Prelude.{ℕ, ◌+◌, ◌==◌, ◌||◌, nat_eq, nat_lt, codes, Bool, true, false, List, [], ◌∷◌, ◌++◌, length, take, drop, map, if◌then◌else◌, Option, Some, None, Ok, Err}
use Rattle.std.specs.declared.result.Result.{Result}
use lib.Pointwise.{pointwise}
use Rattle.relay_base.specs.Giving.{◌>>=◌, GivesOrMemory}
use Rattle.relay_base.specs.declared.limits.TheConstants.{MOST_BYTES}
use Rattle.relay_base.specs.declared.words.Stamp.{Stamp}
use Rattle.relay_base.specs.declared.words.Event.{Event}
use Rattle.plant_core.specs.declared.entry.ControlEvent.TheVariants.{Plain}
use Rattle.node_head.specs.declared.head.Head.{Head}
use Rattle.node_head.specs.declared.fault.HeadKind.TheVariants as kind
use Rattle.m3ua_capture.specs.OneLink.{one_link_head}
use Rattle.node_head.specs.Refusals.{fault}
use Rattle.capture_form.specs.Events.{Stamped}
use Rattle.capture_form.specs.Capture.{at_head}
use Rattle.capture_form.specs.declared.steps.TheConstants.{MOST_LINES}
use Rattle.capture_form.specs.declared.fault.Limit.TheVariants.{Bytes, Lines}
use Rattle.capture_form.specs.declared.fault.CaptureFault.{CaptureFault}
use Rattle.capture_form.specs.declared.fault.CaptureFault.TheVariants as refused
use Rattle.capture_form.specs.declared.capture.Capture.{Capture}
use Rattle.m3ua_port.specs.declared.fault.PortFault.{PortFault}
use Rattle.m3ua_port.specs.Frames.{Frames, frames_of}
use Rattle.m3ua_capture.specs.declared.fault.StreamFault.{StreamFault}
use Rattle.m3ua_capture.specs.declared.fault.StreamFault.TheVariants as stream

-- ---- a call that reads a stream

-- the fault that a refusal tells; none is want of memory
abbrev pub fault_in : StreamFault → Option StreamFault
fault_in (stream.Capture refused.Memory) = None
fault_in fault = Some fault

-- the call gave what the definition gives, unless memory ran out
abbrev pub Reads : {Y : Type 0} → Result Y StreamFault → Result Y StreamFault → Type 0
Reads result given = GivesOrMemory (λ x. x) fault_in result given

-- ---- the head, and the octets of the stream

-- a line that ends the head: `%%`, of which a carriage return before its line feed is dropped
abbrev pub is_mark : List ℕ → Bool
is_mark line = pointwise nat_eq line (codes "%%") || pointwise nat_eq line (codes "%%" ++ 13 ∷ [])

-- how many octets stand up to the first mark and its line feed, where n were passed, and of the line that stands these
abbrev pub mark_end : ℕ → List ℕ → List ℕ → Option ℕ
mark_end n line [] = None
mark_end n line (octet ∷ more) =
    elim (octet == 10) [
      | true ↦ elim (is_mark line) [ true ↦ Some (n + 1) | false ↦ mark_end (n + 1) [] more ]
      | false ↦ mark_end (n + 1) (line ++ octet ∷ []) more
    ]

unfoldable pub stream_start : List ℕ → Option ℕ
stream_start bytes = mark_end 0 [] bytes

-- the head before a stream, which comes on one link
abbrev pub head_before : Option ℕ → List ℕ → Result Head CaptureFault
head_before None bytes = Err (refused.Head (fault kind.End (codes "-")))
head_before (Some start) bytes = at_head (one_link_head (take start bytes))

abbrev pub stream_behind : Option ℕ → List ℕ → List ℕ
stream_behind None bytes = []
stream_behind (Some start) bytes = drop start bytes

-- ---- the events

-- the events of a stream, up to the limit, unless it has a fault
abbrev pub unless_faulty : Option PortFault → List (Stamp × Event) → Result (List (Stamp × Event)) StreamFault
unless_faulty None events = Ok events
unless_faulty (Some fault) events = Err (stream.Port fault)

abbrev pub limited : Frames → Result (List (Stamp × Event)) StreamFault
limited frames =
    if nat_lt MOST_LINES (length frames.events) then Err (stream.Capture (refused.TooLong Lines))
    else unless_faulty frames.fault frames.events

-- they are those of link 1 in one phase; without events there is no phase
abbrev pub plain : List (Stamp × Event) → Stamped
plain events = map (λ e. (e.0, Plain e.1)) events

abbrev pub phases_of : Stamped → List (List Stamped)
phases_of [] = []
phases_of (event ∷ events) = ([] ∷ (event ∷ events) ∷ []) ∷ []

-- ---- the capture

abbrev pub at_capture : {A : Type 0} → Result A CaptureFault → Result A StreamFault
at_capture (Ok x) = Ok x
at_capture (Err fault) = Err (stream.Capture fault)

-- the capture of a head and a stream
unfoldable pub capture_with : Head → List ℕ → Result Capture StreamFault
capture_with head octets = do
  events ← limited (frames_of head.point octets)
  Ok (record { head = head; phases = phases_of (plain events) })

abbrev pub capture_within : List ℕ → Result Capture StreamFault
capture_within bytes = do
  head ← at_capture (head_before (stream_start bytes) bytes)
  capture_with head (stream_behind (stream_start bytes) bytes)

-- the capture of an input that is not too long
unfoldable pub stream_capture : List ℕ → Result Capture StreamFault
stream_capture bytes =
    if nat_lt MOST_BYTES (length bytes) then Err (stream.Capture (refused.TooLong Bytes))
    else capture_within bytes
