-- The capture of the generator: a fixed head, and events that a sequence of numbers picks.
use Rattle.std.specs.Prelude.{ℕ, zero, suc, ◌+◌, ◌*◌, ◌/◌, ◌%◌, ◌==◌, List, [], ◌∷◌, ◌++◌, if◌then◌else◌}
use Rattle.relay_base.specs.declared.limits.TheConstants.{LINK_SELECTIONS, OCTET_VALUES}
use Rattle.relay_base.specs.References.{reference_of_slot}
use Rattle.relay_base.specs.declared.words.Event.{Event}
use Rattle.relay_base.specs.declared.words.Event.TheVariants.{Message as Arrived, Asked, Tick}
use Rattle.relay_base.specs.declared.words.Request.TheVariants.{Accept}
use Rattle.relay_base.specs.declared.words.Stamp.{Stamp}
use Rattle.plant_core.specs.declared.entry.ControlEvent.{ControlEvent}
use Rattle.plant_core.specs.declared.entry.ControlEvent.TheVariants.{Plain}
use Rattle.plant_core.specs.declared.terms.TheConstants.{USUAL_TICKS}
use Rattle.q713_codec.specs.Messages.{octets3}
use Rattle.node_head.specs.declared.head.Head.{Head}
use Rattle.capture_form.specs.Events.{Stamped}
use Rattle.capture_form.specs.declared.capture.Capture.{Capture}
use Rattle.capture_generator.specs.declared.events.TheConstants.{BLOCK}

-- ---- the head: five lines with its mark, so that the events begin at line 6

abbrev pub generator_head : Head
generator_head = record {
  point = 1;
  users = 8 ∷ [];
  conn_lanes = 4;
  data_lanes = 4;
  links = 1;
  credit = 7;
  concerned = [];
  timers = USUAL_TICKS;
  row = [];
  replicate = [];
  short = [];
}

-- ---- the sequence of numbers

abbrev pub next_number : ℕ → ℕ
next_number x = (1103515245 * x + 12345) % 2147483648

-- the number n places after x
unfoldable pub number_after : ℕ → ℕ → ℕ
number_after x zero = x
number_after x (suc n) = next_number (number_after x n)

-- ---- the event of line i, from 0

-- the reference that line i names: one of the first hundred slots of a lane
abbrev pub reference_at : ℕ → ℕ
reference_at i = reference_of_slot (i % 4) (1 + i % 100)

-- a UDT to subsystem 8, with one octet of data
abbrev pub unit_octets : List ℕ
unit_octets = 9 ∷ 0 ∷ 3 ∷ 5 ∷ 7 ∷ 2 ∷ 66 ∷ 8 ∷ 2 ∷ 66 ∷ 6 ∷ 1 ∷ 170 ∷ []

-- a CR of class 2 to subsystem 8, with nothing optional
abbrev pub request_octets : ℕ → List ℕ
request_octets source = 1 ∷ octets3 source ++ 2 ∷ 2 ∷ 0 ∷ 2 ∷ 66 ∷ 8 ∷ []

-- a DT1 without more data, of one octet
abbrev pub data_octets : ℕ → ℕ → List ℕ
data_octets destination octet = 6 ∷ octets3 destination ++ 0 ∷ 1 ∷ 1 ∷ octet ∷ []

-- a message from point 2
abbrev pub message_at : ℕ → List ℕ → Event
message_at i octets = Arrived 2 (i % LINK_SELECTIONS) octets

-- by the kind 0 to 3: a UDT, a CR, an acceptance, a DT1
abbrev pub event_of_kind : ℕ → ℕ → Event
event_of_kind kind i =
    if kind == 0 then message_at i unit_octets
    else if kind == 1 then message_at i (request_octets (i + 1))
    else if kind == 2 then Asked 8 (Accept (reference_at i) 2 0 [])
    else message_at i (data_octets (reference_at i) (i % OCTET_VALUES))

-- the event that the number x picks
abbrev pub event_at : ℕ → ℕ → Event
event_at x i = event_of_kind (x / 65536 % 4) i

-- ---- where it stands: after each 400th line come a barrier, a tick and a barrier

abbrev pub stamp_at : ℕ → Stamp
stamp_at i = record { phase = 1 + 2 * (i / BLOCK); link = 1; line = 6 + i + 3 * (i / BLOCK) }

abbrev pub stamped_at : ℕ → ℕ → Stamp × ControlEvent
stamped_at x i = (stamp_at i, Plain (event_at x i))

-- the events of n lines from line i, of which the numbers come after x
unfoldable pub events_after : ℕ → ℕ → ℕ → Stamped
events_after x i zero = []
events_after x i (suc n) = events_after x i n ++ stamped_at (number_after x (suc n)) (i + n) ∷ []

-- ---- the phases, with a list for link 0 and one for link 1

abbrev pub Phases : Type 0
Phases = List (List Stamped)

-- the events of so many lines, of which x is the number before the first
abbrev pub lines_phase : ℕ → ℕ → ℕ → List Stamped
lines_phase x first count = [] ∷ events_after x first count ∷ []

-- the phase of so many lines after b whole blocks of 400
abbrev pub block_phase : ℕ → ℕ → ℕ → List Stamped
block_phase x b count = lines_phase (number_after x (BLOCK * b)) (BLOCK * b) count

-- the tick after block b, from 0
abbrev pub tick_phase : ℕ → List Stamped
tick_phase b = ((record { phase = 2 + 2 * b; link = 0; line = 7 + BLOCK + (BLOCK + 3) * b }, Plain Tick) ∷ []) ∷ [] ∷ []

-- block b, of which x is the number before the first line, and its tick
abbrev pub block_phases : ℕ → ℕ → Phases
block_phases x b = lines_phase x (BLOCK * b) BLOCK ∷ tick_phase b ∷ []

-- the first b blocks of 400 lines, each with its tick
unfoldable pub whole_blocks : ℕ → ℕ → Phases
whole_blocks x zero = []
whole_blocks x (suc b) = whole_blocks x b ++ block_phases (number_after x (BLOCK * b)) b

-- all whole blocks, and the lines that are left; without lines there is no phase
abbrev pub phases_after : ℕ → ℕ → Phases
phases_after x lines =
    if lines == 0 then []
    else whole_blocks x (lines / BLOCK) ++ block_phase x (lines / BLOCK) (lines % BLOCK) ∷ []

-- the phases of the generator's number and count of lines
abbrev pub generated_phases : ℕ → ℕ → Phases
generated_phases number lines = phases_after (number % 2147483648) lines

-- the capture of a number and a count of lines
abbrev pub generated_capture : ℕ → ℕ → Capture
generated_capture number lines = record { head = generator_head; phases = generated_phases number lines }
