-- A legal connection journal: each entry has the outputs that the entries before it determine.
use Rattle.std.specs.Prelude.{◌≡◌, ℕ, ◌==◌, ◌&&◌, ◌||◌, nat_lt, not, Bool, true, false, List, [], ◌∷◌, ◌++◌, length, map, take, filter, find, if◌then◌else◌, Option, Some, None, is_some, flat_map, count_by}
use Rattle.std.specs.List.{list_any, range_with_len}
use Rattle.relay_base.specs.declared.causes.TheConstants.{ERROR_UNASSIGNED_REFERENCE}
use Rattle.relay_base.specs.declared.limits.TheConstants.{SLOTS}
use Rattle.relay_base.specs.declared.words.Output.{Output}
use Rattle.relay_base.specs.declared.words.Output.TheVariants.{Sent, Told, Lost as Dropped}
use Rattle.relay_base.specs.declared.words.Lost.TheVariants as lost
use Rattle.relay_base.specs.declared.words.Reason.TheVariants as reason
use Rattle.relay_base.specs.declared.words.Tell.TheVariants as tell
use Rattle.relay_base.specs.declared.words.Event.{Event}
use Rattle.relay_base.specs.declared.words.Event.TheVariants.{Message as Arrived, Asked as Requested, Tick}
use Rattle.plant_core.specs.Asking.{answer_in}
use Rattle.plant_core.specs.declared.answer.Answer.{Answer}
use Rattle.plant_core.specs.declared.entry.Entry.{Entry}
use Rattle.plant_core.specs.declared.terms.Terms.{Terms}
use Rattle.plant_core.specs.declared.terms.Ticks.{Ticks}
use Rattle.q713_codec.specs.declared.message.Message.TheVariants.{Rlc, Err as Error}
use Rattle.q713_codec.specs.Writing.{spelling_of}
use Rattle.section_model.specs.declared.cell.Occasion.{Occasion}
use Rattle.section_model.specs.declared.cell.Occasion.TheVariants as on
use Rattle.section_model.specs.Parameters.{Parameters, Arrival, arrival_in}
use Rattle.section_model.specs.References.{slot_of, generation_after, reference_of_slot}
use Rattle.section_model.specs.Ends.{End, wire, owner, Connection}
use Rattle.section_model.specs.Step.{connection_step, hears, is_in_range, end_is_gone}
use Rattle.section_model.specs.Opening.{Wish, by_cr, by_user, no_wish, wish_of, question_of, slots_needed, opened, Opened}

pub record Lane : Type 0 where
  pub terms : Terms
  pub number : ℕ

-- One connection, fed with what it alone hears.

abbrev pub next : Ticks → Connection → Event → Connection
next ticks c event = (connection_step ticks c event).0

-- those of the events that it hears
unfoldable pub heard : Ticks → Connection → List Event → List Event
heard ticks c [] = []
heard ticks c (event ∷ events) =
    elim (hears c event) [ true ↦ event ∷ heard ticks (next ticks c event) events | false ↦ heard ticks c events ]

-- what it becomes by events that it hears
unfoldable pub follow : Ticks → Connection → List Event → Connection
follow ticks c [] = c
follow ticks c (event ∷ events) = follow ticks (next ticks c event) events

-- A connection as an entry opened it, and the events of the lane since.
pub record Opening : Type 0 where
  pub first : Connection
  pub since : List Event

abbrev pub connection_of : Ticks → Opening → Connection
connection_of ticks o = follow ticks o.first (heard ticks o.first o.since)

-- its outputs at an event, none where it does not hear it
abbrev pub part_by : Ticks → Event → Connection → List Output
part_by ticks event c = elim (hears c event) [ true ↦ (connection_step ticks c event).1 | false ↦ [] ]

abbrev pub part_of : Ticks → Event → Opening → List Output
part_of ticks event o = part_by ticks event (connection_of ticks o)

-- The local references, and how long they are frozen (Q.714, 3.3.2). A lane has slots from 1 on.

abbrev pub is_tick : Event → Bool
is_tick (Arrived point sls bytes) = false
is_tick (Requested ssn r) = false
is_tick Tick = true

-- a connection after one more event, which it may hear
abbrev pub fed : Ticks → Connection → Event → Connection
fed ticks c event = elim (hears c event) [ true ↦ next ticks c event | false ↦ c ]

-- how many ticks came since one of its ends was gone, if it is
unfoldable pub gone_for : Ticks → (Connection → End) → Connection → List Event → Option ℕ
gone_for ticks end c [] = if end_is_gone (end c) then Some 0 else None
gone_for ticks end c (event ∷ events) =
    elim (end_is_gone (end c)) [ true ↦ Some (count_by is_tick (event ∷ events)) | false ↦ gone_for ticks end (fed ticks c event) events ]

-- an end has its slot until it is gone and `freeze` ticks came since
abbrev pub is_kept_by : ℕ → Option ℕ → Bool
is_kept_by freeze None = true
is_kept_by freeze (Some count) = nat_lt count freeze

abbrev pub reference_of : End → Option ℕ
reference_of (wire x) = Some x.head.mine
reference_of (owner u) = None

abbrev pub is_at : ℕ → Option ℕ → Bool
is_at slot None = false
is_at slot (Some mine) = slot_of mine == slot

-- an opening took the slot for one of its ends
abbrev pub took : ℕ → Opening → Bool
took slot o = is_at slot (reference_of o.first.this) || is_at slot (reference_of o.first.that)

-- how many of these openings took the slot
abbrev pub times_taken : List Opening → ℕ → ℕ
times_taken openings slot = count_by (took slot) openings

-- an opening took the slot for one of its ends, and that end has it still
abbrev pub holds_by : Ticks → ℕ → (Connection → End) → Opening → Bool
holds_by ticks slot end o =
    is_at slot (reference_of (end o.first)) && is_kept_by ticks.freeze (gone_for ticks end o.first o.since)

abbrev pub holds : Ticks → ℕ → Opening → Bool
holds ticks slot o = holds_by ticks slot (λ c. c.this) o || holds_by ticks slot (λ c. c.that) o

abbrev pub is_held : Ticks → List Opening → ℕ → Bool
is_held ticks openings slot = list_any (holds ticks slot) openings

abbrev pub free_slots : Ticks → List Opening → List ℕ
free_slots ticks openings = filter (λ slot. not (is_held ticks openings slot)) (range_with_len 1 SLOTS)

-- the reference that an opening has for a slot which those before it took so many times
abbrev pub reference_at : Lane → (ℕ → ℕ) → ℕ → ℕ
reference_at lane times slot = reference_of_slot lane.number (generation_after (times slot)) slot

-- the references of the lowest free slots, or none where there are too few
abbrev pub enough : Lane → (ℕ → ℕ) → ℕ → List ℕ → List ℕ
enough lane times count free = if length free == count then map (reference_at lane times) free else []

unfoldable pub lowest_free : Lane → List Opening → ℕ → List ℕ
lowest_free lane openings count = enough lane (times_taken openings) count (take count (free_slots lane.terms.ticks openings))

-- What nobody hears (Q.714, messages for an unassigned local reference): CC, RSR and IT are answered by ERR, RLSD by RLC, and another message
-- for a connection is lost. CR, and a message of the connectionless service, are none.

abbrev pub stray_output : ℕ → ℕ → Occasion → Parameters → Output
stray_output point sls on.Cc m = Sent point sls (spelling_of (Error m.slr ERROR_UNASSIGNED_REFERENCE))
stray_output point sls on.Rsr m = Sent point sls (spelling_of (Error m.slr ERROR_UNASSIGNED_REFERENCE))
stray_output point sls on.It m = Sent point sls (spelling_of (Error m.slr ERROR_UNASSIGNED_REFERENCE))
stray_output point sls on.Rlsd m = Sent point sls (spelling_of (Rlc m.slr m.dlr))
stray_output point sls _ m = Dropped lost.Stray

abbrev pub stray_arrival : ℕ → ℕ → Option Arrival → List Output
stray_arrival point sls None = []
stray_arrival point sls (Some a) = stray_output point sls a.occasion a.parameters ∷ []

unfoldable pub stray_answer : Event → List Output
stray_answer (Arrived point sls bytes) = stray_arrival point sls (arrival_in bytes)
stray_answer (Requested ssn r) = if is_in_range r then Told ssn (tell.No reason.Unknown) ∷ [] else []
stray_answer Tick = []

-- The outputs of an entry.

-- the connection that an event opens after these openings, and its outputs
abbrev pub opening_of : Lane → List Opening → Wish → Option Answer → Opened
opening_of lane openings wish answer =
    opened lane.terms wish answer (lowest_free lane openings (slots_needed wish answer))

-- the outputs of what hears an event, or of what nobody hears
abbrev pub outputs_of_hearing : Ticks → Event → Option Opening → List Output
outputs_of_hearing ticks event (Some o) = part_of ticks event o
outputs_of_hearing ticks event None = stray_answer event

abbrev pub hearing : Ticks → List Opening → Event → Option Opening
hearing ticks openings event = find (λ o. hears (connection_of ticks o) event) openings

abbrev pub other_outputs : Lane → List Opening → Event → List Output
other_outputs lane openings (Arrived point sls bytes) =
    outputs_of_hearing lane.terms.ticks (Arrived point sls bytes) (hearing lane.terms.ticks openings (Arrived point sls bytes))
other_outputs lane openings (Requested ssn r) =
    outputs_of_hearing lane.terms.ticks (Requested ssn r) (hearing lane.terms.ticks openings (Requested ssn r))
other_outputs lane openings Tick = flat_map (part_of lane.terms.ticks Tick) openings

abbrev pub outputs_by : Lane → List Opening → Event → Wish → Option Answer → List Output
outputs_by lane openings event (by_cr w) answer = (opening_of lane openings (by_cr w) answer).outs
outputs_by lane openings event (by_user ssn tag w) answer = (opening_of lane openings (by_user ssn tag w) answer).outs
outputs_by lane openings event no_wish answer = other_outputs lane openings event

-- the one legal list of outputs of an event after these openings
unfoldable pub legal_outputs : Lane → List Opening → Event → Option Answer → List Output
legal_outputs lane openings event answer = outputs_by lane openings event (wish_of lane.terms event) answer

abbrev pub opening_list : Option Connection → List Opening
opening_list None = []
opening_list (Some c) = record { first = c; since = [] } ∷ []

abbrev pub with_event : Event → Opening → Opening
with_event event o = record { first = o.first; since = o.since ++ event ∷ [] }

-- the openings after one more entry
unfoldable pub openings_after : Lane → List Opening → Event → Option Answer → List Opening
openings_after lane openings event answer =
    map (with_event event) openings ++ opening_list (opening_of lane openings (wish_of lane.terms event) answer).connection

-- The journal.

abbrev pub answer_of : Entry → Option Answer
answer_of entry = answer_in entry.asked

-- an entry has a routing exactly where its event asks one, and its outputs are the legal ones
pub record IsLegalEntry (lane : Lane) (openings : List Opening) (entry : Entry) : Type 0 where
  pub routed : is_some entry.asked ≡ is_some (question_of (wish_of lane.terms entry.event))
  pub outputs : entry.outs ≡ legal_outputs lane openings entry.event (answer_of entry)

abbrev pub IsLegalFrom : Lane → List Opening → List Entry → Type 0
IsLegalFrom lane openings [] = Unit {0}
IsLegalFrom lane openings (entry ∷ entries) =
    IsLegalEntry lane openings entry × IsLegalFrom lane (openings_after lane openings entry.event (answer_of entry)) entries

abbrev pub IsConnectionJournal : Lane → List Entry → Type 0
IsConnectionJournal lane journal = IsLegalFrom lane [] journal
