-- A reader of lines, which keeps what it read so far.
use Rattle.std.specs.Prelude.{◌≡◌, ℕ, ◌+◌, ◌≤◌, ◌==◌, nat_lt, nat_le, codes, Bool, List, [], ◌∷◌, ◌++◌, length, map, Option, Some, None, slice_index_or, slice_set, replicate, Ok, Err, IfOk, if◌then◌else◌}
use Rattle.std.specs.declared.result.Result.{Result}
use Rattle.relay_base.specs.Giving.{◌>>=◌, GivesOrMemory}
use Rattle.relay_base.specs.declared.words.Stamp.{Stamp}
use Rattle.plant_core.specs.declared.entry.ControlEvent.{ControlEvent}
use Rattle.node_head.specs.declared.head.Head.{Head}
use Rattle.capture_form.specs.Text.{words}
use Rattle.capture_form.specs.Line.{Linked, meaning_of}
use Rattle.capture_form.specs.Groups.{may_stand, placed, left_open, event_in}
use Rattle.capture_form.specs.declared.meaning.Meaning.{Meaning}
use Rattle.capture_form.specs.declared.changes.OpenGroup.{OpenGroup}
use Rattle.capture_form.specs.declared.meaning.Meaning.TheVariants.{Event}
use Rattle.capture_form.specs.Events.{Stamped}
use Rattle.capture_form.specs.Capture.{fault_in, begins, barrier_form}
use Rattle.capture_form.specs.Inner.LineRead.{may_stand_as}
use Rattle.capture_form.specs.declared.steps.TheConstants.{MOST_LINES, MOST_TICK_LINES, MOST_BARRIERS}
use Rattle.capture_form.specs.declared.fault.LineKind.{LineKind}
use Rattle.capture_form.specs.declared.fault.LineKind.TheVariants.{Group}
use Rattle.capture_form.specs.declared.fault.Limit.TheVariants.{Lines, Ticks, Barriers}
use Rattle.capture_form.specs.declared.fault.CaptureFault.{CaptureFault}
use Rattle.capture_form.specs.declared.fault.CaptureFault.TheVariants as refused
use Rattle.capture_form.specs.declared.line_read.LineRead.{LineRead}
use Rattle.capture_form.specs.declared.line_read.Saying.{Saying}
use Rattle.capture_form.specs.declared.line_read.Saying.TheVariants as said
use Rattle.capture_form.specs.Inner.Stated.{Stated}
use Rattle.capture_form.specs.declared.reading.Reading.{Reading}

-- the call left what is read by then, unless memory ran out
abbrev pub Takes : {U : Type 0} → Reading → Result U CaptureFault → Result Reading CaptureFault → Type 0
Takes left result given = GivesOrMemory (λ _. left) fault_in result given

-- the head was taken from the lines, unless memory ran out
abbrev pub HeadReads : List (List ℕ) → Result (Head × ℕ) CaptureFault → Result (Head × ℕ × List (List ℕ)) CaptureFault → Type 0
HeadReads rest result given = GivesOrMemory (λ (h : Head × ℕ). (h.0, h.1, rest)) fault_in result given

-- there are as many lists
abbrev pub AreAsMany : Reading → Reading → Type 0
AreAsMany old new = length new.current ≡ length old.current

-- the lists, the line and the group are as before
abbrev pub IsStill : Reading → Reading → Type 0
IsStill old new = (new.current ≡ old.current) × (new.line ≡ old.line) × (new.group ≡ old.group)

-- the link of an event is one of these
abbrev pub IsWithin : ℕ → Meaning → Type 0
IsWithin links (Event link event) = link ≤ links
IsWithin links _ = Unit {0}

-- what a line says is about these links
abbrev pub IsSaidWithin : ℕ → Saying → Type 0
IsSaidWithin links (said.Event event) = IfOk event.meaning (IsWithin links)
IsSaidWithin links _ = Unit {0}

abbrev pub IsReadWithin : ℕ → LineRead → Type 0
IsReadWithin links line = IsSaidWithin links line.saying

-- the lists of a phase with an event at the end of one
abbrev pub pushed : List Stamped → ℕ → Stamp × ControlEvent → List Stamped
pushed lists link event = slice_set lists link (slice_index_or lists link [] ++ event ∷ [])

abbrev pub at_line : {A : Type 0} → ℕ → Result A LineKind → Result A CaptureFault
at_line number (Ok x) = Ok x
at_line number (Err kind) = Err (refused.Line record { line = number; kind = kind })

-- the lists of a phase, one for each link from 0
abbrev pub empty_phase : ℕ → List Stamped
empty_phase links = replicate (links + 1) []

-- the phase that stands ends, and the next one begins
abbrev pub phase_ended : Head → Reading → Reading
phase_ended head r = record r { phases = r.phases ++ r.current ∷ []; current = empty_phase head.links; phase = r.phase + 1 }

-- the lists of the phase that stands, with the event of the line, if there is one, at the end of its link's list
abbrev pub with_event : Reading → Option Linked → List Stamped
with_event r None = r.current
with_event r (Some e) = pushed r.current e.0 (record { phase = r.phase; link = e.0; line = r.line }, e.1)

-- what an event line means: its event, if it has one, and the group that it leaves open
abbrev pub meaning_taken : Reading → Meaning → Reading
meaning_taken r meaning = record r { current = with_event r (event_in r.group meaning); group = left_open r.line r.group meaning }

-- an event line more was read
abbrev pub line_added : Reading → Reading
line_added r = record r { events = r.events + 1 }

-- a barrier, of which there are at most 1,000
abbrev pub barrier_taken : Head → Reading → Bool → Result (Unit {0}) LineKind → Result Reading CaptureFault
barrier_taken head r stands form =
    if nat_lt MOST_BARRIERS r.phase then Err (refused.TooLong Barriers)
    else at_line r.line (placed stands form) >>= (λ _. Ok (phase_ended head r))

-- a tick line is counted; there are at most 20,000
abbrev pub tick_counted : Reading → Result Reading CaptureFault
tick_counted r = if nat_le MOST_TICK_LINES r.ticks then Err (refused.TooLong Ticks) else Ok (record r { ticks = r.ticks + 1 })

-- an event line, of which there are at most 200,000, is counted
abbrev pub line_counted : Reading → Bool → Result Reading CaptureFault
line_counted r is_tick =
    if nat_le MOST_LINES r.events then Err (refused.TooLong Lines)
    else if is_tick then tick_counted r
    else Ok r

-- an event line is taken, if it may stand where it does
abbrev pub event_put : Bool → Result Meaning LineKind → Reading → Result Reading CaptureFault
event_put stands form r = at_line r.line (placed stands form) >>= (λ meaning. Ok (line_added (meaning_taken r meaning)))

-- an event line, which is counted before its form is tested
abbrev pub event_taken : Reading → Bool → Bool → Result Meaning LineKind → Result Reading CaptureFault
event_taken r is_tick stands form = line_counted r is_tick >>= event_put stands form

abbrev pub words_taken : Head → Reading → List (List ℕ) → Result Reading CaptureFault
words_taken head r ws =
    if begins (codes "w") ws then barrier_taken head r (may_stand r.group ws) (barrier_form ws)
    else event_taken r (begins (codes "t") ws) (may_stand r.group ws) (meaning_of head ws)

-- the line of this number is taken
abbrev pub at_number : Reading → ℕ → Reading
at_number r number = record r { line = number }

-- one line more was read
abbrev pub line_taken : Head → Reading → Stated → Result Reading CaptureFault
line_taken head r line = words_taken head (at_number r line.0) (words line.1)

-- what a line says was taken
abbrev pub said_taken : Head → Reading → Saying → Result Reading CaptureFault
said_taken head r (said.Barrier standing form) = barrier_taken head r (may_stand_as r.group standing) form
said_taken head r (said.Event event) = event_taken r event.is_tick (may_stand_as r.group event.standing) event.meaning

-- one line more was taken, of which it is known what it says
abbrev pub read_taken : Head → Reading → LineRead → Result Reading CaptureFault
read_taken head r line = said_taken head (at_number r line.number) line.saying

-- one after the other, up to the first fault
unfoldable pub all_taken : {A : Type 0} → (Reading → A → Result Reading CaptureFault) → Reading → List A → Result Reading CaptureFault
all_taken take r [] = Ok r
all_taken take r (x ∷ more) = take r x >>= (λ s. all_taken take s more)

abbrev pub lines_taken : Head → Reading → List Stated → Result Reading CaptureFault
lines_taken head r ls = all_taken (line_taken head) r ls

abbrev pub reads_taken : Head → Reading → List LineRead → Result Reading CaptureFault
reads_taken head r reads = all_taken (read_taken head) r reads

-- what lines say, which are numbered from this number on
abbrev pub read_at : ℕ → LineRead → LineRead
read_at first line = record line { number = first + line.number }

abbrev pub reads_at : ℕ → List LineRead → List LineRead
reads_at first reads = map (read_at first) reads

-- before the first line
abbrev pub nothing_read : Head → Reading
nothing_read head = record { phases = []; current = empty_phase head.links; phase = 1; line = 0; events = 0; ticks = 0; group = None }

-- no group stands open behind the last line
abbrev pub closed : Option OpenGroup → Result (Unit {0}) CaptureFault
closed None = Ok tt
closed (Some group) = Err (refused.Line record { line = group.line; kind = Group })

-- the phases; without event lines there is none
abbrev pub phases_read : Reading → List (List Stamped)
phases_read r = if r.events == 0 then [] else r.phases ++ r.current ∷ []

-- those phases, where no group stands open
abbrev pub phases_closed : Reading → Result (List (List Stamped)) CaptureFault
phases_closed r = closed r.group >>= (λ _. Ok (phases_read r))
