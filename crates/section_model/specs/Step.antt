-- One step of a connection: the checks, the act of the end that the event names, what the ends hand to each other, and
-- what follows each event.
use Rattle.std.specs.Prelude.{ℕ, ◌+◌, ◌==◌, ◌||◌, ◌&&◌, nat_le, nat_lt, not, Bool, true, false, List, [], ◌∷◌, length, if◌then◌else◌, Option, Some, None, is_some, fold}
use Rattle.relay_base.specs.declared.causes.TheConstants.{ERROR_INCONSISTENT_REFERENCE}
use Rattle.relay_base.specs.declared.words.Output.TheVariants.{Sent, Told, Lost as Dropped}
use Rattle.relay_base.specs.declared.words.Lost.TheVariants as lost
use Rattle.relay_base.specs.declared.words.Reason.{Reason}
use Rattle.relay_base.specs.declared.words.Reason.TheVariants as reason
use Rattle.relay_base.specs.declared.words.Tell.TheVariants as tell
use Rattle.relay_base.specs.declared.words.Request.{Request}
use Rattle.relay_base.specs.declared.words.Request.TheVariants as request
use Rattle.relay_base.specs.declared.words.Event.{Event}
use Rattle.relay_base.specs.declared.words.Event.TheVariants.{Message as Arrived, Asked as Requested, Tick}
use Rattle.relay_base.specs.declared.limits.TheConstants.{GREATEST_CREDIT, LONGEST_DATA, LONGEST_EXPEDITED, LONGEST_TEXT}
use Rattle.section_model.specs.declared.limits.TheConstants.{MOST_WAITING}
use Rattle.section_model.specs.declared.cell.Timer.{Timer}
use Rattle.section_model.specs.declared.cell.Cell.{Cell}
use Rattle.section_model.specs.declared.cell.Cell.TheVariants as cell
use Rattle.section_model.specs.declared.cell.SectionState.TheVariants as section
use Rattle.section_model.specs.declared.cell.UserState.TheVariants as user
use Rattle.q713_codec.specs.declared.message.Message.TheVariants.{Err as Error}
use Rattle.q713_codec.specs.Writing.{spelling_of}
use Rattle.section_model.specs.Parameters.{Parameters, Arrival, arrival_in}
use Rattle.section_model.specs.declared.cell.Occasion.{Occasion}
use Rattle.section_model.specs.declared.cell.Occasion.TheVariants as on
use Rattle.section_model.specs.declared.cell.UserOccasion.TheVariants as by
use Rattle.section_model.specs.Table.{section_cell, user_cell}
use Rattle.section_model.specs.declared.cell.SectionState.{SectionState}
use Rattle.section_model.specs.declared.cell.UserState.{UserState}
use Rattle.section_model.specs.declared.hand.Acted.{Acted}
use Rattle.plant_core.specs.declared.terms.Ticks.{Ticks}
use Rattle.relay_base.specs.declared.words.Output.{Output}
use Rattle.section_model.specs.Ends.{SectionHead, Section, User, End, wire, owner, Connection, gives, is_up, is_gone, is_connected, is_reached}
use Rattle.section_model.specs.Windowed.{Windowed, leaves, acknowledges}
use Rattle.section_model.specs.UserEnd.{user_asks, unit_count}
use Rattle.section_model.specs.Timing.{firing, is_due, lowered, heard_again, rearmed, firing_order}
use Rattle.section_model.specs.Acting.{timed, by_windows, section_hears, section_fires}
use Rattle.section_model.specs.Coupling.{settles, and_then, on_that}

-- The checks before the cell (Q.714, Annex B), on a message with this meaning that comes from a point.

abbrev pub names_both : Occasion → Bool
names_both on.Rlsd = true
names_both on.Rsr = true
names_both _ = false

abbrev pub ends_both : Occasion → Bool
ends_both on.Rlc = true
ends_both on.Rsc = true
ends_both _ = false

abbrev pub is_of_class_2 : Occasion → Bool
is_of_class_2 on.Dt1 = true
is_of_class_2 _ = false

abbrev pub is_of_class_3 : Occasion → Bool
is_of_class_3 on.Dt2 = true
is_of_class_3 on.Ak = true
is_of_class_3 on.Ed = true
is_of_class_3 on.Ea = true
is_of_class_3 on.Rsr = true
is_of_class_3 on.Rsc = true
is_of_class_3 _ = false

-- the states in which the other end's reference is agreed on
abbrev pub knows_other : SectionState → Bool
knows_other section.Up = true
knows_other section.Resetting = true
knows_other section.Ending = true
knows_other _ = false

abbrev pub names_another : Parameters → SectionHead → Bool
names_another m x = knows_other x.state && not (m.slr == x.other)

abbrev pub is_of_other_class : Occasion → SectionHead → Bool
is_of_other_class o x = is_connected x.state && ((is_of_class_2 o && x.class == 3) || (is_of_class_3 o && x.class == 2))

-- RLSD, RSR, RLC and RSC name both references, and a message of the other class has no place in the section
abbrev pub checked : Occasion → Parameters → SectionHead → Option Output
checked o m x =
    if names_both o && names_another m x then Some (Sent x.point x.sls (spelling_of (Error m.slr ERROR_INCONSISTENT_REFERENCE)))
    else if ends_both o && names_another m x then Some (Dropped lost.State)
    else if is_of_other_class o x then Some (Dropped lost.Class)
    else None

-- the section keeps its state, and gives an output
abbrev pub keeps : Ticks → Output → Section → End × Acted
keeps ticks out x = timed ticks x (x, gives (out ∷ []))

abbrev pub hears_checked : Ticks → Occasion → ℕ → Parameters → Section → Option Output → End × Acted
hears_checked ticks o point m x (Some out) = keeps ticks out x
hears_checked ticks o point m x None = section_hears ticks (section_cell x.head.state o) point m x

-- a message from the section's point starts its receive inactivity timer again (Q.714, 3.4)
abbrev pub in_touch : Ticks → Section → Section
in_touch ticks x = record x { timers = heard_again ticks x.timers }

abbrev pub is_from_elsewhere : ℕ → SectionHead → Bool
is_from_elsewhere point x = is_reached x.state && not (point == x.point)

-- A message from a point on a section.
unfoldable pub hears_message : Ticks → Occasion → ℕ → Parameters → Section → End → Connection × List Output
hears_message ticks o point m x that =
    if is_from_elsewhere point x.head then (record { this = wire x; that = that }, Dropped lost.Point ∷ [])
    else settles ticks (hears_checked ticks o point m (in_touch ticks x) (checked o m x.head)) that

-- A request of a user.

-- the reference that a request names
abbrev pub named : Request → Option ℕ
named (request.Accept mine class credit body) = Some mine
named (request.Refuse mine cause body) = Some mine
named (request.Send mine body) = Some mine
named (request.Expedite mine body) = Some mine
named (request.Reset mine) = Some mine
named (request.Disc mine cause body) = Some mine
named _ = None

-- what may be asked on a connection
abbrev pub is_in_range : Request → Bool
is_in_range (request.Accept mine class credit body) = (class == 2 || class == 3) && nat_le credit GREATEST_CREDIT && nat_le (length body) LONGEST_DATA
is_in_range (request.Refuse mine cause body) = nat_le (length body) LONGEST_DATA
is_in_range (request.Send mine body) = nat_lt 0 (length body) && nat_le (length body) LONGEST_TEXT
is_in_range (request.Expedite mine body) = nat_lt 0 (length body) && nat_le (length body) LONGEST_EXPEDITED
is_in_range (request.Reset mine) = true
is_in_range (request.Disc mine cause body) = nat_le (length body) LONGEST_DATA
is_in_range _ = false

abbrev pub asking_cell : UserState → Request → Cell
asking_cell s (request.Accept mine class credit body) = user_cell s by.Accepts
asking_cell s (request.Refuse mine cause body) = user_cell s by.Refuses
asking_cell s (request.Send mine body) = user_cell s by.Sends
asking_cell s (request.Expedite mine body) = user_cell s by.Expedites
asking_cell s (request.Reset mine) = user_cell s by.Resets
asking_cell s (request.Disc mine cause body) = user_cell s by.Disconnects
asking_cell s _ = cell.Nothing

-- A request is refused for its class, and then for want of room (Q.714, 3.5 to 3.7).
abbrev pub refusal : Request → User → Section → Option Reason
refusal (request.Accept mine class credit body) u x = if nat_lt u.class class then Some reason.Class else None
refusal (request.Send mine body) u x =
    if u.class == 3 && nat_lt MOST_WAITING (length x.windows.waits + unit_count body) then Some reason.Full else None
refusal (request.Expedite mine body) u x =
    if u.class == 2 then Some reason.Class else if is_some x.windows.waiting then Some reason.Expedited else None
refusal (request.Reset mine) u x =
    if u.class == 2 then Some reason.Class else if is_up x.head.state then None else Some reason.State
refusal _ u x = None

abbrev pub is_nothing : Cell → Bool
is_nothing cell.Nothing = true
is_nothing _ = false

abbrev pub said_no : ℕ → Reason → List Output
said_no ssn why = Told ssn (tell.No why) ∷ []

-- why a request has no effect: no cell is named for it, or it is refused
abbrev pub reason_against : Request → User → Section → Option Reason
reason_against r u x = if is_nothing (asking_cell u.state r) then Some reason.State else refusal r u x

abbrev pub asks_unless : Option Reason → Ticks → Request → User → Section → Connection × List Output
asks_unless (Some why) ticks r u x = (record { this = owner u; that = wire x }, said_no u.ssn why)
asks_unless None ticks r u x = let done = user_asks (asking_cell u.state r) r u in settles ticks (owner done.0, done.1) (wire x)

abbrev pub asks_owner : Ticks → Request → User → Section → Connection × List Output
asks_owner ticks r u x = asks_unless (reason_against r u x) ticks r u x

-- A request of a subsystem, on a connection whose user stands at this end if it has one.
unfoldable pub asks : Ticks → ℕ → Request → End → End → Connection × List Output
asks ticks ssn r (owner u) (wire x) =
    if u.ssn == ssn then asks_owner ticks r u x else (record { this = owner u; that = wire x }, said_no ssn reason.Owner)
asks ticks ssn r this that = (record { this = this; that = that }, said_no ssn reason.Owner)

-- A tick.

abbrev pub ticked : End → End
ticked (wire x) = wire (record x { timers = lowered x.timers })
ticked (owner u) = owner u

abbrev pub is_due_at : Timer → End → Bool
is_due_at timer (wire x) = is_due timer x.timers
is_due_at timer (owner u) = false

abbrev pub fires_on : Ticks → Timer → Section → End → Connection × List Output
fires_on ticks timer x that =
    settles ticks (section_fires ticks (section_cell x.head.state (firing timer)) (record x { timers = rearmed ticks timer x.timers })) that

abbrev pub fires_at : Ticks → Timer → End → End → Connection × List Output
fires_at ticks timer (wire x) that = fires_on ticks timer x that
fires_at ticks timer (owner u) that = (record { this = owner u; that = that }, [])

-- a timer of this end fires where no tick is left of it
abbrev pub fires : Ticks → Timer → End → End → Connection × List Output
fires ticks timer this that =
    if is_due_at timer this then fires_at ticks timer this that else (record { this = this; that = that }, [])

abbrev pub fires_next : Ticks → Connection × List Output → Timer → Connection × List Output
fires_next ticks r timer = and_then (λ c. fires ticks timer c.this c.that) r

unfoldable pub fires_due : Ticks → Connection → Connection × List Output
fires_due ticks c = fold (fires_next ticks) (c, []) firing_order

abbrev pub ticks_by : Ticks → Connection → Connection × List Output
ticks_by ticks c = and_then (on_that (fires_due ticks)) (fires_due ticks (record { this = ticked c.this; that = ticked c.that }))

-- After each event, on a section of class 3 that is up (Q.714, 3.5.2 and 3.6).
abbrev pub on_windows : Ticks → (Windowed → Windowed × Acted) → End → End → Connection × List Output
on_windows ticks act (wire x) that =
    if is_up x.head.state && x.head.class == 3 then settles ticks (timed ticks x (by_windows act x)) that
    else (record { this = wire x; that = that }, [])
on_windows ticks act (owner u) that = (record { this = owner u; that = that }, [])

abbrev pub on_each : (End → End → Connection × List Output) → Connection × List Output → Connection × List Output
on_each part r = and_then (on_that (λ c. part c.this c.that)) (and_then (λ c. part c.this c.that) r)

unfoldable pub after_event : Ticks → Connection × List Output → Connection × List Output
after_event ticks r = on_each (on_windows ticks acknowledges) (on_each (on_windows ticks leaves) r)

-- The step.

abbrev pub is_named : ℕ → End → Bool
is_named reference (wire x) = x.head.mine == reference && not (is_gone x.head.state)
is_named reference (owner u) = false

-- on this end, if it is a section
abbrev pub at_this : (Section → End → Connection × List Output) → Connection → Connection × List Output
at_this part c = elim c.this [ wire x ↦ part x c.that | owner u ↦ (c, []) ]

-- on the end that a reference names
abbrev pub at_reference : ℕ → (Section → End → Connection × List Output) → Connection → Connection × List Output
at_reference reference part c = if is_named reference c.this then at_this part c else on_that (at_this part) c

-- a message for a connection
abbrev pub heard_by : Ticks → ℕ → Option Arrival → Connection → Connection × List Output
heard_by ticks point None c = (c, [])
heard_by ticks point (Some a) c = at_reference a.parameters.dlr (hears_message ticks a.occasion point a.parameters) c

-- a request, on the end that is the user's
abbrev pub asked_by : Ticks → ℕ → Request → Connection → Connection × List Output
asked_by ticks ssn r c = elim c.this [ owner u ↦ asks ticks ssn r c.this c.that | wire x ↦ on_that (λ d. asks ticks ssn r d.this d.that) c ]

abbrev pub event_step : Ticks → Connection → Event → Connection × List Output
event_step ticks c (Arrived point sls bytes) = heard_by ticks point (arrival_in bytes) c
event_step ticks c (Requested ssn r) = asked_by ticks ssn r c
event_step ticks c Tick = ticks_by ticks c

-- The connection after an event that it hears, and its outputs.
unfoldable pub connection_step : Ticks → Connection → Event → Connection × List Output
connection_step ticks c event = after_event ticks (event_step ticks c event)

-- What a connection hears: a tick unless it is over, and a message or a request that names a reference of it, as a whole number, of an end that
-- isn't gone.
abbrev pub names : Option ℕ → Connection → Bool
names None c = false
names (Some reference) c = is_named reference c.this || is_named reference c.that

abbrev pub end_is_gone : End → Bool
end_is_gone (wire x) = is_gone x.head.state
end_is_gone (owner u) = is_user_gone u.state
  where
    is_user_gone : UserState → Bool
    is_user_gone user.Gone = true
    is_user_gone _ = false

abbrev pub is_over : Connection → Bool
is_over c = end_is_gone c.this && end_is_gone c.that

-- the reference that a message is for
abbrev pub destination_of : Option Arrival → Option ℕ
destination_of None = None
destination_of (Some a) = Some a.parameters.dlr

unfoldable pub hears : Connection → Event → Bool
hears c (Arrived point sls bytes) = names (destination_of (arrival_in bytes)) c
hears c (Requested ssn r) = is_in_range r && names (named r) c
hears c Tick = not (is_over c)
