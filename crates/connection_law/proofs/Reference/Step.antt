-- The parts of a step, for what each act keeps; and then for the references of the ends.
use Rattle.std.proofs.Common.{◌∙◌, ℕ, ◌==◌, ◌&&◌, List, [], ◌∷◌, fold, Option, Some, None, refl}
use Rattle.relay_base.specs.declared.words.Event.{Event}
use Rattle.relay_base.specs.declared.words.Event.TheVariants.{Message as Arrived, Asked as Requested, Tick}
use Rattle.relay_base.specs.declared.words.Request.{Request}
use Rattle.relay_base.specs.declared.words.Reason.{Reason}
use Rattle.relay_base.specs.declared.words.Output.{Output}
use Rattle.plant_core.specs.declared.terms.Ticks.{Ticks}
use Rattle.section_model.specs.declared.cell.Occasion.{Occasion}
use Rattle.section_model.specs.declared.cell.Timer.{Timer}
use Rattle.section_model.specs.declared.hand.Acted.{Acted}
use Rattle.section_model.specs.Ends.{End, wire, owner, Section, User, Connection, turned, is_up}
use Rattle.section_model.specs.Parameters.{Parameters, Arrival, arrival_in}
use Rattle.section_model.specs.Timing.{firing_order}
use Rattle.section_model.specs.Windowed.{Windowed, leaves, acknowledges}
use Rattle.section_model.specs.Acting.{timed, by_windows}
use Rattle.section_model.specs.Coupling.{and_then, on_that}
use Rattle.section_model.specs.Step.{checked, hears_message, is_from_elsewhere, reason_against, asks_unless, asks, ticked, is_due_at, fires_at, fires, fires_next, fires_due, ticks_by, on_windows, on_each, after_event, is_named, at_this, at_reference, heard_by, asked_by, event_step, connection_step}
use Rattle.connection_law.specs.ReferenceLaw.{Stays, StepStays}
use Rattle.connection_law.proofs.Reference.Ends.{either, IsKept, Both, both_same, both_in_turn, both_turned}
use Rattle.connection_law.proofs.Reference.Acting.{hears_stays, fires_stays, takes_stays, asks_stays, leaves_head, acknowledges_head, windows_stay}
use Rattle.connection_law.proofs.Reference.Settling.{settled}

-- a part of a step that is within the relation on both ends, as of a connection, of its ends, and of a section
abbrev pub Keeps : (End → End → Type 0) → (Connection → Connection × List Output) → Type 0
Keeps Later part = (c : Connection) → Both Later c (part c).0

abbrev pub KeepsEnds : (End → End → Type 0) → (End → End → Connection × List Output) → Type 0
KeepsEnds Later part = (this that : End) → Both Later (record { this = this; that = that }) (part this that).0

abbrev KeepsSection : (End → End → Type 0) → (Section → End → Connection × List Output) → Type 0
KeepsSection Later part = (x : Section) (that : End) → Both Later (record { this = wire x; that = that }) (part x that).0

abbrev From : (End → End → Type 0) → Connection → Connection × List Output → Type 0
From Later c r = Both Later c r.0

pub keeps_that : (Later : End → End → Type 0) (part : Connection → Connection × List Output) → Keeps Later part → Keeps Later (on_that part)
keeps_that Later part keeps c = both_turned Later c (part (turned c)).0 (keeps (turned c))

pub keeps_then : {ticks : Ticks} {Later : End → End → Type 0} → IsKept ticks Later → (part : Connection → Connection × List Output) → Keeps Later part
    → (c : Connection) (r : Connection × List Output) → Both Later c r.0 → Both Later c (and_then part r).0
keeps_then k part keeps c r later = both_in_turn k c r.0 (part r.0).0 later (keeps r.0)

-- A message.

hears_kept : {ticks : Ticks} {Later : End → End → Type 0} → IsKept ticks Later → (o : Occasion) (point : ℕ) (m : Parameters) → KeepsSection Later (hears_message ticks o point m)
unfolding hears_message
hears_kept {ticks} {Later} k o point m x that =
    either (From Later (record { this = wire x; that = that })) (is_from_elsewhere point x.head) _ _
    (both_same k (record { this = wire x; that = that }))
    (settled k (wire x) that _ (k.hears o point m x (checked o m x.head)))

at_this_kept : {ticks : Ticks} {Later : End → End → Type 0} → IsKept ticks Later → (part : Section → End → Connection × List Output) → KeepsSection Later part
    → KeepsEnds Later (λ this that. at_this part (record { this = this; that = that }))
at_this_kept k part keeps (wire x) that = keeps x that
at_this_kept k part keeps (owner u) that = both_same k (record { this = owner u; that = that })

at_reference_kept : {ticks : Ticks} {Later : End → End → Type 0} → IsKept ticks Later → (reference : ℕ) (part : Section → End → Connection × List Output) → KeepsSection Later part
    → Keeps Later (at_reference reference part)
at_reference_kept {ticks} {Later} k reference part keeps c =
    either (From Later c) (is_named reference c.this) _ _
    (at_this_kept k part keeps c.this c.that) (keeps_that Later (at_this part) (λ d. at_this_kept k part keeps d.this d.that) c)

pub heard_kept : {ticks : Ticks} {Later : End → End → Type 0} → IsKept ticks Later → (point : ℕ) (a : Option Arrival) → Keeps Later (heard_by ticks point a)
heard_kept k point None c = both_same k c
heard_kept {ticks} k point (Some a) c =
    at_reference_kept k a.parameters.dlr (hears_message ticks a.occasion point a.parameters) (hears_kept k a.occasion point a.parameters) c

-- A request.

asks_unless_kept : {ticks : Ticks} {Later : End → End → Type 0} → IsKept ticks Later → (why : Option Reason) (r : Request) (u : User) (x : Section)
    → From Later (record { this = owner u; that = wire x }) (asks_unless why ticks r u x)
asks_unless_kept k (Some why) r u x = both_same k (record { this = owner u; that = wire x })
asks_unless_kept k None r u x = settled k (owner u) (wire x) _ (k.asks r u)

asks_kept : {ticks : Ticks} {Later : End → End → Type 0} → IsKept ticks Later → (ssn : ℕ) (r : Request) → KeepsEnds Later (asks ticks ssn r)
unfolding asks
asks_kept {ticks} {Later} k ssn r (owner u) (wire x) =
    either (From Later (record { this = owner u; that = wire x })) (u.ssn == ssn) _ _
    (asks_unless_kept k (reason_against r u x) r u x) (both_same k (record { this = owner u; that = wire x }))
asks_kept k ssn r (owner u) (owner v) = both_same k (record { this = owner u; that = owner v })
asks_kept k ssn r (wire x) that = both_same k (record { this = wire x; that = that })

pub asked_kept : {ticks : Ticks} {Later : End → End → Type 0} → IsKept ticks Later → (ssn : ℕ) (r : Request)
    → KeepsEnds Later (λ this that. asked_by ticks ssn r (record { this = this; that = that }))
asked_kept k ssn r (owner u) that = asks_kept k ssn r (owner u) that
asked_kept {ticks} {Later} k ssn r (wire x) that =
    keeps_that Later (λ d. asks ticks ssn r d.this d.that) (λ d. asks_kept k ssn r d.this d.that) (record { this = wire x; that = that })

-- What follows each event.

on_windows_kept : {ticks : Ticks} {Later : End → End → Type 0} → IsKept ticks Later → (act : Windowed → Windowed × Acted)
    → ((x : Section) → Later (wire x) (timed ticks x (by_windows act x)).0) → KeepsEnds Later (on_windows ticks act)
on_windows_kept {ticks} {Later} k act later (wire x) that =
    either (From Later (record { this = wire x; that = that })) (is_up x.head.state && x.head.class == 3) _ _
    (settled k (wire x) that _ (later x)) (both_same k (record { this = wire x; that = that }))
on_windows_kept k act later (owner u) that = both_same k (record { this = owner u; that = that })

-- a part of a step on one end, and then on the other
on_each_kept : {ticks : Ticks} {Later : End → End → Type 0} → IsKept ticks Later → (part : End → End → Connection × List Output) → KeepsEnds Later part
    → (c : Connection) (r : Connection × List Output) → From Later c r → From Later c (on_each part r)
on_each_kept {ticks} {Later} k part keeps c r later =
    let on_this : Connection → Connection × List Output = λ d. part d.this d.that in
    let keeps_this : Keeps Later on_this = λ d. keeps d.this d.that in
    keeps_then k (on_that on_this) (keeps_that Later on_this keeps_this) c (and_then on_this r) (keeps_then k on_this keeps_this c r later)

pub after_event_kept : {ticks : Ticks} {Later : End → End → Type 0} → IsKept ticks Later → (c : Connection) (r : Connection × List Output)
    → Both Later c r.0 → Both Later c (after_event ticks r).0
unfolding after_event
after_event_kept {ticks} k c r later =
    on_each_kept k (on_windows ticks acknowledges) (on_windows_kept k acknowledges k.acknowledges) c (on_each (on_windows ticks leaves) r)
    (on_each_kept k (on_windows ticks leaves) (on_windows_kept k leaves k.leaves) c r later)

-- The references.

pub stay_kept : (ticks : Ticks) → IsKept ticks Stays
stay_kept ticks = record {
  same = λ e. record { reference = refl; gone = λ g. g };
  in_turn = λ e f g one other. record { reference = other.reference ∙ one.reference; gone = λ is_gone. other.gone (one.gone is_gone) };
  hears = λ o point m x c. hears_stays ticks o point m x c;
  takes = λ h e. takes_stays ticks h e;
  asks = λ r u. asks_stays r u;
  leaves = λ x. windows_stay ticks leaves leaves_head x;
  acknowledges = λ x. windows_stay ticks acknowledges acknowledges_head x;
}

-- A tick.

ticked_stays : (e : End) → Stays e (ticked e)
ticked_stays (wire x) = record { reference = refl; gone = λ g. g }
ticked_stays (owner u) = record { reference = refl; gone = λ g. g }

fires_at_kept : (ticks : Ticks) (timer : Timer) → KeepsEnds Stays (fires_at ticks timer)
fires_at_kept ticks timer (wire x) that = settled (stay_kept ticks) (wire x) that _ (fires_stays ticks timer x)
fires_at_kept ticks timer (owner u) that = both_same (stay_kept ticks) (record { this = owner u; that = that })

fires_if_due : (ticks : Ticks) (timer : Timer) → KeepsEnds Stays (fires ticks timer)
fires_if_due ticks timer this that =
    either (From Stays (record { this = this; that = that })) (is_due_at timer this) _ _
    (fires_at_kept ticks timer this that) (both_same (stay_kept ticks) (record { this = this; that = that }))

fires_in_order : (ticks : Ticks) (timers : List Timer) (c : Connection) (r : Connection × List Output) → From Stays c r → From Stays c (fold (fires_next ticks) r timers)
fires_in_order ticks [] c r stays = stays
fires_in_order ticks (timer ∷ timers) c r stays =
    fires_in_order ticks timers c (fires_next ticks r timer)
    (keeps_then (stay_kept ticks) (λ d. fires ticks timer d.this d.that) (λ d. fires_if_due ticks timer d.this d.that) c r stays)

fires_due_kept : (ticks : Ticks) → Keeps Stays (fires_due ticks)
unfolding fires_due
fires_due_kept ticks c = fires_in_order ticks firing_order c (c, []) (both_same (stay_kept ticks) c)

ticks_kept : (ticks : Ticks) → Keeps Stays (ticks_by ticks)
ticks_kept ticks c =
    let k = stay_kept ticks in
    let lower : Connection = record { this = ticked c.this; that = ticked c.that } in
    keeps_then k (on_that (fires_due ticks)) (keeps_that Stays (fires_due ticks) (fires_due_kept ticks)) c (fires_due ticks lower)
    (both_in_turn k c lower (fires_due ticks lower).0 (ticked_stays c.this, ticked_stays c.that) (fires_due_kept ticks lower))

-- The step.

event_kept : (ticks : Ticks) (event : Event) → Keeps Stays (λ c. event_step ticks c event)
event_kept ticks (Arrived point sls bytes) c = heard_kept (stay_kept ticks) point (arrival_in bytes) c
event_kept ticks (Requested ssn r) c = asked_kept (stay_kept ticks) ssn r c.this c.that
event_kept ticks Tick c = ticks_kept ticks c

pub step_keeps : (ticks : Ticks) (c : Connection) (event : Event) → Both Stays c (connection_step ticks c event).0
unfolding connection_step
step_keeps ticks c event = after_event_kept (stay_kept ticks) c (event_step ticks c event) (event_kept ticks event c)

pub step_stays : StepStays
step_stays ticks c event = let both = step_keeps ticks c event in record { this = both.0; that = both.1 }
