-- One step of a connection.
use Rattle.std.proofs.Common.{ℕ, List, [], ◌∷◌, fold, Option, Some, None}
use Rattle.relay_base.specs.declared.words.Event.{Event}
use Rattle.relay_base.specs.declared.words.Event.TheVariants.{Message as Arrived, Asked as Requested, Tick}
use Rattle.relay_base.specs.declared.words.Request.{Request}
use Rattle.relay_base.specs.declared.words.Output.{Output}
use Rattle.plant_core.specs.declared.terms.Ticks.{Ticks}
use Rattle.section_model.specs.declared.cell.Timer.{Timer}
use Rattle.section_model.specs.Ends.{End, wire, owner, Section, Connection, turned}
use Rattle.section_model.specs.Parameters.{Arrival, arrival_in}
use Rattle.section_model.specs.Timing.{firing_order}
use Rattle.section_model.specs.Coupling.{on_that}
use Rattle.section_model.specs.Step.{hears_message, asks, ticked, is_due_at, fires_at, fires, fires_next, fires_due, ticks_by, is_named, at_this, at_reference, heard_by, asked_by, event_step, connection_step}
use Rattle.connection_law.specs.InStep.{IsInStep, AreInStep}
use Rattle.connection_law.specs.FlowLaw.{StepKeeps}
use Rattle.connection_law.proofs.Flow.Ends.{kept_back}
use Rattle.connection_law.proofs.Flow.Flowing.{either}
use Rattle.connection_law.proofs.Flow.Hearing.{hears_kept, fires_kept}
use Rattle.connection_law.proofs.Flow.Asking.{asks_kept}
use Rattle.connection_law.proofs.Flow.Leaving.{after_event_kept}

-- a part of a step that keeps what flows
abbrev StaysInStep : (Connection → Connection × List Output) → Type 0
StaysInStep part = (c : Connection) → IsInStep c → IsInStep (part c).0

keeps_that : (part : Connection → Connection × List Output) → StaysInStep part → StaysInStep (on_that part)
keeps_that part keeps c k = kept_back (part (turned c)).0 (keeps (turned c) (kept_back c k))

-- A tick.

ticked_kept : (this that : End) → AreInStep this that → AreInStep (ticked this) (ticked that)
ticked_kept (wire x) (wire y) k = k
ticked_kept (wire x) (owner v) k = k
ticked_kept (owner u) (wire y) k = k
ticked_kept (owner u) (owner v) k = k

fires_at_kept : (ticks : Ticks) (timer : Timer) (this that : End) → AreInStep this that → IsInStep (fires_at ticks timer this that).0
fires_at_kept ticks timer (wire x) that k = fires_kept ticks timer x that k
fires_at_kept ticks timer (owner u) that k = k

fires_if_due : (ticks : Ticks) (timer : Timer) (this that : End) → AreInStep this that → IsInStep (fires ticks timer this that).0
fires_if_due ticks timer this that k =
    either (λ (r : Connection × List Output). IsInStep r.0) (is_due_at timer this) _ _ (λ _. fires_at_kept ticks timer this that k) (λ _. k)

fires_in_order : (ticks : Ticks) (timers : List Timer) (r : Connection × List Output) → IsInStep r.0 → IsInStep (fold (fires_next ticks) r timers).0
fires_in_order ticks [] r k = k
fires_in_order ticks (timer ∷ timers) r k = fires_in_order ticks timers (fires_next ticks r timer) (fires_if_due ticks timer r.0.this r.0.that k)

fires_due_kept : (ticks : Ticks) → StaysInStep (fires_due ticks)
unfolding fires_due
fires_due_kept ticks c k = fires_in_order ticks firing_order (c, []) k

ticks_kept : (ticks : Ticks) → StaysInStep (ticks_by ticks)
ticks_kept ticks c k =
    keeps_that (fires_due ticks) (fires_due_kept ticks) _ (fires_due_kept ticks (record { this = ticked c.this; that = ticked c.that }) (ticked_kept c.this c.that k))

-- A message, and a request.

at_this_kept : (part : Section → End → Connection × List Output) → ((x : Section) (that : End) → AreInStep (wire x) that → IsInStep (part x that).0) → (this that : End) → AreInStep this that
    → IsInStep (at_this part (record { this = this; that = that })).0
at_this_kept part keeps (wire x) that k = keeps x that k
at_this_kept part keeps (owner u) that k = k

at_reference_kept : (reference : ℕ) (part : Section → End → Connection × List Output) → ((x : Section) (that : End) → AreInStep (wire x) that → IsInStep (part x that).0) → StaysInStep (at_reference reference part)
at_reference_kept reference part keeps c k =
    either (λ (r : Connection × List Output). IsInStep r.0) (is_named reference c.this) _ _
    (λ _. at_this_kept part keeps c.this c.that k) (λ _. keeps_that (at_this part) (λ d. at_this_kept part keeps d.this d.that) c k)

heard_kept : (ticks : Ticks) (point : ℕ) (a : Option Arrival) → StaysInStep (heard_by ticks point a)
heard_kept ticks point None c k = k
heard_kept ticks point (Some a) c k =
    at_reference_kept a.parameters.dlr (hears_message ticks a.occasion point a.parameters) (hears_kept ticks a.occasion point a.parameters) c k

asked_kept : (ticks : Ticks) (ssn : ℕ) (r : Request) (this that : End) → AreInStep this that → IsInStep (asked_by ticks ssn r (record { this = this; that = that })).0
asked_kept ticks ssn r (owner u) that k = asks_kept ticks ssn r (owner u) that k
asked_kept ticks ssn r (wire x) that k =
    keeps_that (λ d. asks ticks ssn r d.this d.that) (λ d. asks_kept ticks ssn r d.this d.that) (record { this = wire x; that = that }) k

pub event_kept : (ticks : Ticks) (event : Event) (c : Connection) → IsInStep c → IsInStep (event_step ticks c event).0
event_kept ticks (Arrived point sls bytes) c k = heard_kept ticks point (arrival_in bytes) c k
event_kept ticks (Requested ssn r) c k = asked_kept ticks ssn r c.this c.that k
event_kept ticks Tick c k = ticks_kept ticks c k

pub step_keeps : StepKeeps
unfolding connection_step
step_keeps ticks c event k = after_event_kept ticks (event_step ticks c event) (event_kept ticks event c k)
