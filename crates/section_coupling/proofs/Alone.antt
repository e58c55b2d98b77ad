-- What one end does, and then the ends hand to each other, is a part of a step.
use Rattle.std.proofs.Common.{◌≡◌, ◌==◌, ◌&&◌, append-nil, fold, ℕ, Bool, true, false, List, [], ◌∷◌, if◌then◌else◌, refl, sym, ap, ◌∙◌}
use Rattle.std.specs.Prelude.{Option, Some, None}
use Rattle.std.proofs.lemmas.List.{append_assoc}
use Rattle.relay_base.specs.declared.words.Output.{Output}
use Rattle.relay_base.specs.declared.words.Output.TheVariants.{Lost as Dropped}
use Rattle.relay_base.specs.declared.words.Lost.TheVariants as lost
use Rattle.relay_base.specs.declared.words.Reason.{Reason}
use Rattle.relay_base.specs.declared.words.Reason.TheVariants as reason
use Rattle.relay_base.specs.declared.words.Request.{Request}
use Rattle.plant_core.specs.declared.terms.Ticks.{Ticks}
use Rattle.section_model.specs.declared.cell.Cell.{Cell}
use Rattle.section_model.specs.declared.cell.Timer.{Timer}
use Rattle.section_model.specs.declared.hand.Acted.{Acted}
use Rattle.section_model.specs.Ends.{Section, User, End, wire, owner, Connection, turned, gives, no_effect, is_up}
use Rattle.section_model.specs.Acting.{timed, by_windows}
use Rattle.section_model.specs.Coupling.{settles, and_then, on_that}
use Rattle.section_model.specs.Step.{reason_against, said_no, asks_owner, asks_unless as asks_unless_against, asks, is_from_elsewhere, in_touch, at_this, hears_message, fires, fires_at, fires_next, fires_due, is_due_at, on_windows, on_each}
use Rattle.section_class3.specs.Windows.{windows_turn}
use Rattle.section_coupling.specs.declared.clock.Clock.{Clock}
use Rattle.section_coupling.specs.declared.coming.Coming.{Coming}
use Rattle.section_coupling.specs.Views.{behind}
use Rattle.section_coupling.specs.Inner.Comings.{hears_coming, hears_on}
use Rattle.section_coupling.specs.Inner.Alone.{turns_alone, fires_alone, hears_alone, asks_unless, asks_beside}
use Rattle.section_model.specs.Timing.{firing_order}
use Rattle.section_coupling.proofs.Exchanging.{one-turn, all_behind}

-- an end that hands nothing over
quiet : (ticks : Ticks) (this that : End) (outs : List Output) → settles ticks (this, gives outs) that ≡ (record { this = this; that = that }, outs)
quiet ticks this that outs = one-turn 1 ticks (this, gives outs) that

-- what an end has done is settled
pub done_alone : (ticks : Ticks) (acts acted : End × Acted) (that : End) (outs : List Output) (part r : Connection × List Output) → settles ticks acts that ≡ part → acts ≡ acted
    → behind outs (settles ticks acted that) ≡ r → behind outs part ≡ r
done_alone ticks acts acted that outs part r e f g = ap (behind outs) (sym e) ∙ (ap (λ (a : End × Acted). behind outs (settles ticks a that)) f ∙ g)

pub turns_settle : (ticks : Ticks) (c : Cell) (this that : End) → settles ticks (turns_alone ticks c this) that ≡ on_windows ticks (windows_turn c) this that
turns_settle ticks c (wire x) that = by_test (is_up x.head.state && x.head.class == 3)
  where
    by_test : (b : Bool) → settles ticks (if b then timed ticks x (by_windows (windows_turn c) x) else (wire x, no_effect)) that
        ≡ (if b then settles ticks (timed ticks x (by_windows (windows_turn c) x)) that else (record { this = wire x; that = that }, []))
    by_test true = refl
    by_test false = quiet ticks (wire x) that []
turns_settle ticks c (owner u) that = quiet ticks (owner u) that []

-- a part on the other end
pub other_done : (part : Connection → Connection × List Output) (c e : Connection) (outs all : List Output) → behind outs (part (turned c)) ≡ (turned e, all) → behind outs (on_that part c) ≡ (e, all)
other_done part c e outs all f = ap (λ (r : Connection × List Output). (turned r.0, r.1)) f

-- on each end in turn
pub each_done : (part : End → End → Connection × List Output) (c d e : Connection) (outs more all : List Output) → behind outs (part c.this c.that) ≡ (d, more)
    → behind more (part d.that d.this) ≡ (turned e, all) → on_each part (c, outs) ≡ (e, all)
each_done part c d e outs more all f g =
    ap (and_then (on_that (λ c. part c.this c.that))) f ∙ ap (λ (r : Connection × List Output). (turned r.0, r.1)) g

pub fires_settle : (ticks : Ticks) (timer : Timer) (this that : End) → settles ticks (fires_alone ticks timer this) that ≡ fires_at ticks timer this that
fires_settle ticks timer (wire x) that = refl
fires_settle ticks timer (owner u) that = quiet ticks (owner u) that []

-- a timer that is due
pub due_fires : (ticks : Ticks) (timer : Timer) (c : Connection) (outs : List Output) (r : Connection × List Output) → is_due_at timer c.this ≡ true
    → behind outs (fires_at ticks timer c.this c.that) ≡ r → fires_next ticks (c, outs) timer ≡ r
due_fires ticks timer c outs r due e = rw due e

fires_behind : (ticks : Ticks) (outs : List Output) (r : Connection × List Output) (timer : Timer) → fires_next ticks (behind outs r) timer ≡ behind outs (fires_next ticks r timer)
fires_behind ticks outs r timer =
    let done : Connection × List Output = fires ticks timer r.0.this r.0.that in
    ap (λ (all : List Output). (done.0, all)) (append_assoc outs r.1 done.1)

-- all that are due fire in their order
pub due_behind : (ticks : Ticks) (c : Connection) (outs : List Output) (r : Connection × List Output) → fold (fires_next ticks) (c, outs) firing_order ≡ r → behind outs (fires_due ticks c) ≡ r
unfolding fires_due
due_behind ticks c outs r e =
    sym (all_behind (fires_next ticks) outs (fires_behind ticks outs) (c, []) firing_order)
    ∙ (ap (λ (all : List Output). fold (fires_next ticks) (c, all) firing_order) (append-nil outs) ∙ e)

pub hears_settle : (clock : Clock) (c : Coming) (this that : End) → settles clock.ticks (hears_alone clock c this) that ≡ at_this (hears_on clock c) (record { this = this; that = that })
unfolding hears_message
hears_settle clock c (wire x) that = by_test (is_from_elsewhere c.point x.head)
  where
    heard : End × Acted
    heard = hears_coming clock c (in_touch clock.ticks x)

    by_test : (b : Bool) → settles clock.ticks (if b then (wire x, gives (Dropped lost.Point ∷ [])) else heard) that
        ≡ (if b then (record { this = wire x; that = that }, Dropped lost.Point ∷ []) else settles clock.ticks heard that)
    by_test true = quiet clock.ticks (wire x) that (Dropped lost.Point ∷ [])
    by_test false = refl
hears_settle clock c (owner u) that = quiet clock.ticks (owner u) that []

unless_settle : (ticks : Ticks) (against : Option Reason) (r : Request) (u : User) (x : Section)
    → (let done = asks_unless against r u in settles ticks (owner done.0, done.1) (wire x)) ≡ asks_unless_against against ticks r u x
unless_settle ticks (Some why) r u x = quiet ticks (owner u) (wire x) (said_no u.ssn why)
unless_settle ticks None r u x = refl

pub asks_settle : (ticks : Ticks) (ssn : ℕ) (r : Request) (this that : End) → settles ticks (asks_beside ssn r this that) that ≡ asks ticks ssn r this that
unfolding asks
asks_settle ticks ssn r (owner u) (wire x) = by_test (u.ssn == ssn)
  where
    by_test : (b : Bool) → (let done = (if b then asks_unless (reason_against r u x) r u else (u, gives (said_no ssn reason.Owner))) in settles ticks (owner done.0, done.1) (wire x))
        ≡ (if b then asks_owner ticks r u x else (record { this = owner u; that = wire x }, said_no ssn reason.Owner))
    by_test true = unless_settle ticks (reason_against r u x) r u x
    by_test false = quiet ticks (owner u) (wire x) (said_no ssn reason.Owner)
asks_settle ticks ssn r (owner u) (owner v) = quiet ticks (owner u) (owner v) (said_no ssn reason.Owner)
asks_settle ticks ssn r (wire x) that = quiet ticks (wire x) that (said_no ssn reason.Owner)

-- the timers of one end, and then those of the other one
pub both_fired : (ticks : Ticks) (c d e : Connection) (outs more all : List Output) → behind outs (fires_due ticks c) ≡ (d, more) → behind more (fires_due ticks (turned d)) ≡ (turned e, all)
    → behind outs (and_then (on_that (fires_due ticks)) (fires_due ticks c)) ≡ (e, all)
both_fired ticks c d e outs more all f g =
    let first : Connection × List Output = fires_due ticks c in
    let last : Connection × List Output = fires_due ticks (turned first.0) in
    ap (λ (os : List Output). (turned last.0, os)) (sym (append_assoc outs first.1 last.1))
    ∙ (ap (λ (r : Connection × List Output). and_then (on_that (fires_due ticks)) r) f ∙ ap (λ (r : Connection × List Output). (turned r.0, r.1)) g)
