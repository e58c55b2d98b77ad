-- A tick on a connection that rests, and of which no timer is due, gives it back.
use Rattle.std.proofs.Common.{◌≡◌, ◌==◌, ◌&&◌, true, false, List, [], ◌∷◌, fold, if◌then◌else◌, refl, ap, ◌∙◌, add-zero}
use Rattle.std.proofs.Math.Bool.{or-false}
use Rattle.std.proofs.lemmas.Bool.{eqb-false}
use Rattle.relay_base.specs.declared.words.Event.TheVariants.{Tick}
use Rattle.relay_base.specs.declared.words.Output.{Output}
use Rattle.plant_core.specs.declared.terms.Ticks.{Ticks}
use Rattle.section_model.specs.declared.cell.Timer.{Timer}
use Rattle.section_model.specs.declared.cell.SectionState.{SectionState}
use Rattle.section_model.specs.declared.cell.SectionState.TheVariants as section
use Rattle.section_model.specs.declared.hand.Acted.{Acted}
use Rattle.section_model.specs.Ends.{End, wire, owner, Section, Timers, Connection, turned, no_effect, is_up}
use Rattle.section_model.specs.Timing.{firing_order, timers_after}
use Rattle.section_model.specs.Acting.{timed, by_windows}
use Rattle.section_model.specs.Windowed.{Windowed, leaves, acknowledges}
use Rattle.section_model.specs.Coupling.{exchange, settles}
use Rattle.section_model.specs.Step.{is_due_at, fires, fires_at, fires_next, fires_due, ticked, on_windows, on_each, after_event, connection_step}
use Rattle.connection_law.proofs.Flow.Flowing.{either}
use Rattle.connection_law.specs.Resting.{AreDrained, EndRests, Rests}

-- Nothing leaves.

pub nothing_leaves : (x : Windowed) → AreDrained x.windows → leaves x ≡ (x, no_effect)
unfolding leaves
nothing_leaves x d = rw (d.0, d.1, add-zero, or-false) refl

nothing_owed : (x : Windowed) → x.windows.passed ≡ x.windows.told → acknowledges x ≡ (x, no_effect)
unfolding acknowledges
nothing_owed x e =
    either (λ (r : Windowed × Acted). r ≡ (x, no_effect)) (x.windows.passed == x.windows.told) _ _ (λ _. refl) (λ other. absurd (eqb-false _ _ other e))

-- an act without effect leaves the timers
same_timers : (ticks : Ticks) (s : SectionState) (t : Timers) → timers_after ticks s s false t ≡ t
unfolding timers_after
same_timers ticks section.Asked t = refl
same_timers ticks section.Asking t = refl
same_timers ticks section.Waning t = refl
same_timers ticks section.Up t = refl
same_timers ticks section.Resetting t = refl
same_timers ticks section.Ending t = refl
same_timers ticks section.Gone t = refl

-- an act without effect settles at once
pub settled : (ticks : Ticks) (x : Section) (that : End) → settles ticks (timed ticks x (x, no_effect)) that ≡ (record { this = wire x; that = that }, [])
unfolding exchange
settled ticks x that = ap (λ t. (record { this = wire (record x { timers = t }); that = that }, [])) (same_timers ticks x.head.state x.timers)

-- a part of what follows an event that has no effect
abbrev Idle : (Windowed → Windowed × Acted) → End → Type 0
Idle act (wire x) = (is_up x.head.state && x.head.class == 3) ≡ true → act (record { head = x.head; windows = x.windows }) ≡ (record { head = x.head; windows = x.windows }, no_effect)
Idle act (owner u) = Unit {0}

stays : (ticks : Ticks) (act : Windowed → Windowed × Acted) (this that : End) → Idle act this → on_windows ticks act this that ≡ (record { this = this; that = that }, [])
stays ticks act (owner u) that i = refl
stays ticks act (wire x) that i =
    either (λ (r : Connection × List Output). r ≡ (record { this = wire x; that = that }, [])) (is_up x.head.state && x.head.class == 3) _ _
    (λ up. ap (λ done. settles ticks (timed ticks x (by_windows (λ _. done) x)) that) (i up) ∙ settled ticks x that) (λ down. refl)

each_stays : (ticks : Ticks) (act : Windowed → Windowed × Acted) (c : Connection) → Idle act c.this → Idle act c.that → on_each (on_windows ticks act) (c, []) ≡ (c, [])
each_stays ticks act c i j = rw (stays ticks act c.this c.that i) (rw (stays ticks act c.that c.this j) refl)

none_waits : (e : End) → EndRests e → Idle leaves e
none_waits (wire x) r = λ up. nothing_leaves _ (r up).0
none_waits (owner u) r = tt

none_owes : (e : End) → EndRests e → Idle acknowledges e
none_owes (wire x) r = λ up. nothing_owed _ (r up).1
none_owes (owner u) r = tt

rests_on : (ticks : Ticks) (c : Connection) → Rests c → after_event ticks (c, []) ≡ (c, [])
unfolding after_event
rests_on ticks c r =
    ap (on_each (on_windows ticks acknowledges)) (each_stays ticks leaves c (none_waits c.this r.0) (none_waits c.that r.1))
    ∙ each_stays ticks acknowledges c (none_owes c.this r.0) (none_owes c.that r.1)

-- No timer fires.

abbrev pub NoneDue : End → Type 0
NoneDue e = (timer : Timer) → is_due_at timer e ≡ false

not_fired : (ticks : Ticks) (timer : Timer) (this that : End) → is_due_at timer this ≡ false → fires ticks timer this that ≡ (record { this = this; that = that }, [])
not_fired ticks timer this that e = ap (λ b. if b then fires_at ticks timer this that else (record { this = this; that = that }, [])) e

none_fire : (ticks : Ticks) (timers : List Timer) (c : Connection) → NoneDue c.this → fold (fires_next ticks) (c, []) timers ≡ (c, [])
none_fire ticks [] c n = refl
none_fire ticks (timer ∷ timers) c n = rw (not_fired ticks timer c.this c.that (n timer)) (none_fire ticks timers c n)

none_fires : (ticks : Ticks) (c : Connection) → NoneDue c.this → fires_due ticks c ≡ (c, [])
unfolding fires_due
none_fires ticks c n = none_fire ticks firing_order c n

pub quiet : (ticks : Ticks) (c d : Connection) → record { this = ticked c.this; that = ticked c.that } ≡ d → NoneDue d.this → NoneDue d.that → Rests d
    → connection_step ticks c Tick ≡ (d, [])
unfolding connection_step
quiet ticks c d e n m r =
    rw e (rw (none_fires ticks d n) (rw (none_fires ticks (turned d) m) (rests_on ticks d r)))
