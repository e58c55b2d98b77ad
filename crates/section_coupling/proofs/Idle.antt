-- What does nothing leaves the connection as it is.
use Rattle.std.proofs.Common.{◌≡◌, ◌==◌, ◌&&◌, not, nat_lt, Bool, true, false, List, [], ◌∷◌, ◌++◌, length, fold, if◌then◌else◌, is_some, refl, ap, ◌∙◌, arith, append-nil}
use Rattle.std.proofs.lemmas.Bool.{or_parts, ltb-false}
use Rattle.plant_core.specs.declared.terms.Ticks.{Ticks}
use Rattle.relay_base.specs.declared.words.Output.{Output}
use Rattle.section_flow.specs.Windows.{may_leave}
use Rattle.section_model.specs.declared.cell.Cell.{Cell}
use Rattle.section_model.specs.declared.cell.Cell.TheVariants as cell
use Rattle.section_model.specs.declared.cell.Timer.{Timer}
use Rattle.section_model.specs.declared.hand.Acted.{Acted}
use Rattle.section_model.specs.Ends.{Section, End, wire, owner, Connection, is_up, no_effect}
use Rattle.section_model.specs.Acting.{timed, by_windows}
use Rattle.section_model.specs.Coupling.{settles}
use Rattle.section_model.specs.Step.{fires_next, fires_due, is_due_at, on_windows, on_each, after_event}
use Rattle.section_model.specs.Timing.{firing_order}
use Rattle.section_model.specs.Windowed.{Windowed, leaves, acknowledges}
use Rattle.section_class3.specs.Windows.{windows_turn}
use Rattle.connection_law.proofs.Timer.Quiet.{nothing_leaves, settled}
use Rattle.section_coupling.specs.Inner.Idle.{has_due, is_in_class_3, has_turn, may_turn}
use Rattle.section_coupling.specs.Views.{behind}
use Rattle.section_coupling.proofs.Alone.{due_behind}

-- a timer that isn't due
pub not_due : (ticks : Ticks) (timer : Timer) (c : Connection) (outs : List Output) → is_due_at timer c.this ≡ false → fires_next ticks (c, outs) timer ≡ (c, outs)
not_due ticks timer c outs none = rw none (ap (λ (all : List Output). (c, all)) (append-nil outs))

none_fires : (ticks : Ticks) (c : Connection) (outs : List Output) (timers : List Timer) → has_due timers c.this ≡ false → fold (fires_next ticks) (c, outs) timers ≡ (c, outs)
none_fires ticks c outs [] none = refl
none_fires ticks c outs (timer ∷ timers) none =
    let parts = or_parts (is_due_at timer c.this) (has_due timers c.this) none in
    ap (λ r. fold (fires_next ticks) r timers) (not_due ticks timer c outs parts.0) ∙ none_fires ticks c outs timers parts.1

-- no timer is due
pub none_due : (ticks : Ticks) (c : Connection) (outs : List Output) → has_due firing_order c.this ≡ false → behind outs (fires_due ticks c) ≡ (c, outs)
none_due ticks c outs none = due_behind ticks c outs (c, outs) (none_fires ticks c outs firing_order none)

no_windows : (ticks : Ticks) (act : Windowed → Windowed × Acted) (this that : End) → is_in_class_3 this ≡ false → on_windows ticks act this that ≡ (record { this = this; that = that }, [])
no_windows ticks act (wire x) that none = rw none refl
no_windows ticks act (owner u) that none = refl

none_on_each : (ticks : Ticks) (act : Windowed → Windowed × Acted) (c : Connection) (outs : List Output) → is_in_class_3 c.this ≡ false → is_in_class_3 c.that ≡ false
    → on_each (on_windows ticks act) (c, outs) ≡ (c, outs)
none_on_each ticks act c outs this that =
    rw (no_windows ticks act c.this c.that this, no_windows ticks act c.that c.this that) (ap (λ all. (c, all)) (append-nil (outs ++ []) ∙ append-nil outs))

pub none_follows : (ticks : Ticks) (c : Connection) (outs : List Output) → is_in_class_3 c.this ≡ false → is_in_class_3 c.that ≡ false → after_event ticks (c, outs) ≡ (c, outs)
unfolding after_event
none_follows ticks c outs this that =
    ap (on_each (on_windows ticks acknowledges)) (none_on_each ticks leaves c outs this that) ∙ none_on_each ticks acknowledges c outs this that

-- Nothing leaves where nothing waits, and nothing is acknowledged where all was.

told-all : (b : Bool) → not b ≡ false → b ≡ true
told-all true e = refl
told-all false e = absurd (cc)

nothing_owed : (x : Windowed) → not (x.windows.passed == x.windows.told) ≡ false → acknowledges x ≡ (x, no_effect)
unfolding acknowledges
nothing_owed x none = rw (told-all (x.windows.passed == x.windows.told) none) refl

no_turn_on : (ticks : Ticks) (k : Cell) (x : Section) (that : End) (b : Bool) → (b && has_turn k x) ≡ false
    → (if b then settles ticks (timed ticks x (by_windows (windows_turn k) x)) that else (record { this = wire x; that = that }, [])) ≡ (record { this = wire x; that = that }, [])
no_turn_on ticks cell.Leave x that true none =
    let parts = or_parts (nat_lt 0 (length x.windows.waits)) (is_some x.windows.waiting) none in
    let few = ltb-false 0 (length x.windows.waits) parts.0 in
    let units : may_leave x.windows ≡ 0 = omega (arith, few) in
    let expedited = ap (λ (b : Bool). b && not x.windows.unanswered) parts.1 in
    ap (λ done. settles ticks (timed ticks x (by_windows (λ _. done) x)) that) (nothing_leaves (record { head = x.head; windows = x.windows }) (units, expedited)) ∙ settled ticks x that
no_turn_on ticks cell.Acknowledge x that true none =
    ap (λ done. settles ticks (timed ticks x (by_windows (λ _. done) x)) that) (nothing_owed (record { head = x.head; windows = x.windows }) none) ∙ settled ticks x that
no_turn_on ticks _ x that true none = absurd (cc)
no_turn_on ticks k x that false none = refl

pub none_turns : (ticks : Ticks) (k : Cell) (this that : End) (outs : List Output) → may_turn k this ≡ false → behind outs (on_windows ticks (windows_turn k) this that) ≡ (record { this = this; that = that }, outs)
none_turns ticks k (wire x) that outs none =
    ap (behind outs) (no_turn_on ticks k x that (is_up x.head.state && x.head.class == 3) none) ∙ ap (λ (all : List Output). (record { this = wire x; that = that }, all)) (append-nil outs)
none_turns ticks k (owner u) that outs none = ap (λ (all : List Output). (record { this = owner u; that = that }, all)) (append-nil outs)
