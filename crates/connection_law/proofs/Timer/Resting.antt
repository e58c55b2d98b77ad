-- After each event nothing is left of a connection that would leave.
use Rattle.std.proofs.Common.{◌≡◌, ℕ, ◌+◌, ◌-◌, ◌≤◌, ◌==◌, ◌&&◌, ◌||◌, not, nat_lt, Bool, true, false, List, [], ◌∷◌, length, min, if◌then◌else◌, Option, Some, None, is_some, refl, sym, subst, ◌∙◌, arith, length-drop}
use Rattle.std.proofs.lemmas.Bool.{and_parts, eqb-true, false≢true}
use Rattle.relay_base.specs.declared.words.Output.{Output}
use Rattle.plant_core.specs.declared.terms.Ticks.{Ticks}
use Rattle.section_model.specs.declared.hand.Hand.TheVariants as hand
use Rattle.section_model.specs.declared.hand.Acted.{Acted}
use Rattle.section_model.specs.Ends.{End, wire, owner, Section, Connection, turned, gives_then, is_up}
use Rattle.section_flow.specs.Windows.{Windows, may_leave}
use Rattle.section_model.specs.Line.{line_takes}
use Rattle.section_model.specs.Acting.{timed, by_windows, section_takes}
use Rattle.section_model.specs.Windowed.{Windowed, windowed_takes, leaves, acknowledges}
use Rattle.section_model.specs.UserEnd.{user_takes}
use Rattle.section_model.specs.Coupling.{exchange, settles}
use Rattle.section_model.specs.Step.{on_windows, on_each, after_event}
use Rattle.connection_law.specs.InStep.{AreInStep, IsInStep}
use Rattle.connection_law.proofs.Flow.Ends.{kept_back}
use Rattle.connection_law.proofs.Flow.Flowing.{either, line_counts}
use Rattle.connection_law.proofs.Flow.Leaving.{after_leaving, leaves_kept, on_windows_kept}
use Rattle.connection_law.specs.Resting.{AreDrained, EndRests, Rests}

-- What leaves.

abbrev EndDrained : End → Type 0
EndDrained (wire x) = (is_up x.head.state && x.head.class == 3) ≡ true → AreDrained x.windows
EndDrained (owner u) = Unit {0}

-- no more may leave once all left that may
none_may : (waits credit sent acked : ℕ) → acked ≤ sent
    → min (waits - min waits (credit - (sent - acked))) (credit - ((sent + min waits (credit - (sent - acked))) - acked)) ≡ 0
none_may waits credit sent acked within = omega (arith, within)

units_left : (w : Windows) → w.acked ≤ w.sent → may_leave (after_leaving w) ≡ 0
units_left w within = rw (length-drop (may_leave w) w.waits) (none_may (length w.waits) w.credit w.sent w.acked within)

expedited_left : (waiting : Option (List ℕ)) (unanswered : Bool)
    → (is_some (if is_some waiting && not unanswered then None else waiting) && not (unanswered || (is_some waiting && not unanswered))) ≡ false
expedited_left None true = refl
expedited_left None false = refl
expedited_left (Some body) true = refl
expedited_left (Some body) false = refl

drained : (w : Windows) → w.acked ≤ w.sent → AreDrained (after_leaving w)
drained w within = (units_left w within, expedited_left w.waiting w.unanswered)

-- the other end is told of what left, and nothing of it waits therefore
abbrev Drains : Connection → End → Type 0
Drains c that = EndDrained c.this × (EndDrained that → EndDrained c.that)

abbrev Takes : Ticks → Section → Section → Section × Acted → Type 0
Takes ticks x y done = let c = (exchange 1 ticks (timed ticks y done) (wire x)).0 in Drains (turned c) (wire y)

told : (ticks : Ticks) (x : Section) (that : End) (outs : List Output) (units : ℕ) (is_expedited : Bool) → EndDrained (wire x)
    → Drains (exchange 2 ticks (wire x, gives_then outs (hand.Left units is_expedited ∷ [])) that).0 that
unfolding exchange section_takes windowed_takes line_takes user_takes
told ticks x (wire y) outs units true d =
    either (Takes ticks x y) (y.head.class == 3) _ _ (λ _. (d, λ e. e)) (λ _. subst (Takes ticks x y) (sym (line_counts units true y)) (d, λ e. e))
told ticks x (wire y) outs units false d =
    either (Takes ticks x y) (y.head.class == 3) _ _ (λ _. (d, λ e. e)) (λ _. subst (Takes ticks x y) (sym (line_counts units false y)) (d, λ e. e))
told ticks x (owner u) outs units is_expedited d = (d, λ e. e)

told_if : (b : Bool) (ticks : Ticks) (x : Section) (that : End) (outs : List Output) (units : ℕ) (is_expedited : Bool) → EndDrained (wire x)
    → Drains (exchange 2 ticks (wire x, gives_then outs (if b then hand.Left units is_expedited ∷ [] else [])) that).0 that
unfolding exchange
told_if true ticks x that outs units is_expedited d = told ticks x that outs units is_expedited d
told_if false ticks x that outs units is_expedited d = (d, λ e. e)

leaving : (ticks : Ticks) (this that : End) → AreInStep this that → Drains (on_windows ticks leaves this that).0 that
unfolding leaves
leaving ticks (owner u) that k = (tt, λ e. e)
leaving ticks (wire x) that k =
    let w = x.windows in
    let count = may_leave w in
    let is_expedited = is_some w.waiting && not w.unanswered in
    either (λ (r : Connection × List Output). Drains r.0 that) (is_up x.head.state && x.head.class == 3) _ _
    (λ up. told_if (is_expedited || nat_lt 0 count) ticks _ that _ count is_expedited
    (λ _. drained w (k.4 (eqb-true _ _ (and_parts (is_up x.head.state) (x.head.class == 3) up).1)).1.1.0))
    (λ down. (λ up. absurd (false≢true (sym down ∙ up)), λ e. e))

-- And then what left is acknowledged.

abbrev Tells : Connection → End → End → Type 0
Tells c this that = (EndDrained this → EndRests c.this) × (c.that ≡ that)

tells : (ticks : Ticks) (x : Section) (that : End) → Tells (settles ticks (timed ticks x (by_windows acknowledges x)) that).0 (wire x) that
unfolding acknowledges exchange
tells ticks x that =
    either (λ (done : Windowed × Acted). Tells (settles ticks (timed ticks x (by_windows (λ _. done) x)) that).0 (wire x) that) (x.windows.passed == x.windows.told) _ _
    (λ same. (λ d up. (d up, eqb-true _ _ same), refl))
    (λ other. (λ d up. (d up, refl), refl))

acknowledging : (ticks : Ticks) (this that : End) → Tells (on_windows ticks acknowledges this that).0 this that
acknowledging ticks (owner u) that = (λ d. tt, refl)
acknowledging ticks (wire x) that =
    either (λ (r : Connection × List Output). Tells r.0 (wire x) that) (is_up x.head.state && x.head.class == 3) _ _
    (λ up. tells ticks x that) (λ down. (λ d up. absurd (false≢true (sym down ∙ up)), refl))

-- On one end, and then on the other.

each_drains : (part : End → End → Connection × List Output)
    → ((this that : End) → AreInStep this that → Drains (part this that).0 that) → ((this that : End) → AreInStep this that → IsInStep (part this that).0)
    → (r : Connection × List Output) → IsInStep r.0 → EndDrained (on_each part r).0.this × EndDrained (on_each part r).0.that
each_drains part drains keeps r k =
    let one = (part r.0.this r.0.that).0 in
    let first = drains r.0.this r.0.that k in
    let second = drains one.that one.this (kept_back one (keeps r.0.this r.0.that k)) in (second.1 first.0, second.0)

each_tells : (part : End → End → Connection × List Output) → ((this that : End) → Tells (part this that).0 this that)
    → (r : Connection × List Output) → EndDrained r.0.this → EndDrained r.0.that → Rests (on_each part r).0
each_tells part tell r this that =
    let one = (part r.0.this r.0.that).0 in
    let first = tell r.0.this r.0.that in
    let second = tell one.that one.this in
    (subst EndRests (sym second.1) (first.0 this), second.0 (subst EndDrained (sym first.1) that))

pub after_event_rests : (ticks : Ticks) (r : Connection × List Output) → IsInStep r.0 → Rests (after_event ticks r).0
unfolding after_event
after_event_rests ticks r k =
    let left = each_drains (on_windows ticks leaves) (leaving ticks) (on_windows_kept ticks leaves (leaves_kept ticks)) r k in
    each_tells (on_windows ticks acknowledges) (acknowledging ticks) (on_each (on_windows ticks leaves) r) left.0 left.1
