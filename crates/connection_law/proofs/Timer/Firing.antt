-- A tick: each timer has a tick fewer left, and those that have none fire in their order.
use Rattle.std.proofs.Common.{◌≡◌, ◌⊎◌, inl, inr, ℕ, zero, suc, pred, ◌≤◌, ◌==◌, Bool, true, false, List, [], ◌∷◌, Option, Some, None, IfSome, if◌then◌else◌, fold, refl, sym, subst, ap, ◌∙◌, arith}
use Rattle.std.specs.Prelude.{option_map}
use Rattle.std.proofs.lemmas.Bool.{false≢true}
use Rattle.relay_base.specs.declared.words.Output.{Output}
use Rattle.plant_core.specs.declared.terms.Ticks.{Ticks}
use Rattle.section_model.specs.declared.cell.Timer.{Timer}
use Rattle.section_model.specs.declared.cell.Timer.TheVariants.{Connect, Reset, Iar, Ias, Rel, Int, Repeat}
use Rattle.section_model.specs.declared.cell.SectionState.{SectionState}
use Rattle.section_model.specs.declared.cell.SectionState.TheVariants.{Asking, Waning, Up, Resetting, Ending}
use Rattle.section_model.specs.declared.hand.Acted.{Acted}
use Rattle.section_model.specs.Ends.{End, wire, owner, Section, Timers, Connection, turned}
use Rattle.section_model.specs.Table.{section_row, section_cell}
use Rattle.section_model.specs.Timing.{timer_in, is_due, firing, lowered, rearmed, again, firing_order, timers_after}
use Rattle.section_model.specs.Line.{line_fires}
use Rattle.section_model.specs.Windowed.{windowed_fires}
use Rattle.section_model.specs.Acting.{timed, by_line, by_windows, in_windows, section_fires}
use Rattle.section_model.specs.Step.{ticked, fires, fires_next, fires_due, ticks_by}
use Rattle.connection_law.proofs.Reference.Ends.{Both, both_same, both_in_turn}
use Rattle.connection_law.proofs.Reference.Settling.{settled, settling_kept}
use Rattle.connection_law.proofs.Reference.Step.{Keeps, KeepsEnds}
use Rattle.connection_law.proofs.Flow.Flowing.{either}
use Rattle.connection_law.specs.TimerLaw.{may_run}
use Rattle.connection_law.proofs.Timer.Running.{Within, ArePositive, fresh, Fits, EndFits, EndWithin, Runs, timed_runs, runs_kept}

-- One tick.

lowered_in : (timer : Timer) (t : Timers) → timer_in timer (lowered t) ≡ option_map pred (timer_in timer t)
lowered_in Connect t = refl
lowered_in Reset t = refl
lowered_in Iar t = refl
lowered_in Ias t = refl
lowered_in Rel t = refl
lowered_in Int t = refl
lowered_in Repeat t = refl

fewer_within : (ticks : Ticks) (timer : Timer) (o : Option ℕ) → Within ticks 1 timer o → Within ticks 0 timer (option_map pred o)
fewer_within ticks timer None w = tt
fewer_within ticks timer (Some zero) w = (omega arith, omega (arith, w.1))
fewer_within ticks timer (Some (suc left)) w = (omega arith, omega (arith, w.1))

pub ticked_within : (ticks : Ticks) (timer : Timer) (e : End) → EndWithin ticks 1 timer e → EndWithin ticks 0 timer (ticked e)
ticked_within ticks timer (wire x) w = subst (Within ticks 0 timer) (sym (lowered_in timer x.timers)) (fewer_within ticks timer (timer_in timer x.timers) w)
ticked_within ticks timer (owner u) w = tt

fewer_state : (b : Bool) (o : Option ℕ) → IfSome o (λ left. b ≡ true) → IfSome (option_map pred o) (λ left. b ≡ true)
fewer_state b None f = tt
fewer_state b (Some left) f = f

fewer_rel : (t : Timers) → IfSome t.rel (λ left. (t.int ≡ None) × (t.repeat ≡ None))
    → IfSome (option_map pred t.rel) (λ left. (option_map pred t.int ≡ None) × (option_map pred t.repeat ≡ None))
fewer_rel t f = by_test t.rel f
  where
    by_test : (o : Option ℕ) → IfSome o (λ left. (t.int ≡ None) × (t.repeat ≡ None))
        → IfSome (option_map pred o) (λ left. (option_map pred t.int ≡ None) × (option_map pred t.repeat ≡ None))
    by_test None f = tt
    by_test (Some left) f = (ap (option_map pred) f.0, ap (option_map pred) f.1)

pub ticked_fits : (e : End) → EndFits e → EndFits (ticked e)
ticked_fits (wire x) f = record {
  state = λ timer. subst (λ o. IfSome o (λ left. may_run timer x.head.state ≡ true)) (sym (lowered_in timer x.timers))
      (fewer_state (may_run timer x.head.state) (timer_in timer x.timers) (f.state timer));
  after_rel = fewer_rel x.timers f.after_rel;
}
ticked_fits (owner u) f = tt

-- One timer, armed anew where that is its rule.

-- a timer that is due runs
due_runs : (timer : Timer) (s : SectionState) (t : Timers) → Fits s t → is_due timer t ≡ true → may_run timer s ≡ true
due_runs timer s t f due = by_test (timer_in timer t) due (f.state timer)
  where
    by_test : (o : Option ℕ) → (elim o [ None ↦ false | Some left ↦ left == 0 ]) ≡ true → IfSome o (λ left. may_run timer s ≡ true) → may_run timer s ≡ true
    by_test None due f = absurd (false≢true due)
    by_test (Some left) due f = f

rearmed_within : (ticks : Ticks) → ArePositive ticks → (fired : Timer) (low : ℕ) → low ≤ 1 → (timer : Timer) (t : Timers)
    → Within ticks low timer (timer_in timer t) → Within ticks low timer (timer_in timer (rearmed ticks fired t))
rearmed_within ticks set Rel low small Rel t w = tt
rearmed_within ticks set Rel low small Int t w = fresh ticks set low small Int
rearmed_within ticks set Rel low small Repeat t w = fresh ticks set low small Repeat
rearmed_within ticks set Rel low small Connect t w = w
rearmed_within ticks set Rel low small Reset t w = w
rearmed_within ticks set Rel low small Iar t w = w
rearmed_within ticks set Rel low small Ias t w = w
rearmed_within ticks set Repeat low small Repeat t w = fresh ticks set low small Repeat
rearmed_within ticks set Repeat low small Rel t w = w
rearmed_within ticks set Repeat low small Int t w = w
rearmed_within ticks set Repeat low small Connect t w = w
rearmed_within ticks set Repeat low small Reset t w = w
rearmed_within ticks set Repeat low small Iar t w = w
rearmed_within ticks set Repeat low small Ias t w = w
rearmed_within ticks set _ low small timer t w = w

rel_state : (ticks : Ticks) (s : SectionState) (t : Timers) → Fits s t → may_run Rel s ≡ true → (timer : Timer)
    → IfSome (timer_in timer (rearmed ticks Rel t)) (λ left. may_run timer s ≡ true)
rel_state ticks s t f ends Rel = tt
rel_state ticks s t f ends Int = ends
rel_state ticks s t f ends Repeat = ends
rel_state ticks s t f ends Connect = f.state Connect
rel_state ticks s t f ends Reset = f.state Reset
rel_state ticks s t f ends Iar = f.state Iar
rel_state ticks s t f ends Ias = f.state Ias

repeat_state : (ticks : Ticks) (s : SectionState) (t : Timers) → Fits s t → may_run Repeat s ≡ true → (timer : Timer)
    → IfSome (timer_in timer (rearmed ticks Repeat t)) (λ left. may_run timer s ≡ true)
repeat_state ticks s t f ends Repeat = ends
repeat_state ticks s t f ends Rel = f.state Rel
repeat_state ticks s t f ends Int = f.state Int
repeat_state ticks s t f ends Connect = f.state Connect
repeat_state ticks s t f ends Reset = f.state Reset
repeat_state ticks s t f ends Iar = f.state Iar
repeat_state ticks s t f ends Ias = f.state Ias

-- T(repeat rel) is due only where T(rel) does not run
repeat_alone : (ticks : Ticks) (t : Timers) → is_due Repeat t ≡ true → IfSome t.rel (λ left. (t.int ≡ None) × (t.repeat ≡ None))
    → IfSome t.rel (λ left. (t.int ≡ None) × (Some ticks.repeat ≡ None))
repeat_alone ticks t due f = by_test t.rel f
  where
    not_due : t.repeat ≡ None → ⊥
    not_due none = false≢true (sym (ap (λ o. elim o [ None ↦ false | Some left ↦ left == 0 ]) none) ∙ due)

    by_test : (o : Option ℕ) → IfSome o (λ left. (t.int ≡ None) × (t.repeat ≡ None)) → IfSome o (λ left. (t.int ≡ None) × (Some ticks.repeat ≡ None))
    by_test None f = tt
    by_test (Some left) f = absurd (not_due f.1)

rearmed_fits : (ticks : Ticks) (timer : Timer) (s : SectionState) (t : Timers) → is_due timer t ≡ true → Fits s t → Fits s (rearmed ticks timer t)
rearmed_fits ticks Rel s t due f = record { state = rel_state ticks s t f (due_runs Rel s t f due); after_rel = tt }
rearmed_fits ticks Repeat s t due f = record { state = repeat_state ticks s t f (due_runs Repeat s t f due); after_rel = repeat_alone ticks t due f.after_rel }
rearmed_fits ticks _ s t due f = f

abbrev armed : Ticks → Timer → Section → Section
armed ticks timer x = record x { timers = rearmed ticks timer x.timers }

-- the act of a timer that fires
abbrev fired_on : Ticks → Timer → Section → End × Acted
fired_on ticks timer x = section_fires ticks (section_cell x.head.state (firing timer)) (armed ticks timer x)

fired_runs : (ticks : Ticks) → ArePositive ticks → (timer : Timer) (x : Section) → is_due timer x.timers ≡ true → Runs ticks (wire x) (fired_on ticks timer x).0
unfolding section_fires
fired_runs ticks set timer x due =
    let y = armed ticks timer x in
    let cell = section_cell x.head.state (firing timer) in
    let act = timed_runs ticks set y (if in_windows cell y then by_windows windowed_fires y else by_line (line_fires cell) y) in record {
      fits = λ f. act.fits (rearmed_fits ticks timer x.head.state x.timers due f);
      within = λ low small other w. act.within low small other (rearmed_within ticks set timer low small other x.timers w);
    }

-- And then it has a tick left, if it runs.

abbrev at : SectionState → Section → Section
at s x = record x { head = record x.head { state = s } }

test_again : (ticks : Ticks) → ArePositive ticks → (o : Option ℕ) → Within ticks 1 Ias (again ticks.ias o)
test_again ticks set None = tt
test_again ticks set (Some left) = fresh ticks set 1 (omega arith) Ias

Restarts : Ticks → Timer → End × Acted → Type 0
Restarts ticks timer done = EndWithin ticks 1 timer done.0

restarts : (ticks : Ticks) → ArePositive ticks → (timer : Timer) (s : SectionState) (x : Section) → may_run timer s ≡ true
    → Restarts ticks timer (fired_on ticks timer (at s x))
unfolding section_fires section_row line_fires windowed_fires timers_after Restarts
restarts ticks set Connect Asking x runs = tt
restarts ticks set Connect Waning x runs = tt
restarts ticks set Connect _ x runs = absurd (false≢true runs)
restarts ticks set Reset Resetting x runs = tt
restarts ticks set Reset _ x runs = absurd (false≢true runs)
restarts ticks set Iar Up x runs = tt
restarts ticks set Iar Resetting x runs = tt
restarts ticks set Iar _ x runs = absurd (false≢true runs)
restarts ticks set Ias Up x runs =
    either (λ (done : Section × Acted). Restarts ticks Ias (timed ticks (at Up x) done)) (x.head.class == 3) _ _
    (λ _. test_again ticks set x.timers.ias) (λ _. test_again ticks set x.timers.ias)
restarts ticks set Ias Resetting x runs =
    either (λ (done : Section × Acted). Restarts ticks Ias (timed ticks (at Resetting x) done)) (x.head.class == 3) _ _
    (λ _. test_again ticks set x.timers.ias) (λ _. test_again ticks set x.timers.ias)
restarts ticks set Ias _ x runs = absurd (false≢true runs)
restarts ticks set Rel Ending x runs = tt
restarts ticks set Rel _ x runs = absurd (false≢true runs)
restarts ticks set Int Ending x runs = tt
restarts ticks set Int _ x runs = absurd (false≢true runs)
restarts ticks set Repeat Ending x runs = fresh ticks set 1 (omega arith) Repeat
restarts ticks set Repeat _ x runs = absurd (false≢true runs)

-- One timer of an end, whether it is due or not.

fires_runs : (ticks : Ticks) → ArePositive ticks → (timer : Timer) → KeepsEnds (Runs ticks) (fires ticks timer)
fires_runs ticks set timer (wire x) that =
    either (λ (r : Connection × List Output). Both (Runs ticks) (record { this = wire x; that = that }) r.0) (is_due timer x.timers) _ _
    (λ due. settled (runs_kept ticks set) (wire x) that (fired_on ticks timer x) (fired_runs ticks set timer x due))
    (λ _. both_same (runs_kept ticks set) (record { this = wire x; that = that }))
fires_runs ticks set timer (owner u) that = both_same (runs_kept ticks set) (record { this = owner u; that = that })

not_due_within : (ticks : Ticks) (timer : Timer) (o : Option ℕ) → (elim o [ None ↦ false | Some left ↦ left == 0 ]) ≡ false
    → Within ticks 0 timer o → Within ticks 1 timer o
not_due_within ticks timer None quiet w = tt
not_due_within ticks timer (Some zero) quiet w = absurd (false≢true (sym quiet))
not_due_within ticks timer (Some (suc left)) quiet w = (omega arith, w.1)

fired_within : (ticks : Ticks) → ArePositive ticks → (timer : Timer) (this that : End) → EndFits this → EndWithin ticks 0 timer this
    → EndWithin ticks 1 timer (fires ticks timer this that).0.this
unfolding Restarts
fired_within ticks set timer (wire x) that f w =
    either (λ (r : Connection × List Output). EndWithin ticks 1 timer r.0.this) (is_due timer x.timers) _ _
    (λ due. (settling_kept (runs_kept ticks set) that (fired_on ticks timer x)).0.within 1 (omega arith) timer
    (restarts ticks set timer x.head.state x (due_runs timer x.head.state x.timers f due)))
    (λ quiet. not_due_within ticks timer (timer_in timer x.timers) quiet w)
fired_within ticks set timer (owner u) that f w = tt

-- All timers of an end, in their order.

abbrev IsIn : Timer → List Timer → Type 0
IsIn timer [] = ⊥
IsIn timer (first ∷ timers) = (first ≡ timer) ⊎ IsIn timer timers

in_order : (timer : Timer) → IsIn timer firing_order
in_order Connect = inl refl
in_order Reset = inr (inl refl)
in_order Iar = inr (inr (inl refl))
in_order Ias = inr (inr (inr (inl refl)))
in_order Rel = inr (inr (inr (inr (inl refl))))
in_order Int = inr (inr (inr (inr (inr (inl refl)))))
in_order Repeat = inr (inr (inr (inr (inr (inr (inl refl))))))

order_runs : (ticks : Ticks) → ArePositive ticks → (timers : List Timer) (r : Connection × List Output)
    → Both (Runs ticks) r.0 (fold (fires_next ticks) r timers).0
order_runs ticks set [] r = both_same (runs_kept ticks set) r.0
order_runs ticks set (timer ∷ timers) r =
    let one = fires_next ticks r timer in
    both_in_turn (runs_kept ticks set) r.0 one.0 (fold (fires_next ticks) one timers).0
    (fires_runs ticks set timer r.0.this r.0.that) (order_runs ticks set timers one)

order_within : (ticks : Ticks) → ArePositive ticks → (timer : Timer) (timers : List Timer) (r : Connection × List Output) → IsIn timer timers
    → EndFits r.0.this → EndWithin ticks 0 timer r.0.this → EndWithin ticks 1 timer (fold (fires_next ticks) r timers).0.this
order_within ticks set timer [] r is f w = absurd is
order_within ticks set timer (first ∷ timers) r (inl same) f w =
    let one = fires_next ticks r first in
    (order_runs ticks set timers one).0.within 1 (omega arith) timer
    (subst (λ t. EndWithin ticks 1 t one.0.this) same (fired_within ticks set first r.0.this r.0.that f (subst (λ t. EndWithin ticks 0 t r.0.this) (sym same) w)))
order_within ticks set timer (first ∷ timers) r (inr later) f w =
    let first_runs = fires_runs ticks set first r.0.this r.0.that in
    order_within ticks set timer timers (fires_next ticks r first) later (first_runs.0.fits f) (first_runs.0.within 0 (omega arith) timer w)

due_kept : (ticks : Ticks) → ArePositive ticks → Keeps (Runs ticks) (fires_due ticks)
unfolding fires_due
due_kept ticks set c = order_runs ticks set firing_order (c, [])

due_within : (ticks : Ticks) → ArePositive ticks → (timer : Timer) (c : Connection) → EndFits c.this → EndWithin ticks 0 timer c.this
    → EndWithin ticks 1 timer (fires_due ticks c).0.this
unfolding fires_due
due_within ticks set timer c f w = order_within ticks set timer firing_order (c, []) (in_order timer) f w

-- The tick: one end, and then the other.

abbrev pub AllWithin : Ticks → End → Type 0
AllWithin ticks e = EndFits e × ((timer : Timer) → EndWithin ticks 1 timer e)

pub ticks_within : (ticks : Ticks) → ArePositive ticks → (c : Connection) → AllWithin ticks c.this → AllWithin ticks c.that
    → AllWithin ticks (ticks_by ticks c).0.this × AllWithin ticks (ticks_by ticks c).0.that
ticks_within ticks set c this that =
    let lower : Connection = record { this = ticked c.this; that = ticked c.that } in
    let one : Connection = (fires_due ticks lower).0 in
    let first = due_kept ticks set lower in
    let second = due_kept ticks set (turned one) in
    let this_fits = ticked_fits c.this this.0 in
    let that_fits = first.1.fits (ticked_fits c.that that.0) in
    let that_left : (timer : Timer) → EndWithin ticks 0 timer one.that = λ timer. first.1.within 0 (omega arith) timer (ticked_within ticks timer c.that (that.1 timer)) in (
      (
        second.1.fits (first.0.fits this_fits),
        λ timer. second.1.within 1 (omega arith) timer (due_within ticks set timer lower this_fits (ticked_within ticks timer c.this (this.1 timer))),
      ),
      (second.0.fits that_fits, λ timer. due_within ticks set timer (turned one) that_fits (that_left timer)),
    )
