-- Each act of a section leaves its timers within their states and their ticks.
use Rattle.std.proofs.Common.{◌≡◌, ℕ, ◌≤◌, Bool, true, [], ◌∷◌, Option, Some, None, IfSome, if◌then◌else◌, refl, subst, arith}
use Rattle.std.specs.List.{list_any}
use Rattle.std.proofs.lemmas.Bool.{false≢true}
use Rattle.plant_core.specs.declared.terms.Ticks.{Ticks}
use Rattle.section_model.specs.declared.cell.Timer.{Timer}
use Rattle.section_model.specs.declared.cell.Timer.TheVariants.{Connect, Reset, Iar, Ias, Rel, Int, Repeat}
use Rattle.section_model.specs.declared.cell.SectionState.{SectionState}
use Rattle.section_model.specs.declared.cell.SectionState.TheVariants.{Asked, Asking, Waning, Up, Resetting, Ending, Gone}
use Rattle.section_model.specs.declared.hand.Acted.{Acted}
use Rattle.section_model.specs.declared.hand.Hand.{Hand}
use Rattle.section_model.specs.Ends.{End, wire, owner, Section, Timers, gives}
use Rattle.section_model.specs.Timing.{timer_in, entered, same_state, again, sent_again, in_new_state, timers_after, heard_again}
use Rattle.section_model.specs.Table.{section_cell}
use Rattle.section_model.specs.Line.{line_hears, line_takes}
use Rattle.section_model.specs.Windowed.{windowed_hears, windowed_takes, leaves, acknowledges}
use Rattle.section_model.specs.Acting.{is_sent, timed, by_line, by_windows, in_windows, section_hears, section_takes, section_takes_by, end_takes}
use Rattle.relay_base.specs.declared.words.Output.{Output}
use Rattle.section_model.specs.declared.cell.Occasion.{Occasion}
use Rattle.section_model.specs.Parameters.{Parameters}
use Rattle.section_model.specs.Step.{hears_checked, in_touch}
use Rattle.connection_law.proofs.Reference.Ends.{IsKept}
use Rattle.connection_law.proofs.Flow.Flowing.{either}
use Rattle.connection_law.specs.TimerLaw.{set_to, may_run}

-- The ticks that are left: some number at least, and at most what the timer was set to.

abbrev pub Within : Ticks → ℕ → Timer → Option ℕ → Type 0
Within ticks low timer o = IfSome o (λ left. (low ≤ left) × (left ≤ set_to ticks timer))

abbrev pub ArePositive : Ticks → Type 0
ArePositive ticks = (timer : Timer) → 1 ≤ set_to ticks timer

-- a timer that starts
pub fresh : (ticks : Ticks) → ArePositive ticks → (low : ℕ) → low ≤ 1 → (timer : Timer) → Within ticks low timer (Some (set_to ticks timer))
fresh ticks set low small timer = let one = set timer in (omega (arith, small, one), omega arith)

started : (ticks : Ticks) → ArePositive ticks → (low : ℕ) → low ≤ 1 → (timer : Timer) (o : Option ℕ) → Within ticks low timer (again (set_to ticks timer) o)
started ticks set low small timer None = tt
started ticks set low small timer (Some left) = fresh ticks set low small timer

pub entered_within : (ticks : Ticks) → ArePositive ticks → (low : ℕ) → low ≤ 1 → (timer : Timer) (s : SectionState) (t : Timers)
    → Within ticks low timer (timer_in timer t) → Within ticks low timer (timer_in timer (entered ticks s t))
entered_within ticks set low small Connect Asking t w = fresh ticks set low small Connect
entered_within ticks set low small Connect Waning t w = w
entered_within ticks set low small Connect _ t w = tt
entered_within ticks set low small Reset Resetting t w = fresh ticks set low small Reset
entered_within ticks set low small Reset _ t w = tt
entered_within ticks set low small Iar Up t w = fresh ticks set low small Iar
entered_within ticks set low small Iar Resetting t w = w
entered_within ticks set low small Iar _ t w = tt
entered_within ticks set low small Ias Up t w = fresh ticks set low small Ias
entered_within ticks set low small Ias Resetting t w = w
entered_within ticks set low small Ias _ t w = tt
entered_within ticks set low small Rel Ending t w = fresh ticks set low small Rel
entered_within ticks set low small Rel _ t w = tt
entered_within ticks set low small Int Ending t w = tt
entered_within ticks set low small Int _ t w = tt
entered_within ticks set low small Repeat Ending t w = tt
entered_within ticks set low small Repeat _ t w = tt

sent_within : (ticks : Ticks) → ArePositive ticks → (low : ℕ) → low ≤ 1 → (timer : Timer) (t : Timers)
    → Within ticks low timer (timer_in timer t) → Within ticks low timer (timer_in timer (sent_again ticks t))
sent_within ticks set low small Ias t w = started ticks set low small Ias t.ias
sent_within ticks set low small _ t w = w

heard_within : (ticks : Ticks) → ArePositive ticks → (low : ℕ) → low ≤ 1 → (timer : Timer) (t : Timers)
    → Within ticks low timer (timer_in timer t) → Within ticks low timer (timer_in timer (heard_again ticks t))
heard_within ticks set low small Iar t w = started ticks set low small Iar t.iar
heard_within ticks set low small _ t w = w

-- The states.

pub record Fits (s : SectionState) (t : Timers) : Type 0 where
  pub state : (timer : Timer) → IfSome (timer_in timer t) (λ left. may_run timer s ≡ true)
  pub after_rel : IfSome t.rel (λ left. (t.int ≡ None) × (t.repeat ≡ None))

any_time : (o : Option ℕ) → IfSome o (λ left. true ≡ true)
any_time None = tt
any_time (Some left) = refl

entered_state : (ticks : Ticks) (timer : Timer) (s : SectionState) (t : Timers) → IfSome (timer_in timer (entered ticks s t)) (λ left. may_run timer s ≡ true)
entered_state ticks Connect Asking t = refl
entered_state ticks Connect Waning t = any_time t.connect
entered_state ticks Connect _ t = tt
entered_state ticks Reset Resetting t = refl
entered_state ticks Reset _ t = tt
entered_state ticks Iar Up t = refl
entered_state ticks Iar Resetting t = any_time t.iar
entered_state ticks Iar _ t = tt
entered_state ticks Ias Up t = refl
entered_state ticks Ias Resetting t = any_time t.ias
entered_state ticks Ias _ t = tt
entered_state ticks Rel Ending t = refl
entered_state ticks Rel _ t = tt
entered_state ticks Int Ending t = tt
entered_state ticks Int _ t = tt
entered_state ticks Repeat Ending t = tt
entered_state ticks Repeat _ t = tt

entered_rel : (ticks : Ticks) (s : SectionState) (t : Timers) → IfSome (entered ticks s t).rel (λ left. ((entered ticks s t).int ≡ None) × ((entered ticks s t).repeat ≡ None))
entered_rel ticks Ending t = (refl, refl)
entered_rel ticks _ t = tt

pub entered_fits : (ticks : Ticks) (s : SectionState) (t : Timers) → Fits s (entered ticks s t)
entered_fits ticks s t = record { state = λ timer. entered_state ticks timer s t; after_rel = entered_rel ticks s t }

-- the state of a timer that starts again, or not
again_state : (ticks : ℕ) (b : Bool) (o : Option ℕ) → IfSome o (λ left. b ≡ true) → IfSome (again ticks o) (λ left. b ≡ true)
again_state ticks b None f = tt
again_state ticks b (Some left) f = f

sent_state : (ticks : Ticks) (s : SectionState) (t : Timers) → Fits s t → (timer : Timer) → IfSome (timer_in timer (sent_again ticks t)) (λ left. may_run timer s ≡ true)
sent_state ticks s t f Ias = again_state ticks.ias (may_run Ias s) t.ias (f.state Ias)
sent_state ticks s t f Connect = f.state Connect
sent_state ticks s t f Reset = f.state Reset
sent_state ticks s t f Iar = f.state Iar
sent_state ticks s t f Rel = f.state Rel
sent_state ticks s t f Int = f.state Int
sent_state ticks s t f Repeat = f.state Repeat

sent_fits : (ticks : Ticks) (s : SectionState) (t : Timers) → Fits s t → Fits s (sent_again ticks t)
sent_fits ticks s t f = record { state = sent_state ticks s t f; after_rel = f.after_rel }

heard_state : (ticks : Ticks) (s : SectionState) (t : Timers) → Fits s t → (timer : Timer) → IfSome (timer_in timer (heard_again ticks t)) (λ left. may_run timer s ≡ true)
heard_state ticks s t f Iar = again_state ticks.iar (may_run Iar s) t.iar (f.state Iar)
heard_state ticks s t f Connect = f.state Connect
heard_state ticks s t f Reset = f.state Reset
heard_state ticks s t f Ias = f.state Ias
heard_state ticks s t f Rel = f.state Rel
heard_state ticks s t f Int = f.state Int
heard_state ticks s t f Repeat = f.state Repeat

heard_fits : (ticks : Ticks) (s : SectionState) (t : Timers) → Fits s t → Fits s (heard_again ticks t)
heard_fits ticks s t f = record { state = heard_state ticks s t f; after_rel = f.after_rel }

same_is : (a b : SectionState) → same_state a b ≡ true → a ≡ b
same_is Asked Asked e = refl
same_is Asking Asking e = refl
same_is Waning Waning e = refl
same_is Up Up e = refl
same_is Resetting Resetting e = refl
same_is Ending Ending e = refl
same_is Gone Gone e = refl
same_is _ _ e = absurd (false≢true e)

-- An end later on.

abbrev pub EndFits : End → Type 0
EndFits (wire x) = Fits x.head.state x.timers
EndFits (owner u) = Unit {0}

abbrev pub EndWithin : Ticks → ℕ → Timer → End → Type 0
EndWithin ticks low timer (wire x) = Within ticks low timer (timer_in timer x.timers)
EndWithin ticks low timer (owner u) = Unit {0}

pub record Runs (ticks : Ticks) (e f : End) : Type 0 where
  pub fits : EndFits e → EndFits f
  pub within : (low : ℕ) → low ≤ 1 → (timer : Timer) → EndWithin ticks low timer e → EndWithin ticks low timer f

-- after any act the timers follow from the states
pub timed_runs : (ticks : Ticks) → ArePositive ticks → (x : Section) (done : Section × Acted) → Runs ticks (wire x) (timed ticks x done).0
unfolding timers_after
timed_runs ticks set x done = record {
  fits = λ f. either (λ t. Fits new t) (list_any is_sent done.1.outs) _ _ (λ _. sent_fits ticks new _ (moved f)) (λ _. moved f);
  within = λ low small timer w.
      let kept = moved_within low small timer w in
      either (λ t. Within ticks low timer (timer_in timer t)) (list_any is_sent done.1.outs) _ _ (λ _. sent_within ticks set low small timer _ kept) (λ _. kept);
}
  where
    old : SectionState
    old = x.head.state

    new : SectionState
    new = done.0.head.state

    moved : Fits old x.timers → Fits new (in_new_state ticks old new x.timers)
    moved f = either (λ t. Fits new t) (same_state old new) _ _ (λ same. subst (λ s. Fits s x.timers) (same_is old new same) f) (λ _. entered_fits ticks new x.timers)

    moved_within : (low : ℕ) → low ≤ 1 → (timer : Timer) → Within ticks low timer (timer_in timer x.timers) → Within ticks low timer (timer_in timer (in_new_state ticks old new x.timers))
    moved_within low small timer w =
        either (λ t. Within ticks low timer (timer_in timer t)) (same_state old new) _ _ (λ _. w) (λ _. entered_within ticks set low small timer new x.timers w)

same_runs : (ticks : Ticks) (e : End) → Runs ticks e e
same_runs ticks e = record { fits = λ f. f; within = λ low small timer w. w }

runs_in_turn : (ticks : Ticks) (e f g : End) → Runs ticks e f → Runs ticks f g → Runs ticks e g
runs_in_turn ticks e f g one other = record { fits = λ k. other.fits (one.fits k); within = λ low small timer w. other.within low small timer (one.within low small timer w) }

-- What is heard, handed over and asked.

in_touch_runs : (ticks : Ticks) → ArePositive ticks → (x : Section) → Runs ticks (wire x) (wire (in_touch ticks x))
in_touch_runs ticks set x = record {
  fits = λ f. heard_fits ticks x.head.state x.timers f;
  within = λ low small timer w. heard_within ticks set low small timer x.timers w;
}

hears_runs : (ticks : Ticks) → ArePositive ticks → (o : Occasion) (point : ℕ) (m : Parameters) (x : Section) (checked : Option Output)
    → Runs ticks (wire x) (hears_checked ticks o point m x checked).0
unfolding section_hears
hears_runs ticks set o point m x (Some out) = timed_runs ticks set x (x, gives (out ∷ []))
hears_runs ticks set o point m x None =
    let cell = section_cell x.head.state o in
    timed_runs ticks set x (if in_windows cell x then by_windows (windowed_hears cell m) x else by_line (line_hears cell point m) x)

takes_runs : (ticks : Ticks) → ArePositive ticks → (h : Hand) (e : End) → Runs ticks e (end_takes ticks h e).0
unfolding section_takes
takes_runs ticks set h (wire x) =
    let cell = section_takes_by x.head.state h in
    timed_runs ticks set x (if in_windows cell x then by_windows (windowed_takes cell h) x else by_line (line_takes cell h) x)
takes_runs ticks set h (owner u) = record { fits = λ f. tt; within = λ low small timer w. tt }

pub runs_kept : (ticks : Ticks) → ArePositive ticks → IsKept ticks (Runs ticks)
runs_kept ticks set = record {
  same = same_runs ticks;
  in_turn = runs_in_turn ticks;
  hears = λ o point m x checked. runs_in_turn ticks (wire x) (wire (in_touch ticks x)) _ (in_touch_runs ticks set x) (hears_runs ticks set o point m (in_touch ticks x) checked);
  takes = takes_runs ticks set;
  asks = λ r u. record { fits = λ f. tt; within = λ low small timer w. tt };
  leaves = λ x. timed_runs ticks set x (by_windows leaves x);
  acknowledges = λ x. timed_runs ticks set x (by_windows acknowledges x);
}
