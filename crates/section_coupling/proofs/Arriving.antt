-- What a section acts upon, and what follows each event.
use Rattle.std.proofs.Common.{◌≡◌, ◌<◌, ◌≤◌, ◌+◌, [], length, get_or, drop, fold, ℕ, Bool, true, false, List, ap, ◌∙◌, refl, sym, subst}
use Rattle.std.specs.Prelude.{IsTrue, Some, None, if◌then◌else◌}
use Rattle.std.proofs.lemmas.Bool.{and_parts}
use Rattle.relay_base.specs.declared.words.Event.{Event}
use Rattle.relay_base.specs.declared.words.Event.TheVariants.{Message as Arrives, Asked as Requested, Tick}
use Rattle.relay_base.specs.declared.words.Request.{Request}
use Rattle.plant_core.specs.declared.terms.Ticks.{Ticks}
use Rattle.section_model.specs.declared.cell.Cell.{Cell}
use Rattle.section_class3.specs.Windows.{windows_hear_arrival, windows_hear_event, windows_act, windows_turn}
use Rattle.section_class2.specs.Lines.{line_hears_arrival, line_hears_event, line_acts}
use Rattle.section_model.specs.declared.cell.SectionState.{SectionState}
use Rattle.section_model.specs.declared.hand.Acted.{Acted}
use Rattle.section_model.specs.Ends.{Section, End, Connection, wire, cleared}
use Rattle.section_model.specs.Views.{section_of}
use Rattle.section_model.specs.declared.hand.Came.{Came}
use Rattle.section_model.specs.declared.wire.WireHead.{WireHead}
use Rattle.mark.specs.declared.Mark.{Mark}
use Rattle.section_class2.specs.declared.line.Line.{Line}
use Rattle.section_class2.specs.Lines.{line_of}
use Rattle.section_class3.specs.Windows.{WindowsState, windowed_of}
use Rattle.section_coupling.specs.declared.wire.Wire.{Wire}
use Rattle.section_coupling.specs.Views.{section_at}
use Rattle.section_coupling.specs.Sound.{came_in}
use Rattle.section_coupling.specs.Inner.Acts.{is_set_up, windows_begun, came_begun}
use Rattle.section_model.specs.Timing.{timers_after}
use Rattle.std.specs.List.{list_any}
use Rattle.connection_law.proofs.Flow.Flowing.{either}
use Rattle.section_model.specs.Parameters.{Arrival}
use Rattle.section_model.specs.Acting.{timed, is_sent, windows_after, by_line, by_windows, in_windows, section_hears}
use Rattle.section_model.specs.declared.cell.Timer.{Timer}
use Rattle.std.proofs.lemmas.List.{drop_more, at_drop_all}
use Rattle.section_coupling.specs.declared.clock.Clock.{Clock}
use Rattle.section_coupling.specs.declared.coming.Coming.{Coming}
use Rattle.section_model.specs.Step.{fires_next, is_from_elsewhere, in_touch, checked, hears_checked, hears, is_in_range, named, names, on_windows, on_each, after_event}
use Rattle.section_model.specs.declared.cell.Cell.TheVariants.{Leave, Acknowledge}
use Rattle.section_model.specs.declared.input.Input.{Input}
use Rattle.section_model.specs.Windowed.{acknowledges}
use Rattle.relay_base.specs.declared.words.Output.{Output}
use Rattle.section_coupling.specs.Inner.Comings.{arrived_in, IsArrival, hears_coming}
use Rattle.section_coupling.specs.Inner.Acts.{untimed_acts, section_acts}
use Rattle.section_coupling.specs.Inner.Alone.{hears_alone}
use Rattle.section_model.specs.declared.input.Input.TheVariants as input
use Rattle.section_model.specs.Table.{section_cell}
use Rattle.section_model.specs.Views.{seen_arrival, seen_parameters}

-- a request that is heard is in its ranges
pub range-of : (c : Connection) (e : Event) (ssn : ℕ) (r : Request) → e ≡ Requested ssn r → IsTrue (hears c e) → IsTrue (is_in_range r)
unfolding hears
range-of c e ssn r same h = (and_parts (is_in_range r) (names (named r) c) (subst (λ f. IsTrue (hears c f)) same h)).0

-- a message that arrives is what a section acts upon
acts_arrived : (ticks : Ticks) (c : Cell) (e : Event) (a : Arrival) (x : Section) → (arrived_in e).arrival ≡ Some a
    → timed ticks x (if in_windows c x then by_windows (windows_hear_event c e) x else by_line (line_hears_event c e) x) ≡ section_hears ticks c (arrived_in e).point a.parameters x
unfolding section_hears
acts_arrived ticks c (Arrives point sls bytes) a x f =
    subst (λ r. timed ticks x (if in_windows c x then by_windows (windows_hear_arrival c r) x else by_line (line_hears_arrival c point r) x) ≡ section_hears ticks c point a.parameters x) (sym f) refl
acts_arrived ticks c (Requested ssn r) a x f = absurd (cc)
acts_arrived ticks c Tick a x f = absurd (cc)

acts_heard : (ticks : Ticks) (c : Cell) (e : Event) (point : ℕ) (a : Arrival) (x : Section) → arrived_in e ≡ record { point = point; arrival = Some a }
    → timed ticks x (if in_windows c x then by_windows (windows_hear_event c e) x else by_line (line_hears_event c e) x) ≡ section_hears ticks c point a.parameters x
acts_heard ticks c e point a x f =
    acts_arrived ticks c e a x (ap (λ r. r.arrival) f) ∙ ap (λ from. section_hears ticks c from a.parameters x) (ap (λ r. r.point) f)

-- an act of the windows, and one of the line
pub acts-windowed : (c : Cell) (i : Input) (x : Section) → in_windows c x ≡ true → untimed_acts c i x ≡ by_windows (windows_act c i) x
acts-windowed c i x e = rw e refl

pub acts-lined : (c : Cell) (i : Input) (x : Section) → in_windows c x ≡ false → untimed_acts c i x ≡ by_line (line_acts c i) x
acts-lined c i x e = rw e refl

-- the code's line has acted, and where the section is set up the counts have begun
pub line-acted : (now : ℕ) (c : Cell) (i : Input) (old : SectionState) (w : Wire) (h : WireHead) (l begun : Line) (v : WindowsState) (acted : Acted)
    → old ≡ (section_of w.head).state → line_acts c i (line_of w.head w.line) ≡ (line_of h l, acted)
    → begun.kept ≡ l.kept → begun.came.value ≡ came_begun old h l.came.value → v ≡ windows_begun old h w.windows
    → by_line (line_acts c i) (section_at now w) ≡ (section_at now (record { head = h; line = begun; windows = v; timers = w.timers }), acted)
line-acted now c i old w h l begun v acted same acts kept came windows =
    let x : Section = section_at now w in
    ap (λ done. (record x { head = done.0.head; kept = done.0.kept; windows = windows_after x done.0 }, done.1)) acts
    ∙ (ap (λ u. (record x { head = section_of h; kept = l.kept; windows = u }, acted))
    (by_test (is_set_up (section_of w.head).state h) (windows ∙ ap (λ s. windows_begun s h w.windows) same) (came ∙ ap (λ s. came_begun s h l.came.value) same))
    ∙ ap (λ k. (record x { head = section_of h; kept = k; windows = record v.windows { got = begun.came.value.got; passed = begun.came.value.passed } }, acted)) (sym kept))
  where
    by_test : (b : Bool) → v ≡ (if b then record { agreed = h.credit; windows = cleared h.credit } else w.windows) → begun.came.value ≡ (if b then record { got = []; passed = 0 } else l.came.value)
        → (if b then cleared h.credit else record (section_at now w).windows { got = l.came.value.got; passed = l.came.value.passed }) ≡ record v.windows { got = begun.came.value.got; passed = begun.came.value.passed }
    by_test true e f = rw (e, f) refl
    by_test false e f = rw (e, f) refl

-- the code's windows have acted, in class 3
pub windows-acted : (now : ℕ) (c : Cell) (i : Input) (w : Wire) (h : WireHead) (v : WindowsState) (came : Mark Came) (acted : Acted)
    → w.line.came.value ≡ came_in w.windows.windows → windows_act c i (windowed_of w.head w.windows) ≡ (windowed_of h v, acted) → came.value ≡ came_in v.windows
    → by_windows (windows_act c i) (section_at now w) ≡ (section_at now (record { head = h; line = record { kept = w.line.kept; came = came }; windows = v; timers = w.timers }), acted)
windows-acted now c i w h v came acted before acts after =
    let x : Section = section_at now w in
    ap (λ (u : Came). let done = windows_act c i (record { head = section_of w.head; windows = record w.windows.windows { got = u.got; passed = u.passed } }) in (record x { head = done.0.head; windows = done.0.windows }, done.1)) before
    ∙ (ap (λ done. (record x { head = done.0.head; windows = done.0.windows }, done.1)) acts
    ∙ ap (λ (u : Came). (record x { head = section_of h; windows = record v.windows { got = u.got; passed = u.passed } }, acted)) (sym after))

-- an act but for the timers leaves these
pub untimed-timers : (c : Cell) (i : Input) (x : Section) → (untimed_acts c i x).0.timers ≡ x.timers
untimed-timers c i x = either (λ (r : Section × Acted). r.0.timers ≡ x.timers) (in_windows c x) _ _ (λ _. refl) (λ _. refl)

-- an act with its timers, which follow from the state before and from what is sent
pub in_time : (ticks : Ticks) (x y z : Section) (done : Section × Acted) (acted : Acted) (old : SectionState) → done.0.timers ≡ x.timers → done ≡ (y, acted) → old ≡ x.head.state
    → z ≡ record y { timers = timers_after ticks old y.head.state (list_any is_sent acted.outs) y.timers } → timed ticks x done ≡ (wire z, acted)
in_time ticks x y z done acted old same e f g =
    let sent = list_any is_sent acted.outs in
    ap (timed ticks x) e
    ∙ (ap (λ t. (wire (record y { timers = timers_after ticks x.head.state y.head.state sent t }), acted)) (sym same ∙ ap (λ r. r.0.timers) e)
    ∙ (ap (λ s. (wire (record y { timers = timers_after ticks s y.head.state sent y.timers }), acted)) (sym f)
    ∙ ap (λ s. (wire s, acted)) (sym g)))

-- a message from the section's point
pub heard_near : (clock : Clock) (c : Coming) (x y : Section) (r : End × Acted) → is_from_elsewhere c.point x.head ≡ false → y ≡ in_touch clock.ticks x → hears_coming clock c y ≡ r
    → hears_alone clock c (wire x) ≡ r
heard_near clock c x y r near e f = rw near (subst (λ s. hears_coming clock c s ≡ r) e f)

-- a message that no check keeps from the cell
pub heard_by_cell : (clock : Clock) (c : Coming) (k : Cell) (x : Section) (r : End × Acted) → checked c.arrival.occasion (seen_parameters c.arrival.parameters) x.head ≡ None → IsArrival c
    → k ≡ section_cell x.head.state c.arrival.occasion → section_acts clock.ticks k (input.Event c.event) x ≡ r → hears_coming clock c x ≡ r
heard_by_cell clock c k x r none arrives same e =
    ap (hears_checked clock.ticks c.arrival.occasion c.point (seen_parameters c.arrival.parameters) x) none
    ∙ (ap (λ o. section_hears clock.ticks o c.point (seen_parameters c.arrival.parameters) x) (sym same)
    ∙ (sym (acts_heard clock.ticks k c.event.now c.point (seen_arrival c.arrival) x arrives) ∙ e))

-- one timer more, and those to come
pub fired_more : (ticks : Ticks) (s t r : Connection × List Output) (timers : List Timer) (i : ℕ) (timer : Timer) → i < length timers
    → fires_next ticks s (get_or timers i timer) ≡ t → fold (fires_next ticks) s (drop i timers) ≡ r → fold (fires_next ticks) t (drop (i + 1) timers) ≡ r
fired_more ticks s t r timers i timer within e f =
    subst (λ (u : Connection × List Output). fold (fires_next ticks) u (drop (i + 1) timers) ≡ r) e
    (subst (λ ts. fold (fires_next ticks) s ts ≡ r) (drop_more timers i timer within) f)

-- and all of them
pub fired_all : (ticks : Ticks) (s t : Connection × List Output) (timers : List Timer) (i : ℕ) → length timers ≤ i
    → fold (fires_next ticks) s (drop i timers) ≡ fold (fires_next ticks) t timers → fold (fires_next ticks) t timers ≡ s
fired_all ticks s t timers i past e = sym e ∙ at_drop_all (fold (fires_next ticks) s) timers i past

-- what waits leaves, and then what left is acknowledged
pub followed : (ticks : Ticks) (r s t : Connection × List Output) → on_each (on_windows ticks (windows_turn Leave)) r ≡ s → on_each (on_windows ticks (windows_turn Acknowledge)) s ≡ t → after_event ticks r ≡ t
unfolding after_event
followed ticks r s t e f = ap (on_each (on_windows ticks acknowledges)) e ∙ f
