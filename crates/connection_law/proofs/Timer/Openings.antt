-- The openings of a lane: how each began, and what it became.
use Rattle.std.proofs.Common.{◌≡◌, ℕ, ◌==◌, false, List, [], ◌∷◌, map, All, Option, Some, None, IfSome, refl, sym, subst, ◌∙◌, arith}
use Rattle.std.specs.Prelude.{slice_get}
use Rattle.std.proofs.lemmas.Bool.{and_parts, false≢true}
use Rattle.std.proofs.lemmas.List.Elements.{All-nil, All-cons, All-append, All-map}
use Rattle.std.proofs.lemmas.Option.{slice_get_within, get_or_from_slice_get}
use Rattle.relay_base.specs.declared.words.Event.{Event}
use Rattle.relay_base.specs.declared.words.Event.TheVariants.{Message as Arrived, Asked as Requested, Tick}
use Rattle.plant_core.specs.declared.answer.Answer.{Answer}
use Rattle.plant_core.specs.declared.answer.Answer.TheVariants.{Local, Forward, Refused}
use Rattle.plant_core.specs.declared.entry.Entry.{Entry}
use Rattle.plant_core.specs.declared.terms.Terms.{Terms}
use Rattle.plant_core.specs.declared.terms.Ticks.{Ticks}
use Rattle.section_model.specs.declared.cell.Timer.{Timer}
use Rattle.section_model.specs.declared.cell.Timer.TheVariants.{Connect, Reset, Iar, Ias, Rel, Int, Repeat}
use Rattle.section_model.specs.Ends.{End, wire, owner, Connection, no_timers, is_up}
use Rattle.section_model.specs.Parameters.{arrival_in}
use Rattle.section_model.specs.Timing.{timer_in, entered}
use Rattle.section_model.specs.Step.{event_step, after_event, connection_step, ticked}
use Rattle.section_model.specs.Opening.{Wanted, Wish, by_cr, by_user, no_wish, wish_of, fits, Opened, opened_by_cr, opened_by_user, opened}
use Rattle.section_model.specs.Lane.{Lane, Opening, next, follow, heard, with_event, opening_of, opening_list, openings_after, answer_of}
use Rattle.section_model.specs.Laws.{openings_from}
use Rattle.connection_law.proofs.Reference.Ends.{Both, both_same}
use Rattle.connection_law.proofs.Reference.Step.{heard_kept, asked_kept, after_event_kept}
use Rattle.connection_law.specs.InStep.{IsInStep}
use Rattle.connection_law.proofs.Flow.Flowing.{either}
use Rattle.connection_law.proofs.Flow.Opening.{opening_keeps}
use Rattle.connection_law.proofs.Flow.Step.{event_kept, step_keeps}
use Rattle.connection_law.specs.Resting.{EndRests, Rests}
use Rattle.connection_law.specs.TimerLaw.{EndRuns, TimersRun, QuietTick}
use Rattle.connection_law.proofs.Timer.Running.{Within, ArePositive, entered_within, entered_fits, Fits, Runs, runs_kept}
use Rattle.connection_law.proofs.Timer.Firing.{AllWithin, ticks_within}
use Rattle.connection_law.proofs.Timer.Resting.{after_event_rests}
use Rattle.connection_law.proofs.Timer.Quiet.{quiet}

-- A connection that is opened: no section of it is up, and its timers are those of its state.

abbrev IsNew : Ticks → End → Type 0
IsNew ticks (wire x) = (is_up x.head.state ≡ false) × (x.timers ≡ entered ticks x.head.state no_timers)
IsNew ticks (owner u) = Unit {0}

abbrev AreNew : Ticks → Connection → Type 0
AreNew ticks c = IsNew ticks c.this × IsNew ticks c.that

abbrev NewIfAny : Ticks → Opened → Type 0
NewIfAny ticks o = IfSome o.connection (AreNew ticks)

by_cr_new : (terms : Terms) (w : Wanted) (answer : Answer) (references : List ℕ) → NewIfAny terms.ticks (opened_by_cr terms w answer references)
unfolding opened_by_cr
by_cr_new terms w (Refused cause local) references = tt
by_cr_new terms w (Local ssn) [] = tt
by_cr_new terms w (Local ssn) (mine ∷ references) = ((refl, refl), tt)
by_cr_new terms w (Forward point rewrite hop) [] = either (NewIfAny terms.ticks) (fits w rewrite hop) _ _ (λ _. tt) (λ _. tt)
by_cr_new terms w (Forward point rewrite hop) (mine ∷ []) = either (NewIfAny terms.ticks) (fits w rewrite hop) _ _ (λ _. tt) (λ _. tt)
by_cr_new terms w (Forward point rewrite hop) (mine ∷ next ∷ references) =
    either (NewIfAny terms.ticks) (fits w rewrite hop) _ _ (λ _. ((refl, refl), (refl, refl))) (λ _. tt)

by_user_new : (terms : Terms) (ssn tag : ℕ) (w : Wanted) (answer : Answer) (references : List ℕ) → NewIfAny terms.ticks (opened_by_user terms ssn tag w answer references)
unfolding opened_by_user
by_user_new terms ssn tag w (Refused cause local) references = tt
by_user_new terms ssn tag w (Local ssn') references = tt
by_user_new terms ssn tag w (Forward point rewrite hop) [] = tt
by_user_new terms ssn tag w (Forward point rewrite hop) (mine ∷ references) = (tt, (refl, refl))

opened_new : (terms : Terms) (wish : Wish) (answer : Option Answer) (references : List ℕ) → NewIfAny terms.ticks (opened terms wish answer references)
unfolding opened
opened_new terms (by_cr w) (Some answer) references = by_cr_new terms w answer references
opened_new terms (by_cr w) None references = tt
opened_new terms (by_user ssn tag w) (Some answer) references = by_user_new terms ssn tag w answer references
opened_new terms (by_user ssn tag w) None references = tt
opened_new terms no_wish answer references = tt

new_at : (terms : Terms) (event : Event) (answer : Option Answer) (references : List ℕ) (c : Connection)
    → (opened terms (wish_of terms event) answer references).connection ≡ Some c → AreNew terms.ticks c
new_at terms event answer references c e =
    subst (λ connection. IfSome connection (AreNew terms.ticks)) e (opened_new terms (wish_of terms event) answer references)

-- so nothing waits in it
new_rests : (ticks : Ticks) (e : End) → IsNew ticks e → EndRests e
new_rests ticks (wire x) new = λ up. absurd (false≢true (sym new.0 ∙ (and_parts (is_up x.head.state) (x.head.class == 3) up).0))
new_rests ticks (owner u) new = tt

pub opened_rests : (terms : Terms) (event : Event) (answer : Option Answer) (references : List ℕ) (c : Connection)
    → (opened terms (wish_of terms event) answer references).connection ≡ Some c → Rests c
opened_rests terms event answer references c e =
    let new = new_at terms event answer references c e in (new_rests terms.ticks c.this new.0, new_rests terms.ticks c.that new.1)

-- Each opening began so.

abbrev Began : Terms → Opening → Type 0
Began terms o = (event : Event) × (answer : Option Answer) × (references : List ℕ) × ((opened terms (wish_of terms event) answer references).connection ≡ Some o.first)

new_began : (lane : Lane) (openings : List Opening) (event : Event) (answer : Option Answer) (connection : Option Connection)
    → (opening_of lane openings (wish_of lane.terms event) answer).connection ≡ connection → All (Began lane.terms) (opening_list connection)
new_began lane openings event answer None e = All-nil (Began lane.terms)
new_began lane openings event answer (Some c) e =
    All-cons (Began lane.terms) (record { first = c; since = [] }) [] (event, answer, _, e) (All-nil (Began lane.terms))

after_began : (lane : Lane) (openings : List Opening) (event : Event) (answer : Option Answer) → All (Began lane.terms) openings
    → All (Began lane.terms) (openings_after lane openings event answer)
unfolding openings_after
after_began lane openings event answer began =
    All-append (Began lane.terms) (map (with_event event) openings) _
    (All-map (Began lane.terms) (with_event event) openings began) (new_began lane openings event answer _ refl)

all_began : (lane : Lane) (openings : List Opening) (journal : List Entry) → All (Began lane.terms) openings → All (Began lane.terms) (openings_from lane openings journal)
all_began lane openings [] began = began
all_began lane openings (entry ∷ journal) began =
    all_began lane (openings_after lane openings entry.event (answer_of entry)) journal (after_began lane openings entry.event (answer_of entry) began)

began_at : (lane : Lane) (journal : List Entry) (i : ℕ) (o : Opening) → slice_get (openings_from lane [] journal) i ≡ Some o → Began lane.terms o
began_at lane journal i o here =
    let openings = openings_from lane [] journal in
    subst (Began lane.terms) (get_or_from_slice_get openings i o o here)
    (all_began lane [] journal (All-nil (Began lane.terms)) i o (slice_get_within openings i o here))

-- What each step keeps stands after any events.
followed : (P : Connection → Type 0) (ticks : Ticks) → ((c : Connection) (event : Event) → P c → P (next ticks c event)) → (c : Connection) (events : List Event)
    → P c → P (follow ticks c events)
unfolding follow
followed P ticks step c [] p = p
followed P ticks step c (event ∷ events) p = followed P ticks step (next ticks c event) events (step c event p)

-- The timers run.

abbrev BothWithin : Ticks → Connection → Type 0
BothWithin ticks c = AllWithin ticks c.this × AllWithin ticks c.that

runs_all : (ticks : Ticks) (e f : End) → Runs ticks e f → AllWithin ticks e → AllWithin ticks f
runs_all ticks e f runs all = (runs.fits all.0, λ timer. runs.within 1 (omega arith) timer (all.1 timer))

both_all : (ticks : Ticks) (c d : Connection) → Both (Runs ticks) c d → BothWithin ticks c → BothWithin ticks d
both_all ticks c d runs all = (runs_all ticks c.this d.this runs.0 all.0, runs_all ticks c.that d.that runs.1 all.1)

event_within : (ticks : Ticks) → ArePositive ticks → (c : Connection) (event : Event) → BothWithin ticks c → BothWithin ticks (event_step ticks c event).0
event_within ticks set c (Arrived point sls bytes) all = both_all ticks c _ (heard_kept (runs_kept ticks set) point (arrival_in bytes) c) all
event_within ticks set c (Requested ssn r) all = both_all ticks c _ (asked_kept (runs_kept ticks set) ssn r c.this c.that) all
event_within ticks set c Tick all = ticks_within ticks set c all.0 all.1

step_within : (ticks : Ticks) → ArePositive ticks → (c : Connection) (event : Event) → BothWithin ticks c → BothWithin ticks (next ticks c event)
unfolding connection_step
step_within ticks set c event all =
    let r = event_step ticks c event in
    both_all ticks r.0 (after_event ticks r).0 (after_event_kept (runs_kept ticks set) r.0 r (both_same (runs_kept ticks set) r.0)) (event_within ticks set c event all)

none_runs : (ticks : Ticks) (timer : Timer) → Within ticks 1 timer (timer_in timer no_timers)
none_runs ticks Connect = tt
none_runs ticks Reset = tt
none_runs ticks Iar = tt
none_runs ticks Ias = tt
none_runs ticks Rel = tt
none_runs ticks Int = tt
none_runs ticks Repeat = tt

new_within : (ticks : Ticks) → ArePositive ticks → (e : End) → IsNew ticks e → AllWithin ticks e
new_within ticks set (wire x) new = (
  subst (Fits x.head.state) (sym new.1) (entered_fits ticks x.head.state no_timers),
  λ timer. subst (λ t. Within ticks 1 timer (timer_in timer t)) (sym new.1)
      (entered_within ticks set 1 (omega arith) timer x.head.state no_timers (none_runs ticks timer)),
)
new_within ticks set (owner u) new = (tt, λ timer. tt)

end_runs : (ticks : Ticks) (e : End) → AllWithin ticks e → EndRuns ticks e
end_runs ticks (wire x) all = record { left = all.1; state = all.0.state; after_rel = all.0.after_rel }
end_runs ticks (owner u) all = tt

pub timers_run : TimersRun
timers_run lane journal i o set here =
    let ticks = lane.terms.ticks in
    let began = began_at lane journal i o here in
    let new = new_at lane.terms began.0 began.1 began.2 o.first began.3 in
    let all = followed (BothWithin ticks) ticks (step_within ticks set) o.first (heard ticks o.first o.since)
    (new_within ticks set o.first.this new.0, new_within ticks set o.first.that new.1) in
    (end_runs ticks _ all.0, end_runs ticks _ all.1)

-- A tick may be quiet.

abbrev Steady : Connection → Type 0
Steady c = IsInStep c × Rests c

step_steady : (ticks : Ticks) (c : Connection) (event : Event) → Steady c → Steady (next ticks c event)
unfolding connection_step
step_steady ticks c event steady =
    (step_keeps ticks c event steady.0, after_event_rests ticks (event_step ticks c event) (event_kept ticks event c steady.0))

ticked_rests : (e : End) → EndRests e → EndRests (ticked e)
ticked_rests (wire x) rests = rests
ticked_rests (owner u) rests = rests

pub quiet_tick : QuietTick
quiet_tick lane journal i o within here this that =
    let ticks = lane.terms.ticks in
    let began = began_at lane journal i o here in
    let steady = followed Steady ticks (step_steady ticks) o.first (heard ticks o.first o.since) (
      opening_keeps lane.terms began.0 began.1 began.2 o.first within began.3,
      opened_rests lane.terms began.0 began.1 began.2 o.first began.3,
    ) in
    let c = follow ticks o.first (heard ticks o.first o.since) in
    quiet ticks c (record { this = ticked c.this; that = ticked c.that }) refl this that (ticked_rests c.this steady.1.0, ticked_rests c.that steady.1.1)
