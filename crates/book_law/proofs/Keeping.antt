-- A step of a connection keeps what holds of its two ends, and gives outputs of which it holds, where each act of an end does.
use Rattle.std.proofs.Common.{ℕ, zero, suc, ◌==◌, ◌&&◌, not, List, [], ◌∷◌, fold, if◌then◌else◌, Option, Some, None}
use Rattle.std.specs.Prelude.{IfSome}
use Rattle.std.specs.List.{AllByRecursion}
use Rattle.relay_base.specs.declared.causes.TheConstants.{ERROR_INCONSISTENT_REFERENCE}
use Rattle.relay_base.specs.declared.words.Event.{Event}
use Rattle.relay_base.specs.declared.words.Event.TheVariants.{Message as Arrived, Asked as Requested, Tick}
use Rattle.relay_base.specs.declared.words.Lost.TheVariants as lost
use Rattle.relay_base.specs.declared.words.Output.{Output}
use Rattle.relay_base.specs.declared.words.Output.TheVariants.{Told, Lost as Dropped}
use Rattle.relay_base.specs.declared.words.Reason.{Reason}
use Rattle.relay_base.specs.declared.words.Request.{Request}
use Rattle.relay_base.specs.declared.words.Tell.TheVariants as tell
use Rattle.plant_core.specs.declared.terms.Ticks.{Ticks}
use Rattle.q713_codec.specs.declared.message.Message.TheVariants.{Err as Error}
use Rattle.section_flow.specs.declared.unit.Unit.{Unit as DataUnit}
use Rattle.section_flow.specs.Windows.{Windows}
use Rattle.section_model.specs.declared.cell.Cell.{Cell}
use Rattle.section_model.specs.declared.cell.Occasion.{Occasion}
use Rattle.section_model.specs.declared.cell.Timer.{Timer}
use Rattle.section_model.specs.declared.hand.Acted.{Acted}
use Rattle.section_model.specs.declared.hand.Hand.{Hand}
use Rattle.section_model.specs.declared.hand.KeptRelease.{KeptRelease}
use Rattle.section_model.specs.Ends.{SectionHead, Line, Section, User, End, wire, owner, Connection, cleared, is_up, is_connected}
use Rattle.section_model.specs.Line.{sent_on, line_hears, line_fires, line_takes}
use Rattle.section_model.specs.Parameters.{Parameters, Arrival, arrival_in}
use Rattle.section_model.specs.Table.{section_cell}
use Rattle.section_model.specs.Timing.{firing, rearmed, firing_order}
use Rattle.section_model.specs.Windowed.{Windowed, windowed_hears, windowed_fires, windowed_takes, leaves, acknowledges}
use Rattle.section_model.specs.UserEnd.{user_asks, user_takes}
use Rattle.section_model.specs.Acting.{timed, line_in, by_line, by_windows, in_windows, section_hears, section_fires, section_takes, section_takes_by, user_takes_by, end_takes}
use Rattle.section_model.specs.Coupling.{with_more, other_takes, exchange, settles, and_then, on_that}
use Rattle.section_model.specs.Step.{names_both, ends_both, names_another, is_of_other_class, checked, hears_checked, in_touch, is_from_elsewhere, hears_message, asking_cell, reason_against, asks_unless, asks, ticked, is_due_at, fires, fires_next, fires_due, ticks_by, on_windows, on_each, after_event, is_named, at_this, heard_by, asked_by, event_step, connection_step}
use Rattle.book_law.proofs.Outputs.{either, all-append}

-- What holds of the ends of a connection, of what one hands to the other, and of the outputs; and of a message from a point and of a request
-- of a subsystem.
pub record Properties : Type 1 where
  pub head : SectionHead → Type 0
  pub kept : KeptRelease → Type 0
  pub windows : Windows → Type 0
  pub user : User → Type 0
  pub hand : Hand → Type 0
  pub output : Output → Type 0
  pub point : ℕ → Type 0
  pub message : Parameters → Type 0
  pub subsystem : ℕ → Type 0
  pub request : Request → Type 0

module _ (P : Properties) where
  -- What an end hands over and gives, what a line, windows and a user's end are after an act, and so a section and an end.

  abbrev pub OfHands : List Hand → Type 0
  OfHands hands = AllByRecursion P.hand hands

  abbrev pub OfActed : Acted → Type 0
  OfActed acted = OfHands acted.first × AllByRecursion P.output acted.outs × OfHands acted.then

  abbrev pub OfLine : Line → Type 0
  OfLine x = P.head x.head × P.kept x.kept

  abbrev pub LineDone : Line × Acted → Type 0
  LineDone done = OfLine done.0 × OfActed done.1

  abbrev pub OfWindowed : Windowed → Type 0
  OfWindowed x = P.head x.head × P.windows x.windows

  abbrev pub WindowedDone : Windowed × Acted → Type 0
  WindowedDone done = OfWindowed done.0 × OfActed done.1

  abbrev pub UserDone : User × Acted → Type 0
  UserDone done = P.user done.0 × OfActed done.1

  abbrev OfSection : Section → Type 0
  OfSection x = P.head x.head × P.kept x.kept × P.windows x.windows

  abbrev SectionDone : Section × Acted → Type 0
  SectionDone done = OfSection done.0 × OfActed done.1

  abbrev OfEnd : End → Type 0
  OfEnd (wire x) = OfSection x
  OfEnd (owner u) = P.user u

  abbrev EndDone : End × Acted → Type 0
  EndDone done = OfEnd done.0 × OfActed done.1

  abbrev pub OfBoth : Connection → Type 0
  OfBoth c = OfEnd c.this × OfEnd c.that

  -- a connection after a part of a step, with its outputs
  abbrev pub Done : Connection × List Output → Type 0
  Done r = OfBoth r.0 × AllByRecursion P.output r.1

  -- what an event brings
  abbrev pub OfArrival : Option Arrival → Type 0
  OfArrival a = IfSome a (λ arrival. P.message arrival.parameters)

  abbrev pub OfEvent : Event → Type 0
  OfEvent (Arrived point sls bytes) = P.point point × OfArrival (arrival_in bytes)
  OfEvent (Requested ssn r) = P.subsystem ssn × P.request r
  OfEvent Tick = Unit {0}

  -- Each act of a line, of windows and of a user's end keeps it, and it holds of the outputs of the checks and of a refusal.
  pub record Keeps : Type 0 where
    pub line-hears : (c : Cell) (point : ℕ) (m : Parameters) (x : Line) → P.point point → P.message m → OfLine x → LineDone (line_hears c point m x)
    pub line-fires : (c : Cell) (x : Line) → OfLine x → LineDone (line_fires c x)
    pub line-takes : (c : Cell) (h : Hand) (x : Line) → P.hand h → OfLine x → LineDone (line_takes c h x)
    pub windows-hear : (c : Cell) (m : Parameters) (x : Windowed) → P.message m → OfWindowed x → WindowedDone (windowed_hears c m x)
    pub windows-fire : (x : Windowed) → OfWindowed x → WindowedDone (windowed_fires x)
    pub windows-take : (c : Cell) (h : Hand) (x : Windowed) → P.hand h → OfWindowed x → WindowedDone (windowed_takes c h x)
    pub leaves-done : (x : Windowed) → OfWindowed x → WindowedDone (leaves x)
    pub acknowledges-done : (x : Windowed) → OfWindowed x → WindowedDone (acknowledges x)
    pub user-asks : (c : Cell) (r : Request) (u : User) → P.request r → P.user u → UserDone (user_asks c r u)
    pub user-takes : (c : Cell) (h : Hand) (u : User) → P.hand h → P.user u → UserDone (user_takes c h u)
    pub windows-begin : (credit : ℕ) → P.windows (cleared credit)
    pub windows-count : (w : Windows) (got : List DataUnit) (passed : ℕ) → P.windows w → P.windows (record w { got = got; passed = passed })
    pub error-sent : (m : Parameters) (x : SectionHead) → P.head x → P.output (sent_on x (Error m.slr ERROR_INCONSISTENT_REFERENCE))
    pub point-lost : P.output (Dropped lost.Point)
    pub state-lost : P.output (Dropped lost.State)
    pub class-lost : P.output (Dropped lost.Class)
    pub owner-refused : (why : Reason) (u : User) → P.user u → P.output (Told u.ssn (tell.No why))
    pub other-refused : (why : Reason) (ssn : ℕ) → P.subsystem ssn → P.output (Told ssn (tell.No why))

  -- Parts of a step.

  abbrev PartDone : (Connection → Connection × List Output) → Type 0
  PartDone part = (this that : End) → OfEnd this → OfEnd that → Done (part (record { this = this; that = that }))

  then-done : (part : Connection → Connection × List Output) → PartDone part → (r : Connection × List Output) → Done r → Done (and_then part r)
  then-done part does r done =
      let next = does r.0.this r.0.that done.0.0 done.0.1 in (next.0, all-append P.output r.1 (part r.0).1 done.1 next.1)

  that-done : (part : Connection → Connection × List Output) → PartDone part → PartDone (on_that part)
  that-done part does this that good other = let done = does that this other good in ((done.0.1, done.0.0), done.1)

  on_each-done : (part : End → End → Connection × List Output) → PartDone (λ c. part c.this c.that) → (r : Connection × List Output) → Done r → Done (on_each part r)
  on_each-done part does r done =
      let on_this : Connection → Connection × List Output = λ c. part c.this c.that in
      then-done (on_that on_this) (that-done on_this does) (and_then on_this r) (then-done on_this does r done)

  module _ (keeps : Keeps) where
    -- An act of an end: of a section by its windows or its line, or of a user.

    line-done : (act : Line → Line × Acted) (x : Section) → OfSection x → LineDone (act (line_in x)) → SectionDone (by_line act x)
    line-done act x good done =
        let line = (act (line_in x)).0 in
        let begins = is_up line.head.state && not (is_connected x.head.state) in
        let windows = either P.windows begins _ _ (keeps.windows-begin line.head.credit) (keeps.windows-count x.windows line.got line.passed good.2) in
        ((done.0.0, done.0.1, windows), done.1)

    abbrev windowed_in : Section → Windowed
    windowed_in x = record { head = x.head; windows = x.windows }

    windows-done : (act : Windowed → Windowed × Acted) (x : Section) → OfSection x → WindowedDone (act (windowed_in x)) → SectionDone (by_windows act x)
    windows-done act x good done = ((done.0.0, good.1, done.0.1), done.1)

    section-done : (c : Cell) (windowed : Windowed → Windowed × Acted) (line : Line → Line × Acted) (x : Section) → OfSection x
        → (OfWindowed (windowed_in x) → WindowedDone (windowed (windowed_in x))) → (OfLine (line_in x) → LineDone (line (line_in x)))
        → SectionDone (if in_windows c x then by_windows windowed x else by_line line x)
    section-done c windowed line x good by_counts by_head =
        either SectionDone (in_windows c x) (by_windows windowed x) (by_line line x)
        (windows-done windowed x good (by_counts (good.0, good.2))) (line-done line x good (by_head (good.0, good.1)))

    section-hears : (ticks : Ticks) (c : Cell) (point : ℕ) (m : Parameters) (x : Section) → P.point point → P.message m → OfSection x
        → EndDone (section_hears ticks c point m x)
    unfolding section_hears
    section-hears ticks c point m x from brought good =
        section-done c (windowed_hears c m) (line_hears c point m) x good (keeps.windows-hear c m (windowed_in x) brought) (keeps.line-hears c point m (line_in x) from brought)

    section-fires : (ticks : Ticks) (c : Cell) (x : Section) → OfSection x → EndDone (section_fires ticks c x)
    unfolding section_fires
    section-fires ticks c x good = section-done c windowed_fires (line_fires c) x good (keeps.windows-fire (windowed_in x)) (keeps.line-fires c (line_in x))

    section-takes : (ticks : Ticks) (c : Cell) (h : Hand) (x : Section) → P.hand h → OfSection x → EndDone (section_takes ticks c h x)
    unfolding section_takes
    section-takes ticks c h x handed good =
        section-done c (windowed_takes c h) (line_takes c h) x good (keeps.windows-take c h (windowed_in x) handed) (keeps.line-takes c h (line_in x) handed)

    end-takes : (ticks : Ticks) (h : Hand) (e : End) → P.hand h → OfEnd e → EndDone (end_takes ticks h e)
    end-takes ticks h (wire x) handed good = section-takes ticks (section_takes_by x.head.state h) h x handed good
    end-takes ticks h (owner u) handed good = keeps.user-takes (user_takes_by u.state h) h u handed good

    -- An exchange.

    abbrev GoesOn : (End × Acted → End → Connection × List Output) → Type 0
    GoesOn next = (acting : End × Acted) (that : End) → EndDone acting → OfEnd that → Done (next acting that)

    hands-done : (ticks : Ticks) (next : End × Acted → End → Connection × List Output) → GoesOn next → (hands : List Hand) (r : Connection × List Output)
        → OfHands hands → Done r → Done (fold (other_takes next ticks) r hands)
    hands-done ticks next goes [] r handed done = done
    hands-done ticks next goes (h ∷ hands) r handed done =
        let taken = end_takes ticks h r.0.that in
        let after = goes taken r.0.this (end-takes ticks h r.0.that handed.0 done.0.1) done.0.0 in
        hands-done ticks next goes hands (other_takes next ticks r h) handed.1
        ((after.0.1, after.0.0), all-append P.output r.1 (next taken r.0.this).1 done.1 after.1)

    exchange-done : (turns : ℕ) (ticks : Ticks) → GoesOn (exchange turns ticks)
    unfolding exchange
    exchange-done zero ticks acting that acted good = ((acted.0, good), acted.1.1)
    exchange-done (suc turns) ticks acting that acted good =
        let next = exchange turns ticks in
        let goes : GoesOn next = exchange-done turns ticks in
        let c : Connection = record { this = acting.0; that = that } in
        let first = fold (other_takes next ticks) (c, []) acting.1.first in
        let done : Done first = hands-done ticks next goes acting.1.first (c, []) acted.1.0 ((acted.0, good), tt) in
        hands-done ticks next goes acting.1.then (with_more acting.1.outs first) acted.1.2
        (done.0, all-append P.output first.1 acting.1.outs done.1 acted.1.1)

    settles-done : (ticks : Ticks) → GoesOn (settles ticks)
    settles-done ticks acting that acted good = exchange-done 2 ticks acting that acted good

    -- A message.

    abbrev IfGiven : Option Output → Type 0
    IfGiven out = IfSome out P.output

    check-done : (o : Occasion) (m : Parameters) (x : SectionHead) → P.head x → IfGiven (checked o m x)
    check-done o m x good =
        either IfGiven (names_both o && names_another m x) _ _ (keeps.error-sent m x good)
        (either IfGiven (ends_both o && names_another m x) _ _ keeps.state-lost
        (either IfGiven (is_of_other_class o x) _ _ keeps.class-lost tt))

    hears-checked : (ticks : Ticks) (o : Occasion) (point : ℕ) (m : Parameters) (x : Section) (out : Option Output) → P.point point → P.message m → OfSection x
        → IfGiven out → EndDone (hears_checked ticks o point m x out)
    hears-checked ticks o point m x (Some out) from brought good given = (good, (tt, (given, tt), tt))
    hears-checked ticks o point m x None from brought good given = section-hears ticks (section_cell x.head.state o) point m x from brought good

    hears-done : (ticks : Ticks) (o : Occasion) (point : ℕ) (m : Parameters) → P.point point → P.message m → PartDone (at_this (hears_message ticks o point m))
    unfolding hears_message
    hears-done ticks o point m from brought (wire x) that good other =
        let touched = in_touch ticks x in
        either Done (is_from_elsewhere point x.head) _ _ ((good, other), (keeps.point-lost, tt))
        (settles-done ticks (hears_checked ticks o point m touched (checked o m x.head)) that
        (hears-checked ticks o point m touched (checked o m x.head) from brought good (check-done o m x.head good.0)) other)
    hears-done ticks o point m from brought (owner u) that good other = ((good, other), tt)

    heard-done : (ticks : Ticks) (point : ℕ) (a : Option Arrival) → P.point point → OfArrival a → PartDone (heard_by ticks point a)
    heard-done ticks point None from brought this that good other = ((good, other), tt)
    heard-done ticks point (Some a) from brought this that good other =
        let part = at_this (hears_message ticks a.occasion point a.parameters) in
        let does : PartDone part = hears-done ticks a.occasion point a.parameters from brought in
        either Done (is_named a.parameters.dlr this) _ _ (does this that good other) (that-done part does this that good other)

    -- A request.

    unless-done : (why : Option Reason) (ticks : Ticks) (r : Request) (u : User) (x : Section) → P.request r → P.user u → OfSection x → Done (asks_unless why ticks r u x)
    unless-done (Some why) ticks r u x asked user good = ((user, good), (keeps.owner-refused why u user, tt))
    unless-done None ticks r u x asked user good =
        let cell = asking_cell u.state r in
        settles-done ticks (owner (user_asks cell r u).0, (user_asks cell r u).1) (wire x) (keeps.user-asks cell r u asked user) good

    asks-done : (ticks : Ticks) (ssn : ℕ) (r : Request) → P.subsystem ssn → P.request r → PartDone (λ c. asks ticks ssn r c.this c.that)
    unfolding asks
    asks-done ticks ssn r by asked (owner u) (wire x) user good =
        either Done (u.ssn == ssn) _ _ (unless-done (reason_against r u x) ticks r u x asked user good) ((user, good), (keeps.other-refused _ ssn by, tt))
    asks-done ticks ssn r by asked (owner u) (owner v) good other = ((good, other), (keeps.other-refused _ ssn by, tt))
    asks-done ticks ssn r by asked (wire x) that good other = ((good, other), (keeps.other-refused _ ssn by, tt))

    asked-done : (ticks : Ticks) (ssn : ℕ) (r : Request) → P.subsystem ssn → P.request r → PartDone (asked_by ticks ssn r)
    asked-done ticks ssn r by asked (owner u) that good other = asks-done ticks ssn r by asked (owner u) that good other
    asked-done ticks ssn r by asked (wire x) that good other =
        that-done (λ d. asks ticks ssn r d.this d.that) (asks-done ticks ssn r by asked) (wire x) that good other

    -- A tick.

    ticked-done : (e : End) → OfEnd e → OfEnd (ticked e)
    ticked-done (wire x) good = good
    ticked-done (owner u) good = good

    fires-done : (ticks : Ticks) (timer : Timer) → PartDone (λ c. fires ticks timer c.this c.that)
    fires-done ticks timer (wire x) that good other =
        let waiting : Section = record x { timers = rearmed ticks timer x.timers } in
        either Done (is_due_at timer (wire x)) _ _
        (settles-done ticks _ that (section-fires ticks (section_cell x.head.state (firing timer)) waiting good) other) ((good, other), tt)
    fires-done ticks timer (owner u) that good other = ((good, other), tt)

    firing-done : (ticks : Ticks) (timers : List Timer) (r : Connection × List Output) → Done r → Done (fold (fires_next ticks) r timers)
    firing-done ticks [] r done = done
    firing-done ticks (timer ∷ timers) r done =
        firing-done ticks timers (fires_next ticks r timer) (then-done (λ c. fires ticks timer c.this c.that) (fires-done ticks timer) r done)

    due-done : (ticks : Ticks) → PartDone (fires_due ticks)
    unfolding fires_due
    due-done ticks this that good other = firing-done ticks firing_order (record { this = this; that = that }, []) ((good, other), tt)

    ticks-done : (ticks : Ticks) → PartDone (ticks_by ticks)
    ticks-done ticks this that good other =
        then-done (on_that (fires_due ticks)) (that-done (fires_due ticks) (due-done ticks)) (fires_due ticks (record { this = ticked this; that = ticked that }))
        (due-done ticks (ticked this) (ticked that) (ticked-done this good) (ticked-done that other))

    -- What follows each event.

    on_windows-done : (ticks : Ticks) (act : Windowed → Windowed × Acted) → ((x : Windowed) → OfWindowed x → WindowedDone (act x))
        → PartDone (λ c. on_windows ticks act c.this c.that)
    on_windows-done ticks act does (wire x) that good other =
        either Done (is_up x.head.state && x.head.class == 3) _ _
        (settles-done ticks (timed ticks x (by_windows act x)) that (windows-done act x good (does (windowed_in x) (good.0, good.2))) other) ((good, other), tt)
    on_windows-done ticks act does (owner u) that good other = ((good, other), tt)

    after_event-done : (ticks : Ticks) (r : Connection × List Output) → Done r → Done (after_event ticks r)
    unfolding after_event
    after_event-done ticks r done =
        on_each-done (on_windows ticks acknowledges) (on_windows-done ticks acknowledges keeps.acknowledges-done) (on_each (on_windows ticks leaves) r)
        (on_each-done (on_windows ticks leaves) (on_windows-done ticks leaves keeps.leaves-done) r done)

    -- The step.

    event-done : (ticks : Ticks) (event : Event) (c : Connection) → OfEvent event → OfBoth c → Done (event_step ticks c event)
    event-done ticks (Arrived point sls bytes) c has both = heard-done ticks point (arrival_in bytes) has.0 has.1 c.this c.that both.0 both.1
    event-done ticks (Requested ssn r) c has both = asked-done ticks ssn r has.0 has.1 c.this c.that both.0 both.1
    event-done ticks Tick c has both = ticks-done ticks c.this c.that both.0 both.1

    pub step-keeps : (ticks : Ticks) (c : Connection) (event : Event) → OfEvent event → OfBoth c → Done (connection_step ticks c event)
    unfolding connection_step
    step-keeps ticks c event has both = after_event-done ticks (event_step ticks c event) (event-done ticks event c has both)
