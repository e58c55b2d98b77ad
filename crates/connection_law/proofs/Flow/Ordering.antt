-- What was sent since the counts were last cleared is what left of the other end.
use Rattle.std.proofs.Common.{◌≡◌, ℕ, suc, ◌+◌, ◌≤◌, ◌==◌, ◌&&◌, ◌||◌, not, nat_lt, Bool, true, false, List, [], ◌∷◌, ◌++◌, length, take, drop, if◌then◌else◌, is_some, refl, sym, subst, ◌∙◌, arith, inl, inr, ◌⊎◌, add-zero, take-add, length-take-le}
use Rattle.std.proofs.lemmas.Bool.{eqb-true}
use Rattle.std.proofs.lemmas.List.{take-append-le}
use Rattle.relay_base.specs.declared.words.Event.{Event}
use Rattle.relay_base.specs.declared.words.Output.{Output}
use Rattle.plant_core.specs.declared.terms.Ticks.{Ticks}
use Rattle.section_flow.specs.declared.unit.Unit.{Unit as DataUnit}
use Rattle.section_model.specs.declared.hand.Hand.TheVariants as hand
use Rattle.section_model.specs.declared.hand.Acted.{Acted}
use Rattle.section_model.specs.Ends.{End, wire, owner, Section, Connection, turned, is_up, gives_then}
use Rattle.section_model.specs.Windowed.{Windowed, windowed_takes, leaves, acknowledges}
use Rattle.section_flow.specs.Windows.{may_leave}
use Rattle.section_model.specs.Line.{line_takes}
use Rattle.section_model.specs.UserEnd.{user_takes}
use Rattle.section_model.specs.Acting.{timed, by_windows, section_takes, end_takes}
use Rattle.section_model.specs.Coupling.{exchange, settles}
use Rattle.section_model.specs.Step.{hears, event_step, connection_step, on_windows, after_event}
use Rattle.connection_law.specs.InStep.{IsInStep, AreInStep, passed_at, got_at, sent_at, class_at}
use Rattle.connection_law.specs.SentUnits.{SentUnits, leaving_count, leaving, since_cleared, sent_next, sent_along, AreSentInOrder, OrderLaw}
use Rattle.section_model.specs.Lane.{next, heard, follow}
use Rattle.connection_law.proofs.Flow.Opening.{opening_begins}
use Rattle.connection_law.proofs.Flow.Step.{event_kept, step_keeps}
use Rattle.connection_law.proofs.Flow.Leaving.{on_windows_kept, leaves_kept}
use Rattle.connection_law.proofs.Flow.Ends.{kept_back}
use Rattle.connection_law.proofs.Flow.Flowing.{either, line_counts, IsSection}
use Rattle.connection_law.proofs.Flow.Growing.{Growth, begins_anew, goes_on, StaysAs, CountsOn, GrowsAt}
use Rattle.connection_law.proofs.Flow.Going.{Goes, GrowsBeside, event_goes}

-- What an event does before units leave.

cleared_or : (sent : ℕ) (before : List DataUnit) (passed : ℕ) (got : List DataUnit) → sent ≡ passed → before ≡ take passed got → (if sent == 0 then [] else before) ≡ take passed got
cleared_or sent before passed got same e =
    either (λ (units : List DataUnit). units ≡ take passed got) (sent == 0) _ _
    (λ none. rw (← same, eqb-true sent 0 none) refl) (λ _. e)

none_sent : (sent : ℕ) (before : List DataUnit) (passed : ℕ) (got : List DataUnit) → sent ≡ passed → sent ≡ 0 → (if sent == 0 then [] else before) ≡ take passed got
none_sent sent before passed got same none = rw (← same, none) refl

-- so much of what came left, before and after
went_on : (passed passed' : ℕ) (got got' before : List DataUnit) → passed ≤ length got → before ≡ take passed got → Growth passed got passed' got' → (before ≡ take passed' got') ⊎ (passed' ≡ 0)
went_on passed passed' got got' before within e (begins_anew none) = inr none
went_on passed passed' got got' before within e (goes_on more p g) = inl (rw (p, g, take-append-le passed got more within) e)

-- an end has sent what left of the other, since the counts were cleared
abbrev pub HasSent : List DataUnit → End → End → Type 0
HasSent units e other = IsSection e → class_at e ≡ 3 → units ≡ take (passed_at other) (got_at other)

pub event_sends : (before : List DataUnit) (e other e' other' : End) → AreInStep e other → AreInStep e' other' → HasSent before e other → StaysAs e e' → GrowsBeside e' other other'
    → HasSent (since_cleared e' before) e' other'
event_sends before (wire x) other (wire y) other' k l sent stays grows = λ s three. by_counts three stays
  where
    by_growth : y.head.class ≡ 3 → (before ≡ take (passed_at other') (got_at other')) ⊎ (passed_at other' ≡ 0) → (if y.windows.sent == 0 then [] else before) ≡ take (passed_at other') (got_at other')
    by_growth three (inl e) = cleared_or y.windows.sent before (passed_at other') (got_at other') (l.4 three).1.2.0 e
    by_growth three (inr none) = none_sent y.windows.sent before (passed_at other') (got_at other') (l.4 three).1.2.0 ((l.4 three).1.2.0 ∙ none)

    by_grows : y.head.class ≡ 3 → (y.head.class ≡ x.head.class) × (y.windows.sent ≡ x.windows.sent) → (y.windows.sent ≡ 0) ⊎ GrowsAt other other'
        → (if y.windows.sent == 0 then [] else before) ≡ take (passed_at other') (got_at other')
    by_grows three same (inl none) = none_sent y.windows.sent before (passed_at other') (got_at other') (l.4 three).1.2.0 none
    by_grows three same (inr grown) =
        let three' : x.head.class ≡ 3 = sym same.0 ∙ three in
        let f = (k.4 three').1 in
        by_growth three (went_on (passed_at other) (passed_at other') (got_at other) (got_at other') before f.2.1 (sent tt three') (grown f.2.1).1)

    by_counts : y.head.class ≡ 3 → CountsOn x.head.class x.windows.sent y.head.class y.windows.sent → (if y.windows.sent == 0 then [] else before) ≡ take (passed_at other') (got_at other')
    by_counts three (inl none) = none_sent y.windows.sent before (passed_at other') (got_at other') (l.4 three).1.2.0 none
    by_counts three (inr same) = by_grows three same (grows three)
event_sends before (wire x) other (owner v) other' k l sent stays grows = λ s. absurd s
event_sends before (owner u) other (owner v) other' k l sent stays grows = λ s. absurd s
event_sends before (owner u) other (wire y) other' k l sent stays grows = absurd stays

-- What leaves after it.

-- one end after another: it is still a section of its class, what came in is as before, and so many units more were sent
pub record Stays (count : ℕ) (e e' : End) : Type 0 where
  pub section : IsSection e' → IsSection e
  pub class : class_at e' ≡ class_at e
  pub got : got_at e' ≡ got_at e
  pub sent : sent_at e' ≡ sent_at e + count

stays_same : (e : End) → Stays 0 e e
stays_same e = record { section = λ s. s; class = refl; got = refl; sent = sym (add-zero (sent_at e)) }

pub stays_then : (m n : ℕ) (e f g : End) → Stays m e f → Stays n f g → Stays (m + n) e g
stays_then m n e f g a b = record {
  section = λ s. a.section (b.section s);
  class = b.class ∙ a.class;
  got = b.got ∙ a.got;
  sent = rw (b.sent, a.sent) (omega arith);
}

pub stays_by : (m n : ℕ) (e f : End) → m ≡ n → Stays m e f → Stays n e f
stays_by m n e f same a = record { section = a.section; class = a.class; got = a.got; sent = rw (← same) a.sent }

-- both ends
abbrev BothStay : ℕ → ℕ → Connection → Connection → Type 0
BothStay m n c d = Stays m c.this d.this × Stays n c.that d.that

unfoldable LeftStays : ℕ → ℕ → Ticks → End → Section → End → Section × Acted → Type 0
LeftStays n count ticks old y giver done = let c = (exchange (suc n) ticks (timed ticks y done) giver).0 in Stays 0 (wire y) c.this × Stays count old c.that

left_stays : (n count units : ℕ) (is_expedited : Bool) (ticks : Ticks) (old taker giver : End) → Stays count old giver
    → (let c = (exchange (suc n) ticks (end_takes ticks (hand.Left units is_expedited) taker) giver).0 in Stays 0 taker c.this × Stays count old c.that)
unfolding LeftStays exchange section_takes windowed_takes line_takes user_takes
left_stays n count units true ticks old (wire y) giver s =
    either (LeftStays n count ticks old y giver) (y.head.class == 3) _ _
    (λ _. (record { section = λ s. s; class = refl; got = refl; sent = sym (add-zero y.windows.sent) }, s))
    (λ _. subst (LeftStays n count ticks old y giver) (sym (line_counts units true y)) (record { section = λ s. s; class = refl; got = refl; sent = sym (add-zero y.windows.sent) }, s))
left_stays n count units false ticks old (wire y) giver s =
    either (LeftStays n count ticks old y giver) (y.head.class == 3) _ _
    (λ _. (record { section = λ s. s; class = refl; got = refl; sent = sym (add-zero y.windows.sent) }, s))
    (λ _. subst (LeftStays n count ticks old y giver) (sym (line_counts units false y)) (record { section = λ s. s; class = refl; got = refl; sent = sym (add-zero y.windows.sent) }, s))
left_stays n count units is_expedited ticks old (owner u) giver s = (record { section = λ s. s; class = refl; got = refl; sent = sym (add-zero 0) }, s)

handed_stay : (b : Bool) (count units : ℕ) (is_expedited : Bool) (ticks : Ticks) (outs : List Output) (x x' : Section) (that : End) → Stays count (wire x) (wire x')
    → BothStay count 0 (record { this = wire x; that = that }) (settles ticks (wire x', gives_then outs (if b then hand.Left units is_expedited ∷ [] else [])) that).0
unfolding exchange
handed_stay true count units is_expedited ticks outs x x' that s = let l = left_stays 0 count units is_expedited ticks (wire x) that (wire x') s in (l.1, l.0)
handed_stay false count units is_expedited ticks outs x x' that s = (s, stays_same that)

windows_leave : (ticks : Ticks) (x : Section) (that : End) → BothStay (may_leave x.windows) 0 (record { this = wire x; that = that }) (settles ticks (timed ticks x (by_windows leaves x)) that).0
unfolding leaves
windows_leave ticks x that =
    let w = x.windows in
    let is_expedited = is_some w.waiting && not w.unanswered in
    handed_stay (is_expedited || nat_lt 0 (may_leave w)) (may_leave w) (may_leave w) is_expedited ticks _ x _ that
    (record { section = λ s. s; class = refl; got = refl; sent = refl })

pub leaves_stay : (ticks : Ticks) (this that : End) → BothStay (leaving_count this) 0 (record { this = this; that = that }) (on_windows ticks leaves this that).0
leaves_stay ticks (owner u) that = (stays_same (owner u), stays_same that)
leaves_stay ticks (wire x) that =
    either (λ (r : Connection × List Output). BothStay (leaving_count (wire x)) 0 (record { this = wire x; that = that }) r.0) (is_up x.head.state && x.head.class == 3) _ _
    (λ is_open. let s = windows_leave ticks x that in (stays_by (may_leave x.windows) (leaving_count (wire x)) (wire x) _ (rw is_open refl) s.0, s.1))
    (λ closed. (stays_by 0 (leaving_count (wire x)) (wire x) (wire x) (rw closed refl) (stays_same (wire x)), stays_same that))

acknowledges_stay : (ticks : Ticks) (this that : End) → BothStay 0 0 (record { this = this; that = that }) (on_windows ticks acknowledges this that).0
unfolding exchange acknowledges
acknowledges_stay ticks (owner u) that = (stays_same (owner u), stays_same that)
acknowledges_stay ticks (wire x) that =
    either (λ (r : Connection × List Output). BothStay 0 0 (record { this = wire x; that = that }) r.0) (is_up x.head.state && x.head.class == 3) _ _
    (λ _. either (λ (r : Windowed × Acted). BothStay 0 0 (record { this = wire x; that = that }) (settles ticks (timed ticks x (by_windows (λ w. r) x)) that).0) (x.windows.passed == x.windows.told) _ _
    (λ _. (record { section = λ s. s; class = refl; got = refl; sent = sym (add-zero x.windows.sent) }, stays_same that))
    (λ _. (record { section = λ s. s; class = refl; got = refl; sent = sym (add-zero x.windows.sent) }, stays_same that)))
    (λ _. (stays_same (wire x), stays_same that))

-- the connection after units left on its one end
abbrev pub this_left : Ticks → Connection → Connection
this_left ticks c = (on_windows ticks leaves c.this c.that).0

pub after_event_stays : (ticks : Ticks) (r : Connection × List Output) → BothStay 0 (leaving_count (this_left ticks r.0).that) (this_left ticks r.0) (after_event ticks r).0
unfolding after_event
after_event_stays ticks r =
    let d = this_left ticks r.0 in
    let e = this_left ticks (turned d) in
    let f = (on_windows ticks acknowledges e.that e.this).0 in
    let g = (on_windows ticks acknowledges f.that f.this).0 in
    let one = leaves_stay ticks d.that d.this in
    let two = acknowledges_stay ticks e.that e.this in
    let three = acknowledges_stay ticks f.that f.this in
    let n = leaving_count d.that in (
      stays_then (0 + 0) 0 d.this f.this g.that (stays_then 0 0 d.this e.that f.this one.1 two.0) three.1,
      stays_by ((n + 0) + 0) n d.that g.this (omega arith) (stays_then (n + 0) 0 d.that f.that g.this (stays_then n 0 d.that e.this f.that one.0 two.1) three.0),
    )

-- what is sent is what was, and what leaves

more_sent : (units waits : List DataUnit) (passed count passed' : ℕ) (got got' : List DataUnit) → units ≡ take passed got → waits ≡ drop passed got → passed' ≡ passed + count → got' ≡ got
    → units ++ take count waits ≡ take passed' got'
more_sent units waits passed count passed' got got' e w p g = rw (e, w, p, g) (sym (take-add passed count got))

leaving_sends : (units : List DataUnit) (e other e' other' : End) → AreInStep e other → AreInStep e' other' → HasSent units e other → Stays (leaving_count e) e e' → got_at other' ≡ got_at other
    → HasSent (units ++ leaving e) e' other'
leaving_sends units (wire x) other (wire y) other' k l sent stays got = λ s three.
    let three' : x.head.class ≡ 3 = sym stays.class ∙ three in
    let f = (k.4 three').1 in
    let g = (l.4 three).1 in
    more_sent units x.windows.waits (passed_at other) (leaving_count (wire x)) (passed_at other') (got_at other) (got_at other') (sent tt three') f.2.2
    (passed_on x.windows.sent y.windows.sent (passed_at other) (passed_at other') (leaving_count (wire x)) f.2.0 g.2.0 stays.sent) got
  where
    passed_on : (sent sent' passed passed' count : ℕ) → sent ≡ passed → sent' ≡ passed' → sent' ≡ sent + count → passed' ≡ passed + count
    passed_on sent sent' passed passed' count a b c = omega (arith, a, b, c)
leaving_sends units (owner u) other (wire y) other' k l sent stays got = λ s. absurd (stays.section tt)
leaving_sends units e other (owner v) other' k l sent stays got = λ s. absurd s

-- what was sent before units left on the other end
moved_sends : (before : List DataUnit) (e other e' other' : End) → AreInStep e other → AreInStep e' other' → Stays 0 e e' → got_at other' ≡ got_at other → HasSent (since_cleared e before) e other
    → HasSent (since_cleared e' before) e' other'
moved_sends before (wire x) other (wire y) other' k l stays got sent = λ s three.
    let three' : x.head.class ≡ 3 = sym stays.class ∙ three in
    let same : y.windows.sent ≡ x.windows.sent = stays.sent ∙ add-zero x.windows.sent in
    let passed : passed_at other' ≡ passed_at other = sym (l.4 three).1.2.0 ∙ (same ∙ (k.4 three').1.2.0) in
    rw (same, passed, got) (sent tt three')
moved_sends before (owner u) other (wire y) other' k l stays got sent = λ s. absurd (stays.section tt)
moved_sends before e other (owner v) other' k l stays got sent = λ s. absurd s

-- One step, and many.

abbrev pub SentOf : SentUnits → Connection → Type 0
SentOf sent c = HasSent sent.this c.this c.that × HasSent sent.that c.that c.this

pub step_sends : (ticks : Ticks) (c : Connection) (event : Event) (sent : SentUnits) → IsInStep c → SentOf sent c → SentOf (sent_next ticks c event sent) (next ticks c event)
unfolding connection_step
step_sends ticks c event sent k has =
    let acted = (event_step ticks c event).0 in
    let left = this_left ticks acted in
    let done = next ticks c event in
    let acted_kept : IsInStep acted = event_kept ticks event c k in
    let left_kept : IsInStep left = on_windows_kept ticks leaves (leaves_kept ticks) acted.this acted.that acted_kept in
    let done_kept : IsInStep done = step_keeps ticks c event k in
    let goes : Goes c acted = event_goes ticks c event in
    let first = leaves_stay ticks acted.this acted.that in
    let rest = after_event_stays ticks (event_step ticks c event) in
    let m = leaving_count acted.this in (
      leaving_sends (since_cleared acted.this sent.this) acted.this acted.that done.this done.that acted_kept done_kept
          (event_sends sent.this c.this c.that acted.this acted.that k acted_kept has.0 goes.0 goes.3)
          (stays_by (m + 0) m acted.this done.this (omega arith) (stays_then m 0 acted.this left.this done.this first.0 rest.0)) (rest.1.got ∙ first.1.got),
      leaving_sends (since_cleared left.that sent.that) left.that left.this done.that done.this (kept_back left left_kept) (kept_back done done_kept)
          (moved_sends sent.that acted.that acted.this left.that left.this (kept_back acted acted_kept) (kept_back left left_kept) first.1 first.0.got
          (event_sends sent.that c.that c.this acted.that acted.this (kept_back c k) (kept_back acted acted_kept) has.1 goes.1 goes.2))
          rest.1 rest.0.got,
    )

follow_sends : (ticks : Ticks) (c : Connection) (events : List Event) (sent : SentUnits) → IsInStep c → SentOf sent c
    → IsInStep (follow ticks c (heard ticks c events)) × SentOf (sent_along ticks c (heard ticks c events) sent) (follow ticks c (heard ticks c events))
unfolding heard follow sent_along
follow_sends ticks c [] sent k has = (k, has)
follow_sends ticks c (event ∷ events) sent k has =
    by_test (hears c event) (follow_sends ticks (next ticks c event) events (sent_next ticks c event sent) (step_keeps ticks c event k) (step_sends ticks c event sent k has)) (follow_sends ticks c events sent k has)
  where
    Follows : List Event → Type 0
    Follows heard_events = IsInStep (follow ticks c heard_events) × SentOf (sent_along ticks c heard_events sent) (follow ticks c heard_events)

    by_test : (b : Bool) → Follows (event ∷ heard ticks (next ticks c event) events) → Follows (heard ticks c events)
        → Follows (elim b [ true ↦ event ∷ heard ticks (next ticks c event) events | false ↦ heard ticks c events ])
    by_test true f g = f
    by_test false f g = g

in_order : (units : List DataUnit) (e other : End) → AreInStep e other → HasSent units e other → AreSentInOrder units e other
in_order units (wire x) other k has = λ three.
    let f = (k.4 three).1 in
    let e = has tt three in
    (e, rw (e, length-take-le (passed_at other) (got_at other) f.2.1) (sym f.2.0))
in_order units (owner u) other k has = tt

nothing_sent : (passed : ℕ) (got : List DataUnit) → passed ≡ 0 → [] ≡ take passed got
nothing_sent passed got none = rw none refl

pub order_law : OrderLaw
order_law terms event answer references c events fits e =
    let o = opening_begins terms event answer references c fits e in
    let hears = heard terms.ticks c events in
    let nothing : SentUnits = record { this = []; that = [] } in
    let f = follow_sends terms.ticks c events nothing o.0
    (λ s three. nothing_sent (passed_at c.that) (got_at c.that) o.2, λ s three. nothing_sent (passed_at c.this) (got_at c.this) o.1) in
    let done = follow terms.ticks c hears in
    let sent = sent_along terms.ticks c hears nothing in
    (in_order sent.this done.this done.that f.0 f.1.0, in_order sent.that done.that done.this (kept_back done f.0) f.1.1)
