-- What one step sends.
use Rattle.std.proofs.Common.{◌≡◌, ℕ, suc, ◌+◌, ◌-◌, ◌≤◌, ◌==◌, ◌&&◌, ◌||◌, nat_lt, not, if◌then◌else◌, Bool, true, false, List, [], ◌∷◌, ◌++◌, take, drop, is_some, refl, sym, ◌∙◌, ap, arith, inl, inr}
use Rattle.std.proofs.lemmas.Bool.{eqb-true}
use Rattle.std.proofs.lemmas.List.{drop-take}
use Rattle.relay_base.specs.declared.words.Output.{Output}
use Rattle.plant_core.specs.declared.terms.Ticks.{Ticks}
use Rattle.section_model.specs.declared.hand.Hand.TheVariants as hand
use Rattle.section_flow.specs.declared.unit.Unit.{Unit as DataUnit}
use Rattle.section_model.specs.declared.hand.Acted.{Acted}
use Rattle.section_model.specs.Ends.{End, wire, owner, SectionHead, Connection, turned, is_up, gives_then}
use Rattle.section_flow.specs.Windows.{Windows, may_leave}
use Rattle.section_model.specs.Windowed.{Windowed, numbered, leaves, acknowledges}
use Rattle.section_model.specs.Acting.{timed, by_windows}
use Rattle.section_model.specs.Coupling.{exchange, settles}
use Rattle.section_model.specs.Step.{event_step, connection_step, on_windows, after_event}
use Rattle.connection_law.specs.InStep.{IsInStep, AreInStep, passed_at, got_at, sent_at}
use Rattle.connection_law.specs.SentUnits.{leaving_count}
use Rattle.connection_law.proofs.Flow.Ends.{kept_back}
use Rattle.connection_law.proofs.Flow.Flowing.{either}
use Rattle.connection_law.proofs.Flow.Growing.{StaysAs}
use Rattle.connection_law.proofs.Flow.Going.{Goes, event_goes}
use Rattle.connection_law.proofs.Flow.Leaving.{on_windows_kept, leaves_kept}
use Rattle.connection_law.proofs.Flow.Step.{event_kept}
use Rattle.connection_law.proofs.Flow.Ordering.{Stays, this_left, stays_then, stays_by, leaves_stay, after_event_stays}
use Rattle.connection_law.specs.Messages.{expedited_among}
use Rattle.connection_law.specs.DataSent.{as_data, all_as_data, data_on, IsWithinCredit, GoesOn, DataSentLaw}
use Rattle.connection_law.specs.ExpeditedSent.{waiting_on, ExpeditedSentLaw}
use Rattle.connection_law.proofs.Message.Exchanging.{left_keeps}
use Rattle.connection_law.proofs.Message.Hearing.{event_sends, no_data}
use Rattle.connection_law.proofs.Message.Answering.{event_answers, after_answers}
use Rattle.connection_law.proofs.Message.Waiting.{event_hands_over, step_hands_over}
use Rattle.connection_law.proofs.Message.Leaving.{data_leaving, LeavesAlike, leaves_alike, after_event_sends}

-- Expedited data.

waiting_alike : (e e' : End) → LeavesAlike e e' → waiting_on e' ≡ waiting_on e
waiting_alike (wire x) (wire y) k = rw (k.0, ap (λ (w : Windows). w.waiting) k.1, ap (λ (w : Windows). w.unanswered) k.1) refl
waiting_alike (owner u) (owner v) k = refl
waiting_alike (wire x) (owner v) k = absurd k
waiting_alike (owner u) (wire y) k = absurd k

pub expedited_sent : ExpeditedSentLaw
unfolding connection_step
expedited_sent ticks c event h =
    let r = event_step ticks c event in record {
      at_once = expedited_among r.1;
      leaves = (event_sends ticks c event h).1;
      unanswered = (event_answers ticks c event h, after_answers ticks (event_step ticks c event));
      waits = (event_hands_over ticks c event h, step_hands_over ticks c event h);
      sends = (after_event_sends ticks r).expedited
          ∙ ap (λ (outs : List Output). expedited_among r.1 ++ waiting_on r.0.this ++ outs) (waiting_alike r.0.that (this_left ticks r.0).that (leaves_alike ticks r.0.this r.0.that));
    }

-- The units that leave are the next ones of the other end.

next_units : (sent passed count sent' : ℕ) (waits got got' : List DataUnit) → sent ≡ passed → waits ≡ drop passed got → sent' ≡ sent + count → got' ≡ got
    → take count waits ≡ drop sent (take sent' got')
next_units sent passed count sent' waits got got' s w n g = rw (w, n, g, s) (sym (drop-take passed count got))

not_both : (a b : Bool) → b ≡ false → (a && b) ≡ false
not_both true b e = e
not_both false b e = refl

spelled : (x : SectionHead) (ps pr : ℕ) (units : List DataUnit) → numbered x ps pr units ≡ all_as_data x ps pr units
spelled x ps pr [] = refl
spelled x ps pr (u ∷ units) = ap (λ (outs : List Output). as_data x ps pr u ∷ outs) (spelled x (suc ps) pr units)

data_is : (e other after after' : End) → AreInStep e other → sent_at after ≡ sent_at e + leaving_count e → got_at after' ≡ got_at other
    → data_leaving e ≡ data_on e (passed_at e) after after'
data_is (owner u) other after after' k n g = refl
data_is (wire x) other after after' k n g =
    either (λ (outs : List Output). data_leaving (wire x) ≡ outs) (x.head.class == 3) _ _
    (λ three. let f = (k.4 (eqb-true x.head.class 3 three)).1.2 in
    spelled x.head x.windows.sent x.windows.passed (take (leaving_count (wire x)) x.windows.waits)
    ∙ ap (all_as_data x.head x.windows.sent x.windows.passed)
    (next_units x.windows.sent (passed_at other) (leaving_count (wire x)) (sent_at after) x.windows.waits (got_at other) (got_at after') f.0 f.2 n g))
    (λ other_class. rw (not_both (is_up x.head.state) (x.head.class == 3) other_class) refl)

data_alike : (e e' after other : End) (pr pr' : ℕ) → LeavesAlike e e' → pr' ≡ pr → data_on e' pr' after other ≡ data_on e pr after other
data_alike (wire x) (wire y) after other pr pr' k p = rw (k.0, ap (λ (w : Windows). w.sent) k.1, p) refl
data_alike (owner u) (owner v) after other pr pr' k p = refl
data_alike (wire x) (owner v) after other pr pr' k p = absurd k
data_alike (owner u) (wire y) after other pr pr' k p = absurd k

-- How many came in and left on the other end, at the end that acts after an event.

left_or_not : (b : Bool) (ticks : Ticks) (e that : End) (outs : List Output) (units : ℕ) (is_expedited : Bool)
    → passed_at (settles ticks (e, gives_then outs (if b then hand.Left units is_expedited ∷ [] else [])) that).0.this ≡ passed_at e
unfolding exchange
left_or_not true ticks e that outs units is_expedited = ap passed_at (left_keeps 1 ticks e that outs units is_expedited)
left_or_not false ticks e that outs units is_expedited = refl

leaves_passed : (ticks : Ticks) (this that : End) → passed_at (on_windows ticks leaves this that).0.this ≡ passed_at this
unfolding leaves
leaves_passed ticks (owner u) that = refl
leaves_passed ticks (wire x) that =
    let w = x.windows in
    let is_expedited = is_some w.waiting && not w.unanswered in
    either (λ (r : Connection × List Output). passed_at r.0.this ≡ w.passed) (is_up x.head.state && x.head.class == 3) _ _
    (λ _. left_or_not (is_expedited || nat_lt 0 (may_leave w)) ticks (timed ticks x (by_windows leaves x)).0 that _ (may_leave w) is_expedited) (λ _. refl)

acknowledged_passed : (ticks : Ticks) (this that : End)
    → (passed_at (on_windows ticks acknowledges this that).0.this ≡ passed_at this) × (passed_at (on_windows ticks acknowledges this that).0.that ≡ passed_at that)
unfolding exchange acknowledges
acknowledged_passed ticks (owner u) that = (refl, refl)
acknowledged_passed ticks (wire x) that =
    let P : Connection × List Output → Type 0 = λ r. (passed_at r.0.this ≡ x.windows.passed) × (passed_at r.0.that ≡ passed_at that) in
    either P (is_up x.head.state && x.head.class == 3) _ _
    (λ _. either (λ (r : Windowed × Acted). P (settles ticks (timed ticks x (by_windows (λ w. r) x)) that)) (x.windows.passed == x.windows.told) _ _
    (λ _. (refl, refl)) (λ _. (refl, refl)))
    (λ _. (refl, refl))

that_passed : (ticks : Ticks) (r : Connection × List Output) → passed_at (after_event ticks r).0.that ≡ passed_at (this_left ticks r.0).that
unfolding after_event
that_passed ticks r =
    let d = this_left ticks r.0 in
    let e = this_left ticks (turned d) in
    let f = (on_windows ticks acknowledges e.that e.this).0 in
    (acknowledged_passed ticks f.that f.this).0 ∙ ((acknowledged_passed ticks e.that e.this).1 ∙ leaves_passed ticks d.that d.this)

-- The send credit.

within_leaving : (e after : End) → sent_at after ≡ sent_at e + leaving_count e → IsWithinCredit e after
within_leaving (owner u) after n = tt
within_leaving (wire x) after n =
    by_count (leaving_count (wire x)) n (either (λ (count : ℕ). count ≤ x.windows.credit - (x.windows.sent - x.windows.acked)) (is_up x.head.state && x.head.class == 3) _ _
    (λ _. omega arith) (λ _. omega arith))
  where
    by_count : (count : ℕ) → sent_at after ≡ x.windows.sent + count → count ≤ x.windows.credit - (x.windows.sent - x.windows.acked) → IsWithinCredit (wire x) after
    by_count count e few = λ k from to. omega (arith, e, few, from, to)

within_alike : (e e' after : End) → LeavesAlike e e' → IsWithinCredit e' after → IsWithinCredit e after
within_alike (wire x) (wire y) after k w = λ n from to.
    let sent : y.windows.sent ≡ x.windows.sent = ap (λ (w : Windows). w.sent) k.1 in
    let acked : y.windows.acked ≡ x.windows.acked = ap (λ (w : Windows). w.acked) k.1 in
    let credit : y.windows.credit ≡ x.windows.credit = ap (λ (w : Windows). w.credit) k.1 in
    let f = w n (rw sent from) to in omega (arith, acked, credit, f)
within_alike (owner u) (owner v) after k w = tt
within_alike (wire x) (owner v) after k w = absurd k
within_alike (owner u) (wire y) after k w = absurd k

-- The count goes on.

goes_on : (before e : End) → StaysAs before e → GoesOn before e
goes_on (wire x) (wire y) (inl none) = inr none
goes_on (wire x) (wire y) (inr same) = inl same.1
goes_on (owner u) (owner v) k = inl refl
goes_on (wire x) (owner v) k = absurd k
goes_on (owner u) (wire y) k = absurd k

-- What the connection is when units left, seen from where the event left it.

pub after_leaving : (ticks : Ticks) (r : Connection × List Output)
    → Stays (leaving_count r.0.this) r.0.this (after_event ticks r).0.this × Stays (leaving_count (this_left ticks r.0).that) r.0.that (after_event ticks r).0.that
after_leaving ticks r =
    let a = r.0 in
    let b = this_left ticks a in
    let d = (after_event ticks r).0 in
    let first = leaves_stay ticks a.this a.that in
    let rest = after_event_stays ticks r in
    let m = leaving_count a.this in
    let n = leaving_count b.that in (
      stays_by (m + 0) m a.this d.this (omega arith) (stays_then m 0 a.this b.this d.this first.0 rest.0),
      stays_by (0 + n) n a.that d.that (omega arith) (stays_then 0 n a.that b.that d.that first.1 rest.1),
    )

pub this_data : (ticks : Ticks) (r : Connection × List Output) → IsInStep r.0
    → (let d = (after_event ticks r).0 in data_leaving r.0.this ≡ data_on r.0.this (passed_at r.0.this) d.this d.that)
this_data ticks r k =
    let d = (after_event ticks r).0 in
    let left = after_leaving ticks r in data_is r.0.this r.0.that d.this d.that k left.0.sent left.1.got

that_data : (ticks : Ticks) (r : Connection × List Output) → IsInStep r.0
    → (let d = (after_event ticks r).0 in data_leaving (this_left ticks r.0).that ≡ data_on r.0.that (passed_at d.that) d.that d.this)
that_data ticks r k =
    let b = this_left ticks r.0 in
    let d = (after_event ticks r).0 in
    let b_kept : IsInStep b = on_windows_kept ticks leaves (leaves_kept ticks) r.0.this r.0.that k in
    let rest = after_event_stays ticks r in
    data_is b.that b.this d.that d.this (kept_back b b_kept) rest.1.sent rest.0.got
    ∙ data_alike r.0.that b.that d.that d.this (passed_at d.that) (passed_at b.that) (leaves_alike ticks r.0.this r.0.that) (sym (that_passed ticks r))

pub data_sent : DataSentLaw
unfolding connection_step
data_sent ticks c event k =
    let r = event_step ticks c event in
    let b = this_left ticks r.0 in
    let d = (after_event ticks r).0 in
    let a_kept : IsInStep r.0 = event_kept ticks event c k in
    let goes : Goes c r.0 = event_goes ticks c event in
    let left = after_leaving ticks r in record {
      sends = rw (← this_data ticks r a_kept, ← that_data ticks r a_kept, (after_event_sends ticks r).numbered_data, no_data ticks c event) refl;
      goes_on = (goes_on c.this r.0.this goes.0, goes_on c.that r.0.that goes.1);
      within = (
        within_leaving r.0.this d.this left.0.sent,
        within_alike r.0.that b.that d.that (leaves_alike ticks r.0.this r.0.that) (within_leaving b.that d.that (after_event_stays ticks r).1.sent),
      );
    }
