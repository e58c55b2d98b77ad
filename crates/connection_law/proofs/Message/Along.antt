-- What was sent along whatever a connection hears.
use Rattle.std.proofs.Common.{◌≡◌, ℕ, suc, ◌+◌, ◌-◌, ◌≤◌, ◌==◌, if◌then◌else◌, ◌&&◌, Bool, true, false, List, [], ◌∷◌, ◌++◌, length, take, drop, refl, sym, ◌∙◌, ap, arith, inl, inr, take-add, length-take-le}
use Rattle.std.proofs.lemmas.Bool.{false≢true}
use Rattle.std.proofs.lemmas.List.{drop-take}
use Rattle.std.proofs.Math.Seq.{take-append_seam, drop-append_seam}
use Rattle.relay_base.specs.declared.words.Event.{Event}
use Rattle.relay_base.specs.declared.words.Output.{Output}
use Rattle.plant_core.specs.declared.terms.Ticks.{Ticks}
use Rattle.section_flow.specs.declared.unit.Unit.{Unit as DataUnit}
use Rattle.section_model.specs.Ends.{End, wire, owner, SectionHead, Connection, is_up}
use Rattle.section_model.specs.Windowed.{numbered}
use Rattle.section_model.specs.Step.{hears, event_step, connection_step, after_event}
use Rattle.section_model.specs.Lane.{next, heard, follow}
use Rattle.connection_law.specs.InStep.{IsInStep, AreInStep, passed_at, got_at, sent_at, class_at}
use Rattle.connection_law.specs.SentUnits.{leaving_count}
use Rattle.connection_law.proofs.Flow.Ends.{kept_back}
use Rattle.connection_law.proofs.Flow.Flowing.{either, IsSection}
use Rattle.connection_law.proofs.Flow.Growing.{StaysAs, CountsOn}
use Rattle.connection_law.proofs.Flow.Going.{Goes, GrowsBeside, event_goes}
use Rattle.connection_law.proofs.Flow.Opening.{opening_begins}
use Rattle.connection_law.proofs.Flow.Step.{event_kept, step_keeps}
use Rattle.connection_law.proofs.Flow.Ordering.{event_sends}
use Rattle.connection_law.specs.Messages.{data_among}
use Rattle.connection_law.specs.DataSent.{all_as_data, data_on}
use Rattle.connection_law.specs.DataAlong.{SentData, kept_from, sent_data_next, sent_data_along, AreData, AreThoseLeft, DataAlongLaw}
use Rattle.connection_law.proofs.Message.Sent.{after_leaving, this_data, data_sent}
use Rattle.connection_law.proofs.Message.Leaving.{data_leaving}

-- DT2 that are numbered on.

are_numbered : (x : SectionHead) (ps pr : ℕ) (units : List DataUnit) → AreData ps units (all_as_data x ps pr units)
are_numbered x ps pr [] = tt
are_numbered x ps pr (u ∷ units) = (record { section = x; pr = pr; spelled = refl }, are_numbered x (suc ps) pr units)

numbered_from : (a b : ℕ) (units : List DataUnit) (outs : List Output) → a ≡ b → AreData a units outs → AreData b units outs
numbered_from a b units outs e d = rw (← e) d

joined : (ps : ℕ) (units more : List DataUnit) (outs others : List Output) → AreData ps units outs → AreData (ps + length units) more others → AreData ps (units ++ more) (outs ++ others)
joined ps [] more [] others d f = numbered_from (ps + 0) ps more others (omega arith) f
joined ps [] more (out ∷ outs) others d f = absurd d
joined ps (u ∷ units) more [] others d f = absurd d
joined ps (u ∷ units) more (out ∷ outs) others d f =
    (d.0, joined (suc ps) units more outs others d.1 (numbered_from (ps + suc (length units)) (suc ps + length units) more others (omega arith) f))

-- the units sent, and those that are sent more
more_data : (s m : ℕ) (got : List DataUnit) (outs : List Output) (x : SectionHead) (pr : ℕ) → s ≤ length got → AreData 0 (take s got) outs
    → AreData 0 (take (s + m) got) (outs ++ all_as_data x s pr (drop s (take (s + m) got)))
more_data s m got outs x pr within d =
    let same : s ≡ 0 + length (take s got) = rw (length-take-le s got within) (omega arith) in
    rw (drop-take s m got, take-add s m got)
    (joined 0 (take s got) (take m (drop s got)) outs (all_as_data x s pr (take m (drop s got))) d
    (numbered_from s (0 + length (take s got)) (take m (drop s got)) (all_as_data x s pr (take m (drop s got))) same (are_numbered x s pr (take m (drop s got)))))

-- An end has sent, as DT2, what left of the other, since the counts were cleared.
abbrev HasData : List Output → End → End → Type 0
HasData outs e other = IsSection e → class_at e ≡ 3 → AreData 0 (take (passed_at other) (got_at other)) outs

both_cleared : (b : Bool) (units : List DataUnit) (outs : List Output) → AreData 0 units outs → AreData 0 (if b then [] else units) (if b then [] else outs)
both_cleared true units outs d = tt
both_cleared false units outs d = d

-- over what an event does
event_has : (outs : List Output) (e other e' other' : End) → AreInStep e other → AreInStep e' other' → HasData outs e other → StaysAs e e' → GrowsBeside e' other other'
    → HasData (kept_from e' outs) e' other'
event_has outs (wire x) other (wire y) other' k l has stays grows = λ s three. by_counts three stays
  where
    units : List DataUnit
    units = take (passed_at other) (got_at other)

    by_counts : y.head.class ≡ 3 → CountsOn x.head.class x.windows.sent y.head.class y.windows.sent → AreData 0 (take (passed_at other') (got_at other')) (if y.windows.sent == 0 then [] else outs)
    by_counts three (inl none) = rw (← (l.4 three).1.2.0, none) tt
    by_counts three (inr same) =
        let e = event_sends units (wire x) other (wire y) other' k l (λ s t. refl) (inr same) grows tt three in
        rw (← e) (both_cleared (y.windows.sent == 0) units outs (has tt (sym same.0 ∙ three)))
event_has outs (wire x) other (owner v) other' k l has stays grows = λ s. absurd s
event_has outs (owner u) other (owner v) other' k l has stays grows = λ s. absurd s
event_has outs (owner u) other (wire y) other' k l has stays grows = absurd stays

-- over what leaves after it
leaving_has : (outs : List Output) (m pr : ℕ) (e other d d_other : End) → AreInStep e other → AreInStep d d_other → HasData outs e other → (IsSection d → IsSection e) → class_at d ≡ class_at e
    → sent_at d ≡ sent_at e + m → got_at d_other ≡ got_at other → HasData (outs ++ data_on e pr d d_other) d d_other
leaving_has outs m pr (wire x) other (wire y) d_other k l has is class sent got = λ s three.
    let three' : x.head.class ≡ 3 = sym class ∙ three in
    let f = (k.4 three').1.2 in
    let g = (l.4 three).1.2 in
    by_class (x.head.class == 3) (rw three' refl) f.0 f.1 g.0 (has tt three')
  where
    by_class : (b : Bool) → b ≡ true → x.windows.sent ≡ passed_at other → passed_at other ≤ length (got_at other) → y.windows.sent ≡ passed_at d_other → AreData 0 (take (passed_at other) (got_at other)) outs
        → AreData 0 (take (passed_at d_other) (got_at d_other)) (outs ++ (if b then all_as_data x.head x.windows.sent pr (drop x.windows.sent (take y.windows.sent (got_at d_other))) else []))
    by_class true e s within s' d =
        rw (← s', sent, got) (more_data x.windows.sent m (got_at other) outs x.head pr (rw s within) (rw s d))
    by_class false e s within s' d = absurd (false≢true e)
leaving_has outs m pr (owner u) other (wire y) d_other k l has is class sent got = λ s. absurd (is tt)
leaving_has outs m pr e other (owner v) d_other k l has is class sent got = λ s. absurd s

-- The DT2 of a step, of the one end and of the other.

numbered_length : (x : SectionHead) (ps pr : ℕ) (units : List DataUnit) → length (numbered x ps pr units) ≡ length units
numbered_length x ps pr [] = refl
numbered_length x ps pr (u ∷ units) = ap suc (numbered_length x (suc ps) pr units)

leaving_length : (e : End) → length (data_leaving e) ≡ leaving_count e
leaving_length (owner u) = refl
leaving_length (wire x) =
    numbered_length x.head x.windows.sent x.windows.passed (take (leaving_count (wire x)) x.windows.waits)
    ∙ length-take-le (leaving_count (wire x)) x.windows.waits
    (either (λ (count : ℕ). count ≤ length x.windows.waits) (is_up x.head.state && x.head.class == 3) _ _ (λ _. omega arith) (λ _. omega arith))

parted_at : (count : ℕ) (one two outs : List Output) → outs ≡ one ++ two → length one ≡ count → (take count outs ≡ one) × (drop count outs ≡ two)
parted_at count one two outs e l = rw (← l, e) (take-append_seam one two, drop-append_seam one two)

counted : (before after count : ℕ) → after ≡ before + count → after - before ≡ count
counted before after count e = omega (arith, e)

-- One step, and many.

DataOf : SentData → Connection → Type 0
DataOf sent c = HasData sent.this c.this c.that × HasData sent.that c.that c.this

step_has : (ticks : Ticks) (c : Connection) (event : Event) (sent : SentData) → IsInStep c → DataOf sent c → DataOf (sent_data_next ticks c event sent) (next ticks c event)
unfolding connection_step DataOf
step_has ticks c event sent k has =
    let r = event_step ticks c event in
    let a = r.0 in
    let d = (after_event ticks r).0 in
    let a_kept : IsInStep a = event_kept ticks event c k in
    let d_kept : IsInStep d = step_keeps ticks c event k in
    let goes : Goes c a = event_goes ticks c event in
    let left = after_leaving ticks r in
    let one = data_on a.this (passed_at a.this) d.this d.that in
    let two = data_on a.that (passed_at d.that) d.that d.this in
    let m : length one ≡ sent_at d.this - sent_at a.this =
    ap length (sym (this_data ticks r a_kept)) ∙ (leaving_length a.this ∙ sym (counted (sent_at a.this) (sent_at d.this) (leaving_count a.this) left.0.sent)) in
    let parts = parted_at (sent_at d.this - sent_at a.this) one two (data_among (after_event ticks r).1) (data_sent ticks c event k).sends m in (
      rw parts.0 (leaving_has (kept_from a.this sent.this) _ (passed_at a.this) a.this a.that d.this d.that a_kept d_kept
          (event_has sent.this c.this c.that a.this a.that k a_kept has.0 goes.0 goes.3) left.0.section left.0.class left.0.sent left.1.got),
      rw parts.1 (leaving_has (kept_from a.that sent.that) _ (passed_at d.that) a.that a.this d.that d.this (kept_back a a_kept) (kept_back d d_kept)
          (event_has sent.that c.that c.this a.that a.this (kept_back c k) (kept_back a a_kept) has.1 goes.1 goes.2) left.1.section left.1.class left.1.sent left.0.got),
    )

follow_has : (ticks : Ticks) (c : Connection) (events : List Event) (sent : SentData) → IsInStep c → DataOf sent c
    → DataOf (sent_data_along ticks c (heard ticks c events) sent) (follow ticks c (heard ticks c events))
unfolding heard follow sent_data_along
follow_has ticks c [] sent k has = has
follow_has ticks c (event ∷ events) sent k has =
    by_test (hears c event) (follow_has ticks (next ticks c event) events (sent_data_next ticks c event sent) (step_keeps ticks c event k) (step_has ticks c event sent k has))
    (follow_has ticks c events sent k has)
  where
    Follows : List Event → Type 0
    Follows heard_events = DataOf (sent_data_along ticks c heard_events sent) (follow ticks c heard_events)

    by_test : (b : Bool) → Follows (event ∷ heard ticks (next ticks c event) events) → Follows (heard ticks c events)
        → Follows (elim b [ true ↦ event ∷ heard ticks (next ticks c event) events | false ↦ heard ticks c events ])
    by_test true f g = f
    by_test false f g = g

those_left : (outs : List Output) (e other : End) → HasData outs e other → AreThoseLeft outs e other
those_left outs (wire x) other has = has tt
those_left outs (owner u) other has = tt

nothing_sent : (passed : ℕ) (got : List DataUnit) → passed ≡ 0 → AreData 0 (take passed got) []
nothing_sent passed got none = rw none tt

pub data_along : DataAlongLaw
unfolding DataOf
data_along terms event answer references c events fits e =
    let o = opening_begins terms event answer references c fits e in
    let hears = heard terms.ticks c events in
    let nothing : SentData = record { this = []; that = [] } in
    let f = follow_has terms.ticks c events nothing o.0 (λ s three. nothing_sent (passed_at c.that) (got_at c.that) o.2, λ s three. nothing_sent (passed_at c.this) (got_at c.this) o.1) in
    let after = follow terms.ticks c hears in
    let sent = sent_data_along terms.ticks c hears nothing in
    (those_left sent.this after.this after.that f.0, those_left sent.that after.that after.this f.1)
