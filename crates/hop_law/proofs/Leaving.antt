-- The units that leave on a section.
use Rattle.std.proofs.Common.{◌≡◌, inl, inr, ℕ, zero, suc, ◌+◌, ◌*◌, ◌<◌, ◌==◌, ◌&&◌, true, List, [], ◌∷◌, ◌++◌, map, take, drop, Option, Some, None, refl, sym, ◌∙◌, ap, subst, arith, append-nil, length-drop, length-take}
use Rattle.std.specs.List.{range_with_len}
use Rattle.std.proofs.lemmas.Bool.{false≢true}
use Rattle.relay_base.specs.declared.limits.TheConstants.{REFERENCES}
use Rattle.relay_base.specs.declared.words.Event.{Event}
use Rattle.relay_base.specs.declared.words.Event.TheVariants.{Message as Arrived, Asked as Requested, Tick}
use Rattle.relay_base.specs.declared.words.Request.TheVariants as request
use Rattle.relay_base.specs.declared.words.Output.{Output}
use Rattle.plant_core.specs.declared.terms.Ticks.{Ticks}
use Rattle.section_model.specs.declared.limits.TheConstants.{LONGEST_UNIT}
use Rattle.section_model.specs.declared.cell.Occasion.{Occasion}
use Rattle.section_model.specs.declared.cell.Occasion.TheVariants as on
use Rattle.section_model.specs.Parameters.{Arrival, arrival_in}
use Rattle.section_model.specs.Ends.{End, wire, owner, DataUnit, SectionHead, Section, Connection}
use Rattle.section_model.specs.Lengths.{IsDataOf, IsUnitData, UnitsWithin}
use Rattle.section_model.specs.UserEnd.{unit_count, unit_at}
use Rattle.section_model.specs.Windowed.{numbered}
use Rattle.section_model.specs.Step.{event_step, connection_step}
use Rattle.section_model.proofs.ArriveWithin.{arrives_within}
use Rattle.hop_law.specs.Units.{carries, units_by, units_for, units_on}
use Rattle.hop_law.proofs.Reading.{units_are_read, joined_on}
use Rattle.connection_law.specs.InStep.{class_at, passed_at, got_at, sent_at, IsInStep}
use Rattle.connection_law.specs.Messages.{data_among, acted, stepped}
use Rattle.connection_law.specs.DataSent.{as_data, all_as_data, data_on}
use Rattle.connection_law.proofs.Flow.Flowing.{either, three_is_not_two}
use Rattle.connection_law.proofs.Flow.Step.{event_kept}
use Rattle.connection_law.proofs.Message.Sent.{after_leaving, data_sent}
use Rattle.hop_law.specs.PassingLaw.{dt1_among, passed_on, at_once, StaysOrClears, Brings, Passing, none, on_this, on_that}
use Rattle.hop_law.specs.LeavingLaw.{this_and_that, that_and_this, IsApart, ComeIn, LeavesAtOnce, LeavesInWindow, UnitsLeave}
use Rattle.hop_law.proofs.Carrying.{only_dt1, only_dt2}
use Rattle.hop_law.proofs.Passing.{first_true, units_pass}

-- What an event brings may be written.

unit_within : (o : Occasion) (octets : List ℕ) → carries o ≡ true → IsDataOf o octets → IsUnitData octets
unit_within on.Dt1 octets c d = d
unit_within on.Dt2 octets c d = d
unit_within _ octets c d = absurd (false≢true c)

by_arrival : (bytes : List ℕ) (a : Option Arrival) → arrival_in bytes ≡ a → (reference : ℕ) → UnitsWithin (units_by reference a)
by_arrival bytes None e reference = tt
by_arrival bytes (Some a) e reference =
    either UnitsWithin (carries a.occasion && a.parameters.dlr == reference) _ _
    (λ is. (unit_within a.occasion a.parameters.data_octets (first_true (carries a.occasion) _ is) (arrives_within bytes a e).2, tt)) (λ _. tt)

text_within : (m k : ℕ) (body : List ℕ) → k + m ≡ unit_count body → UnitsWithin (map (unit_at body) (range_with_len k m))
text_within zero k body e = tt
text_within (suc m) k body e =
    (rw (length-take LONGEST_UNIT (drop (LONGEST_UNIT * k) body), length-drop (LONGEST_UNIT * k) body) (omega (arith, e), omega arith), text_within m (k + 1) body (omega (arith, e)))

pub brought_within : (event : Event) (e : End) (units : List DataUnit) → Brings event e units → UnitsWithin units
unfolding units_for
brought_within (Arrived point sls bytes) (wire x) units b = subst UnitsWithin (sym b) (by_arrival bytes (arrival_in bytes) refl x.head.mine)
brought_within (Arrived point sls bytes) (owner u) units b = absurd b
brought_within (Requested ssn (request.Send mine body)) (owner u) units b = subst UnitsWithin (sym b) (text_within (unit_count body) 0 body (omega arith))
brought_within (Requested ssn (request.Send mine body)) (wire x) units b = absurd b
brought_within (Requested ssn r) e units b = absurd b
brought_within Tick e units b = absurd b

-- In class 2.

pub nothing_on : (y : SectionHead) → units_on y [] ≡ []
unfolding units_on
nothing_on y = refl

-- on a section of class 2 the units that may leave at once do
once_on : (y : SectionHead) (units : List DataUnit) → y.class ≡ 2 → y.other < REFERENCES → UnitsWithin units → units_on y (passed_on y units) ≡ units
once_on y units two fits within =
    either (λ (outs : List Output). units_on y outs ≡ units) (y.class == 3) _ _ (λ three. absurd (three_is_not_two y.class three two)) (λ _. units_are_read.all_dt1 y units fits within)

-- and none that leave on the other end
apart_on : (y : SectionHead) (other : End) (units : List DataUnit) → IsApart y other → units_on y (at_once other units) ≡ []
apart_on y (wire x) units apart =
    either (λ (outs : List Output). units_on y outs ≡ []) (x.head.class == 3) _ _ (λ _. nothing_on y) (λ _. units_are_read.other_dt1 y x.head units apart)
apart_on y (owner u) units apart = nothing_on y

no_data_on : (e after other : End) (pr : ℕ) → class_at e ≡ 2 → data_on e pr after other ≡ []
no_data_on (wire x) after other pr two =
    either (λ (outs : List Output). outs ≡ []) (x.head.class == 3) _ _ (λ three. absurd (three_is_not_two x.head.class three two)) (λ _. refl)
no_data_on (owner u) after other pr two = refl

-- no DT2 leaves where the ends are of class 2
no_data : (ticks : Ticks) (c : Connection) (event : Event) → IsInStep c → class_at (acted ticks c event).this ≡ 2 → data_among (connection_step ticks c event).1 ≡ []
no_data ticks c event k two =
    let before = acted ticks c event in
    let after = stepped ticks c event in
    (data_sent ticks c event k).sends
    ∙ rw (no_data_on before.this after.this after.that _ two, no_data_on before.that after.that after.this _ (sym (event_kept ticks event c k).1 ∙ two)) refl

none_come : (units : List DataUnit) (before after : End) → units ≡ [] → StaysOrClears before after → ComeIn units before after
none_come units before after e (inl same) = inl (rw e (same ∙ sym (append-nil (got_at before))))
none_come units before after e (inr cleared) = inr (e, cleared)

all_come : (units : List DataUnit) (before after : End) (more : List DataUnit) → units ≡ more → got_at after ≡ got_at before ++ more → ComeIn units before after
all_come units before after more e comes = inl (rw e comes)

-- seen from the end that comes second
passes_that : (event : Event) (c d : Connection) (outs : List Output) (y : Section) → Passing (Brings event) c d outs → c.that ≡ wire y → y.head.class ≡ 2 → y.head.other < REFERENCES
    → IsApart y.head c.this → ComeIn (units_on y.head (dt1_among outs)) c.this d.this
passes_that event c d outs y (none p) e two fits apart = none_come _ c.this d.this (rw p.sends (nothing_on y.head)) p.this
passes_that event c d outs y (on_this units p) e two fits apart =
    all_come _ c.this d.this units (ap (units_on y.head) (p.sends ∙ ap (λ e. at_once e units) e) ∙ once_on y.head units two fits (brought_within event c.this units p.brought)) p.comes
passes_that event c d outs y (on_that units p) e two fits apart =
    none_come _ c.this d.this (ap (units_on y.head) p.sends ∙ apart_on y.head c.this units apart) p.stays

passes_this : (event : Event) (c d : Connection) (outs : List Output) (y : Section) → Passing (Brings event) c d outs → c.this ≡ wire y → y.head.class ≡ 2 → y.head.other < REFERENCES
    → IsApart y.head c.that → ComeIn (units_on y.head (dt1_among outs)) c.that d.that
passes_this event c d outs y (none p) e two fits apart = none_come _ c.that d.that (rw p.sends (nothing_on y.head)) p.that
passes_this event c d outs y (on_that units p) e two fits apart =
    all_come _ c.that d.that units (ap (units_on y.head) (p.sends ∙ ap (λ e. at_once e units) e) ∙ once_on y.head units two fits (brought_within event c.that units p.brought)) p.comes
passes_this event c d outs y (on_this units p) e two fits apart =
    none_come _ c.that d.that (ap (units_on y.head) p.sends ∙ apart_on y.head c.that units apart) p.stays

leaves_at_once : LeavesAtOnce
unfolding connection_step
leaves_at_once ticks c event end other y h k this_and_that e two after fits apart =
    let r = connection_step ticks c event in
    let acted_two : class_at (acted ticks c event).this ≡ 2 = sym (after_leaving ticks (event_step ticks c event)).0.class ∙ after in
    subst (λ units. ComeIn units c.that r.0.that) (sym (only_dt1 y.head r.1 (no_data ticks c event k acted_two)))
    (passes_this event c r.0 r.1 y (units_pass ticks c event h k) e two fits apart)
leaves_at_once ticks c event end other y h k that_and_this e two after fits apart =
    let r = connection_step ticks c event in
    let acted_two : class_at (acted ticks c event).this ≡ 2 = (event_kept ticks event c k).1 ∙ (sym (after_leaving ticks (event_step ticks c event)).1.class ∙ after) in
    subst (λ units. ComeIn units c.this r.0.this) (sym (only_dt1 y.head r.1 (no_data ticks c event k acted_two)))
    (passes_that event c r.0 r.1 y (units_pass ticks c event h k) e two fits apart)

-- In class 3.

numbered_as : (x : SectionHead) (ps pr : ℕ) (units : List DataUnit) → all_as_data x ps pr units ≡ numbered x ps pr units
numbered_as x ps pr [] = refl
numbered_as x ps pr (u ∷ units) = ap (λ (outs : List Output). as_data x ps pr u ∷ outs) (numbered_as x (suc ps) pr units)

held_back : (e : End) (units : List DataUnit) → class_at e ≡ 3 → at_once e units ≡ []
held_back (wire x) units three = rw three refl
held_back (owner u) units three = refl

no_dt1 : (event : Event) (c d : Connection) (outs : List Output) → Passing (Brings event) c d outs → class_at c.this ≡ 3 → class_at c.that ≡ 3 → dt1_among outs ≡ []
no_dt1 event c d outs (none p) this that = p.sends
no_dt1 event c d outs (on_this units p) this that = p.sends ∙ held_back c.that units that
no_dt1 event c d outs (on_that units p) this that = p.sends ∙ held_back c.this units this

-- the DT2 of the section, and those of the other end
own_data : (y : Section) (pr : ℕ) (after other : End) → y.head.class ≡ 3 → y.head.other < REFERENCES
    → (let units = drop y.windows.sent (take (sent_at after) (got_at other)) in UnitsWithin units → units_on y.head (data_on (wire y) pr after other) ≡ units)
own_data y pr after other three fits within =
    let units = drop y.windows.sent (take (sent_at after) (got_at other)) in
    either (λ (outs : List Output). units_on y.head outs ≡ units) (y.head.class == 3) _ _
    (λ _. ap (units_on y.head) (numbered_as y.head y.windows.sent pr units) ∙ units_are_read.all_dt2 y.head y.windows.sent pr units fits within)
    (λ other_class. absurd (false≢true (sym other_class ∙ rw three refl)))

pub other_data : (y : SectionHead) (e after other : End) (pr : ℕ) → IsApart y e → units_on y (data_on e pr after other) ≡ []
other_data y (wire x) after other pr apart =
    let units = drop x.windows.sent (take (sent_at after) (got_at other)) in
    either (λ (outs : List Output). units_on y outs ≡ []) (x.head.class == 3) _ _
    (λ _. ap (units_on y) (numbered_as x.head x.windows.sent pr units) ∙ units_are_read.other_dt2 y x.head x.windows.sent pr units apart) (λ _. nothing_on y)
other_data y (owner u) after other pr apart = nothing_on y

-- the units in the DT2 of a step
data_units : (c : Connection) (event : Event) (d : Connection) (outs : List Output) (y : SectionHead) (one two : List Output)
    → Passing (Brings event) c d outs → class_at c.this ≡ 3 → class_at c.that ≡ 3 → data_among outs ≡ one ++ two → units_on y outs ≡ units_on y one ++ units_on y two
data_units c event d outs y one two p this that e = only_dt2 y outs (no_dt1 event c d outs p this that) ∙ (ap (units_on y) e ∙ joined_on y one two)

leaves_in_window : LeavesInWindow
leaves_in_window ticks c event end other y h k this_and_that before e three fits apart within =
    let r = connection_step ticks c event in
    let a = acted ticks c event in
    let one = data_on a.this (passed_at a.this) r.0.this r.0.that in
    let two = data_on a.that (passed_at r.0.that) r.0.that r.0.this in
    let own : units_on y.head one ≡ drop y.windows.sent (take (sent_at r.0.this) (got_at r.0.that)) =
    ap (λ this. units_on y.head (data_on this (passed_at a.this) r.0.this r.0.that)) e ∙ own_data y (passed_at a.this) r.0.this r.0.that three fits within in
    let none_else : units_on y.head two ≡ [] = other_data y.head a.that r.0.that r.0.this (passed_at r.0.that) apart in
    data_units c event r.0 r.1 y.head one two (units_pass ticks c event h k) before (sym k.1 ∙ before) (data_sent ticks c event k).sends
    ∙ (rw none_else (append-nil (units_on y.head one)) ∙ own)
leaves_in_window ticks c event end other y h k that_and_this before e three fits apart within =
    let r = connection_step ticks c event in
    let a = acted ticks c event in
    let one = data_on a.this (passed_at a.this) r.0.this r.0.that in
    let two = data_on a.that (passed_at r.0.that) r.0.that r.0.this in
    let own : units_on y.head two ≡ drop y.windows.sent (take (sent_at r.0.that) (got_at r.0.this)) =
    ap (λ that. units_on y.head (data_on that (passed_at r.0.that) r.0.that r.0.this)) e ∙ own_data y (passed_at r.0.that) r.0.that r.0.this three fits within in
    let none_else : units_on y.head one ≡ [] = other_data y.head a.this r.0.this r.0.that (passed_at a.this) apart in
    data_units c event r.0 r.1 y.head one two (units_pass ticks c event h k) (k.1 ∙ before) before (data_sent ticks c event k).sends
    ∙ (rw none_else refl ∙ own)

pub units_leave : UnitsLeave
units_leave = record { at_once = leaves_at_once; in_window = leaves_in_window }
