-- What a connection sends to a point by any event.
use Rattle.std.proofs.Common.{◌≡◌, ◌⊎◌, inl, inr, ℕ, suc, ◌==◌, Bool, true, false, List, [], ◌∷◌, drop, take, Option, Some, None, refl, sym, ◌∙◌, subst}
use Rattle.std.specs.List.{AllByRecursion}
use Rattle.std.proofs.lemmas.Bool.{false≢true, eqb-true}
use Rattle.relay_base.specs.declared.words.Event.{Event}
use Rattle.relay_base.specs.declared.words.Output.{Output}
use Rattle.relay_base.specs.declared.words.Output.TheVariants.{Sent, Told, Lost}
use Rattle.plant_core.specs.declared.terms.Ticks.{Ticks}
use Rattle.q713_codec.specs.Formats.{dt1_format, dt2_format}
use Rattle.q713_codec.specs.Messages.{dt1_of, dt2_of}
use Rattle.q713_codec.specs.Reading.{kind_of}
use Rattle.section_model.specs.declared.cell.SectionState.{SectionState}
use Rattle.section_model.specs.declared.cell.SectionState.TheVariants.{Asked, Asking}
use Rattle.section_model.specs.Parameters.{Arrival, arrival_of, arrival_in}
use Rattle.section_model.specs.Ends.{End, wire, owner, DataUnit, SectionHead, Connection}
use Rattle.section_model.specs.Step.{event_step, hears, connection_step}
use Rattle.section_model.specs.Lane.{next, fed, part_by}
use Rattle.hop_law.specs.CarriedLaw.{all_as_dt1}
use Rattle.hop_law.specs.Units.{unit_of, units_by, units_for, units_on}
use Rattle.connection_law.specs.InStep.{connected, section_stage, stage_at, class_at, passed_at, got_at, sent_at}
use Rattle.connection_law.specs.Messages.{begins_with, is_of_type, data_among, acted, stepped}
use Rattle.connection_law.specs.DataSent.{all_as_data, data_on}
use Rattle.connection_law.proofs.Flow.Ends.{kept_back}
use Rattle.connection_law.proofs.Flow.Flowing.{either}
use Rattle.connection_law.proofs.Reference.Ends.{Both}
use Rattle.connection_law.proofs.Message.Sent.{after_leaving, data_sent}
use Rattle.hop_law.specs.ClassLaw.{IsOfAClass}
use Rattle.hop_law.specs.LeavingLaw.{AreSides, this_and_that, that_and_this, IsApart}
use Rattle.hop_law.specs.PassingLaw.{dt1_among, at_once, Brings, Passing, none, on_this, on_that}
use Rattle.hop_law.proofs.Carrying.{no_units}
use Rattle.hop_law.proofs.Passing.{units_pass}
use Rattle.hop_law.specs.Waiting.{Waiting, message_to, messages_to, units_waiting}
use Rattle.hop_law.proofs.Along.{apart_between, on_place, apart_place, is_met, open_stage}
use Rattle.hop_law.proofs.Lists.{all_joined, each_filtered}
use Rattle.hop_law.proofs.Queued.{units_wait}
use Rattle.hop_law.specs.Going.{BringsOfClass, BringOfClass, SendsOfClass, UnitsGo}
use Rattle.hop_law.specs.SectionLaw.{is_early}
use Rattle.hop_law.specs.Soundness.{IsSound}
use Rattle.hop_law.proofs.Agreeing.{EndAgrees, step_agrees}
use Rattle.hop_law.proofs.Hearing.{by_hearing}
use Rattle.hop_law.proofs.Typing.{of_type}

-- Units.

pub units_go : UnitsGo
unfolding units_waiting messages_to units_on
units_go ticks c event end other x y sound sides is same before after = by_event after
  where
    heard : hears c event ≡ true → IsApart y (other (next ticks c event))
        → (let outs = (connection_step ticks c event).1 in units_waiting y.other (messages_to y.point outs) ≡ units_on y outs)
    heard h after =
        let z = record x.head { point = y.point; other = y.other } in
        let outs = (connection_step ticks c event).1 in
        let between = apart_between ticks c event end other y sides after in
        units_wait ticks c event end other x y.point y.other h sound.in_step sides is
        (apart_place y z (other c) refl before) (apart_place y z (other (acted ticks c event)) refl between)
        ∙ on_place y z outs refl (sym same) refl

    by_event : IsApart y (other (fed ticks c event)) → (let outs = part_by ticks event c in units_waiting y.other (messages_to y.point outs) ≡ units_on y outs)
    by_event = by_hearing (λ d outs. IsApart y (other d) → units_waiting y.other (messages_to y.point outs) ≡ units_on y outs) ticks c event heard (λ _ _. refl)

-- Classes. A message to a point shows something.

abbrev Shows : ℕ → Type 0 → Output → Type 0
Shows point Q (Sent to sls bytes) = to ≡ point → Q
Shows point Q _ = Unit {0}

abbrev AllShow : ℕ → Type 0 → List Output → Type 0
AllShow point Q outs = AllByRecursion (Shows point Q) outs

-- the DT1 of an end, and its DT2
dt1_show : (point : ℕ) (Q : Type 0) (x : SectionHead) (units : List DataUnit) → (x.point ≡ point → Q) → AllShow point Q (all_as_dt1 x units)
dt1_show point Q x [] shows = tt
dt1_show point Q x (u ∷ units) shows = (shows, dt1_show point Q x units shows)

dt2_show : (point : ℕ) (Q : Type 0) (x : SectionHead) (ps pr : ℕ) (units : List DataUnit) → (x.point ≡ point → Q) → AllShow point Q (all_as_data x ps pr units)
dt2_show point Q x ps pr [] shows = tt
dt2_show point Q x ps pr (u ∷ units) shows = (shows, dt2_show point Q x (suc ps) pr units shows)

once_shows : (y : SectionHead) (Q : Type 0) (e : End) (units : List DataUnit) → IsOfAClass (class_at e) → (class_at e ≡ 2 → Q) → AllShow y.point Q (at_once e units)
once_shows y Q (wire x) units class shows = either (AllShow y.point Q) (x.head.class == 3) _ _ (λ _. tt) (λ not. dt1_show y.point Q x.head units (λ _. shows (two not class)))
  where
    two : (x.head.class == 3) ≡ false → (x.head.class ≡ 2) ⊎ (x.head.class ≡ 3) → x.head.class ≡ 2
    two not (inl is) = is
    two not (inr three) = absurd (false≢true (sym not ∙ rw three refl))
once_shows y Q (owner u) units class shows = tt

once_apart : (y : SectionHead) (Q : Type 0) (e : End) (units : List DataUnit) → IsApart y e → AllShow y.point Q (at_once e units)
once_apart y Q (wire x) units apart = either (AllShow y.point Q) (x.head.class == 3) _ _ (λ _. tt) (λ _. dt1_show y.point Q x.head units (λ same. absurd (apart same)))
once_apart y Q (owner u) units apart = tt

data_shows : (y : SectionHead) (Q : Type 0) (e after other : End) (pr : ℕ) → (class_at e ≡ 3 → Q) → AllShow y.point Q (data_on e pr after other)
data_shows y Q (wire x) after other pr shows =
    either (AllShow y.point Q) (x.head.class == 3) _ _
    (λ is. dt2_show y.point Q x.head x.windows.sent pr (drop x.windows.sent (take (sent_at after) (got_at other))) (λ _. shows (eqb-true x.head.class 3 is))) (λ _. tt)
data_shows y Q (owner u) after other pr shows = tt

data_apart : (y : SectionHead) (Q : Type 0) (e after other : End) (pr : ℕ) → IsApart y e → AllShow y.point Q (data_on e pr after other)
data_apart y Q (wire x) after other pr apart =
    either (AllShow y.point Q) (x.head.class == 3) _ _
    (λ _. dt2_show y.point Q x.head x.windows.sent pr (drop x.windows.sent (take (sent_at after) (got_at other))) (λ same. absurd (apart same))) (λ _. tt)
data_apart y Q (owner u) after other pr apart = tt

-- A message is of the class that it shows.

brings_dt1 : (reference class : ℕ) (bytes : List ℕ) → begins_with 6 bytes ≡ true → class ≡ 2 → BringsOfClass reference class (arrival_in bytes)
unfolding arrival_of
brings_dt1 reference class bytes is two = of_type (BringsOfClass reference class) (kind_of dt1_format dt1_of) 6 tt (λ values. λ _. two) refl bytes is

brings_dt2 : (reference class : ℕ) (bytes : List ℕ) → begins_with 7 bytes ≡ true → class ≡ 3 → BringsOfClass reference class (arrival_in bytes)
unfolding arrival_of
brings_dt2 reference class bytes is three = of_type (BringsOfClass reference class) (kind_of dt2_format dt2_of) 7 tt (λ values. λ _. three) refl bytes is

brings_none : (reference class : ℕ) (bytes : List ℕ) → begins_with 6 bytes ≡ false → begins_with 7 bytes ≡ false → BringsOfClass reference class (arrival_in bytes)
unfolding units_for
brings_none reference class bytes six seven = by_arrival (arrival_in bytes) (no_units reference bytes six seven)
  where
    by_arrival : (a : Option Arrival) → units_by reference a ≡ [] → BringsOfClass reference class a
    by_arrival None empty = tt
    by_arrival (Some a) empty = λ carried. absurd (not_empty (sym (rw carried refl) ∙ empty))
      where
        not_empty : (unit_of a ∷ []) ≡ [] → ⊥
        not_empty e = cc

message_of_class : (reference class point : ℕ) (out : Output) → (is_of_type 6 out ≡ true → Shows point (class ≡ 2) out) → (is_of_type 7 out ≡ true → Shows point (class ≡ 3) out)
    → BringOfClass reference class (message_to point out)
message_of_class reference class point (Told ssn tell) one two = tt
message_of_class reference class point (Lost lost) one two = tt
message_of_class reference class point (Sent to sls bytes) one two =
    either (BringOfClass reference class) (to == point) _ _ (λ same. (by_type (begins_with 6 bytes) (begins_with 7 bytes) refl refl (eqb-true to point same), tt)) (λ _. tt)
  where
    by_type : (a b : Bool) → begins_with 6 bytes ≡ a → begins_with 7 bytes ≡ b → to ≡ point → BringsOfClass reference class (arrival_in bytes)
    by_type true b six seven same = brings_dt1 reference class bytes six (one six same)
    by_type false true six seven same = brings_dt2 reference class bytes seven (two seven same)
    by_type false false six seven same = brings_none reference class bytes six seven

each_of_class : (reference class point : ℕ) (outs : List Output) → AllByRecursion (λ (out : Output). is_of_type 6 out ≡ true → Shows point (class ≡ 2) out) outs
    → AllByRecursion (λ (out : Output). is_of_type 7 out ≡ true → Shows point (class ≡ 3) out) outs → BringOfClass reference class (messages_to point outs)
unfolding messages_to
each_of_class reference class point [] one two = tt
each_of_class reference class point (out ∷ outs) one two =
    all_joined (λ (m : Waiting). BringsOfClass reference class (arrival_in m.bytes)) (message_to point out) (messages_to point outs)
    (message_of_class reference class point out one.0 two.0) (each_of_class reference class point outs one.1 two.1)

-- and so are all to the point
of_class : (reference class point : ℕ) (outs : List Output) → AllShow point (class ≡ 2) (dt1_among outs) → AllShow point (class ≡ 3) (data_among outs) → BringOfClass reference class (messages_to point outs)
unfolding dt1_among data_among
of_class reference class point outs one two =
    each_of_class reference class point outs (each_filtered (Shows point (class ≡ 2)) (is_of_type 6) outs one) (each_filtered (Shows point (class ≡ 3)) (is_of_type 7) outs two)

-- The class after the step, of an end whose units leave at once, and of one whose units wait for the window.

once_after : (y : SectionHead) (e f : End) (units : List DataUnit) → EndAgrees e f → stage_at e ≡ connected → IsOfAClass (class_at e) → AllShow y.point (class_at f ≡ 2) (at_once e units)
once_after y (wire x) (wire z) units agrees up class =
    once_shows y (z.head.class ≡ 2) (wire x) units class (λ two. (agrees.0 (is_set x.head.state up)).class ∙ two)
  where
    is_set : (s : SectionState) → section_stage s ≡ connected → is_early s ≡ false
    is_set Asked up = cc
    is_set Asking up = cc
    is_set _ up = refl
once_after y (wire x) (owner v) units agrees up class = absurd agrees
once_after y (owner u) f units agrees up class = tt

dt1_of_class : (y : SectionHead) (event : Event) (end other : Connection → End) (c d : Connection) (outs : List Output) → IsSound c → AreSides end other → IsApart y (other c) → Both EndAgrees c d
    → Passing (Brings event) c d outs → AllShow y.point (class_at (end d) ≡ 2) (dt1_among outs)
dt1_of_class y event end other c d outs sound sides apart agrees (none p) = subst (AllShow y.point (class_at (end d) ≡ 2)) (sym p.sends) tt
dt1_of_class y event end other c d outs sound this_and_that apart agrees (on_this units p) =
    subst (AllShow y.point (class_at d.this ≡ 2)) (sym p.sends) (once_apart y (class_at d.this ≡ 2) c.that units apart)
dt1_of_class y event end other c d outs sound that_and_this apart agrees (on_that units p) =
    subst (AllShow y.point (class_at d.that ≡ 2)) (sym p.sends) (once_apart y (class_at d.that ≡ 2) c.this units apart)
dt1_of_class y event end other c d outs sound this_and_that apart agrees (on_that units p) =
    let up = is_met (stage_at c.that) (stage_at c.this) (open_stage c.that p.is_open) (kept_back c sound.in_step).0 in
    subst (AllShow y.point (class_at d.this ≡ 2)) (sym p.sends) (once_after y c.this d.this units agrees.0 up sound.class)
dt1_of_class y event end other c d outs sound that_and_this apart agrees (on_this units p) =
    let up = is_met (stage_at c.this) (stage_at c.that) (open_stage c.this p.is_open) sound.in_step.0 in
    subst (AllShow y.point (class_at d.that ≡ 2)) (sym p.sends) (once_after y c.that d.that units agrees.1 up (subst IsOfAClass sound.in_step.1 sound.class))

dt2_of_class : (y : SectionHead) (ticks : Ticks) (end other : Connection → End) (c : Connection) (event : Event) → IsSound c → AreSides end other → IsApart y (other (acted ticks c event))
    → AllShow y.point (class_at (end (stepped ticks c event)) ≡ 3) (data_among (connection_step ticks c event).1)
unfolding connection_step
dt2_of_class y ticks end other c event sound this_and_that apart =
    let a = acted ticks c event in
    let d = stepped ticks c event in
    let Q : Type 0 = class_at d.this ≡ 3 in
    subst (AllShow y.point Q) (sym (data_sent ticks c event sound.in_step).sends)
    (all_joined (Shows y.point Q) _ _ (data_shows y Q a.this d.this d.that (passed_at a.this) (λ three. (after_leaving ticks (event_step ticks c event)).0.class ∙ three))
    (data_apart y Q a.that d.that d.this (passed_at d.that) apart))
dt2_of_class y ticks end other c event sound that_and_this apart =
    let a = acted ticks c event in
    let d = stepped ticks c event in
    let Q : Type 0 = class_at d.that ≡ 3 in
    subst (AllShow y.point Q) (sym (data_sent ticks c event sound.in_step).sends)
    (all_joined (Shows y.point Q) _ _ (data_apart y Q a.this d.this d.that (passed_at a.this) apart)
    (data_shows y Q a.that d.that d.this (passed_at d.that) (λ three. (after_leaving ticks (event_step ticks c event)).1.class ∙ three)))

pub sends_of_class : SendsOfClass
unfolding messages_to
sends_of_class ticks c event end other y reference sound sides before after = by_event after
  where
    heard : hears c event ≡ true → IsApart y (other (next ticks c event))
        → BringOfClass reference (class_at (end (next ticks c event))) (messages_to y.point (connection_step ticks c event).1)
    heard h after =
        let d = next ticks c event in
        let outs = (connection_step ticks c event).1 in
        of_class reference (class_at (end d)) y.point outs
        (dt1_of_class y event end other c d outs sound sides before (step_agrees ticks c event) (units_pass ticks c event h sound.in_step))
        (dt2_of_class y ticks end other c event sound sides (apart_between ticks c event end other y sides after))

    by_event : IsApart y (other (fed ticks c event)) → BringOfClass reference (class_at (end (fed ticks c event))) (messages_to y.point (part_by ticks event c))
    by_event = by_hearing (λ d outs. IsApart y (other d) → BringOfClass reference (class_at (end d)) (messages_to y.point outs)) ticks c event heard (λ _ _. tt)
