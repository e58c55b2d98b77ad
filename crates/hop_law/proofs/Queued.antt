-- The units that wait are those on a section.
use Rattle.std.proofs.Common.{◌≡◌, ℕ, suc, ◌==◌, ◌&&◌, Bool, true, false, List, [], ◌∷◌, ◌++◌, drop, take, if◌then◌else◌, refl, sym, ◌∙◌, ap, subst, append-nil, eq-eqb}
use Rattle.std.specs.List.{AllByRecursion, flat_map}
use Rattle.std.proofs.lemmas.Bool.{eqb-true}
use Rattle.std.proofs.lemmas.Grind.{flat_map-append}
use Rattle.relay_base.specs.declared.words.Event.{Event}
use Rattle.relay_base.specs.declared.words.Output.{Output}
use Rattle.relay_base.specs.declared.words.Output.TheVariants.{Sent, Told, Lost}
use Rattle.plant_core.specs.declared.terms.Ticks.{Ticks}
use Rattle.section_model.specs.Ends.{End, wire, owner, DataUnit, SectionHead, Section, Connection}
use Rattle.section_model.specs.Step.{connection_step}
use Rattle.hop_law.specs.CarriedLaw.{all_as_dt1}
use Rattle.hop_law.specs.Units.{units_for, units_from, units_on}
use Rattle.connection_law.specs.InStep.{passed_at, got_at, sent_at, IsInStep}
use Rattle.connection_law.specs.Messages.{is_of_type, data_among, acted, stepped}
use Rattle.connection_law.specs.DataSent.{all_as_data, data_on}
use Rattle.connection_law.proofs.Flow.Flowing.{either}
use Rattle.connection_law.proofs.Message.Sent.{data_sent}
use Rattle.hop_law.specs.PassingLaw.{dt1_among, at_once, Brings, Passing, none, on_this, on_that}
use Rattle.hop_law.specs.PlaceLaw.{StaysPut}
use Rattle.hop_law.specs.LeavingLaw.{this_and_that, that_and_this, IsApart}
use Rattle.hop_law.proofs.Carrying.{no_units}
use Rattle.hop_law.proofs.Passing.{units_pass}
use Rattle.hop_law.proofs.Placing.{event_place}
use Rattle.hop_law.specs.Waiting.{Waiting, message_to, messages_to, units_waiting, UnitsWait}
use Rattle.hop_law.proofs.Lists.{all_joined, each_filtered}

-- one queue after another
pub waiting_joined : (reference : ℕ) (one other : List Waiting) → units_waiting reference (one ++ other) ≡ units_waiting reference one ++ units_waiting reference other
unfolding units_waiting
waiting_joined reference one other = flat_map-append (λ (m : Waiting). units_for reference m.bytes) one other

pub messages_joined : (point : ℕ) (one other : List Output) → messages_to point (one ++ other) ≡ messages_to point one ++ messages_to point other
unfolding messages_to
messages_joined point one other = flat_map-append (message_to point) one other

-- Each message to the section's point has its link selection.

pub IsWith : SectionHead → Output → Type 0
IsWith y (Sent point sls bytes) = point ≡ y.point → sls ≡ y.sls
IsWith y _ = Unit {0}

abbrev pub AreWith : SectionHead → List Output → Type 0
AreWith y outs = AllByRecursion (IsWith y) outs

-- an end sends with the link selection, or to another point
SendsWith : SectionHead → End → Type 0
SendsWith y (wire x) = x.head.point ≡ y.point → x.head.sls ≡ y.sls
SendsWith y (owner u) = Unit {0}

dt1_with : (y x : SectionHead) (units : List DataUnit) → (x.point ≡ y.point → x.sls ≡ y.sls) → AreWith y (all_as_dt1 x units)
unfolding IsWith
dt1_with y x [] same = tt
dt1_with y x (u ∷ units) same = (same, dt1_with y x units same)

once_with : (y : SectionHead) (e : End) (units : List DataUnit) → SendsWith y e → AreWith y (at_once e units)
unfolding SendsWith
once_with y (wire x) units same = either (AreWith y) (x.head.class == 3) _ _ (λ _. tt) (λ _. dt1_with y x.head units same)
once_with y (owner u) units same = tt

dt2_with : (y x : SectionHead) (ps pr : ℕ) (units : List DataUnit) → (x.point ≡ y.point → x.sls ≡ y.sls) → AreWith y (all_as_data x ps pr units)
unfolding IsWith
dt2_with y x ps pr [] same = tt
dt2_with y x ps pr (u ∷ units) same = (same, dt2_with y x (suc ps) pr units same)

data_with : (y : SectionHead) (e after other : End) (pr : ℕ) → SendsWith y e → AreWith y (data_on e pr after other)
unfolding SendsWith
data_with y (wire x) after other pr same =
    either (AreWith y) (x.head.class == 3) _ _
    (λ _. dt2_with y x.head x.windows.sent pr (drop x.windows.sent (take (sent_at after) (got_at other))) same) (λ _. tt)
data_with y (owner u) after other pr same = tt

-- So it is for each DT1 and DT2 of a step.

dt1_are_with : (y : SectionHead) (event : Event) (c d : Connection) (outs : List Output) → Passing (Brings event) c d outs → SendsWith y c.this → SendsWith y c.that → AreWith y (dt1_among outs)
dt1_are_with y event c d outs (none p) this that = subst (AreWith y) (sym p.sends) tt
dt1_are_with y event c d outs (on_this units p) this that = subst (AreWith y) (sym p.sends) (once_with y c.that units that)
dt1_are_with y event c d outs (on_that units p) this that = subst (AreWith y) (sym p.sends) (once_with y c.this units this)

dt2_are_with : (y : SectionHead) (ticks : Ticks) (c : Connection) (event : Event) → IsInStep c → SendsWith y (acted ticks c event).this → SendsWith y (acted ticks c event).that
    → AreWith y (data_among (connection_step ticks c event).1)
dt2_are_with y ticks c event k this that =
    let a = acted ticks c event in
    let d = stepped ticks c event in
    subst (AreWith y) (sym (data_sent ticks c event k).sends)
    (all_joined (IsWith y) _ _ (data_with y a.this d.this d.that (passed_at a.this) this) (data_with y a.that d.that d.this (passed_at d.that) that))

-- Where each DT1 and DT2 is so, the units by the reference are those on the section.

IsAlike : SectionHead → Output → Type 0
IsAlike y out = units_waiting y.other (message_to y.point out) ≡ units_from y out

alike_none : (y : SectionHead) (out : Output) → is_of_type 6 out ≡ false → is_of_type 7 out ≡ false → IsAlike y out
unfolding IsAlike units_waiting
alike_none y (Sent point sls bytes) a b = by_point (point == y.point) (sls == y.sls)
  where
    by_point : (p s : Bool) → flat_map (λ (m : Waiting). units_for y.other m.bytes) (if p then record { sls = sls; bytes = bytes } ∷ [] else []) ≡ (if p && s then units_for y.other bytes else [])
    by_point true true = rw (no_units y.other bytes a b) refl
    by_point true false = rw (no_units y.other bytes a b) refl
    by_point false s = refl
alike_none y (Told ssn tell) a b = refl
alike_none y (Lost lost) a b = refl

alike_with : (y : SectionHead) (out : Output) → IsWith y out → IsAlike y out
unfolding IsAlike IsWith units_waiting
alike_with y (Sent point sls bytes) same = by_point (point == y.point) refl
  where
    by_point : (p : Bool) → (point == y.point) ≡ p
        → flat_map (λ (m : Waiting). units_for y.other m.bytes) (if p then record { sls = sls; bytes = bytes } ∷ [] else []) ≡ (if p && (sls == y.sls) then units_for y.other bytes else [])
    by_point true e = rw (same (eqb-true point y.point e), eq-eqb y.sls y.sls refl) (append-nil (units_for y.other bytes))
    by_point false e = refl
alike_with y (Told ssn tell) same = refl
alike_with y (Lost lost) same = refl

alike : (y : SectionHead) (out : Output) → (is_of_type 6 out ≡ true → IsWith y out) → (is_of_type 7 out ≡ true → IsWith y out) → IsAlike y out
alike y out one two = by_type (is_of_type 6 out) (is_of_type 7 out) refl refl
  where
    by_type : (a b : Bool) → is_of_type 6 out ≡ a → is_of_type 7 out ≡ b → IsAlike y out
    by_type true b six seven = alike_with y out (one six)
    by_type false true six seven = alike_with y out (two seven)
    by_type false false six seven = alike_none y out six seven

each_alike : (y : SectionHead) (outs : List Output) → AllByRecursion (λ (out : Output). is_of_type 6 out ≡ true → IsWith y out) outs
    → AllByRecursion (λ (out : Output). is_of_type 7 out ≡ true → IsWith y out) outs → units_waiting y.other (messages_to y.point outs) ≡ units_on y outs
unfolding units_waiting messages_to units_on IsAlike
each_alike y [] one two = refl
each_alike y (out ∷ outs) one two =
    waiting_joined y.other (message_to y.point out) (messages_to y.point outs)
    ∙ (ap (λ (units : List DataUnit). units ++ units_waiting y.other (messages_to y.point outs)) (alike y out one.0 two.0)
    ∙ ap (λ (units : List DataUnit). units_from y out ++ units) (each_alike y outs one.1 two.1))

pub all_alike : (y : SectionHead) (outs : List Output) → AreWith y (dt1_among outs) → AreWith y (data_among outs) → units_waiting y.other (messages_to y.point outs) ≡ units_on y outs
unfolding dt1_among data_among
all_alike y outs one two = each_alike y outs (each_filtered (IsWith y) (is_of_type 6) outs one) (each_filtered (IsWith y) (is_of_type 7) outs two)

-- The ends of a step.

own_with : (y : SectionHead) (x : Section) (e : End) → x.head.sls ≡ y.sls → StaysPut (wire x) e → SendsWith y e
unfolding SendsWith
own_with y x (wire z) same put = λ _. put.0 ∙ same
own_with y x (owner u) same put = absurd put

here_with : (y : SectionHead) (x : Section) (e : End) → x.head.sls ≡ y.sls → e ≡ wire x → SendsWith y e
unfolding SendsWith
here_with y x e same is = subst (SendsWith y) (sym is) (λ _. same)

other_with : (y : SectionHead) (e : End) → IsApart y e → SendsWith y e
unfolding SendsWith
other_with y (wire x) apart = λ same. absurd (apart same)
other_with y (owner u) apart = tt

pub units_wait : UnitsWait
units_wait ticks c event end other x point reference h k this_and_that is apart apart_acted =
    let y = record x.head { point = point; other = reference } in
    let r = connection_step ticks c event in
    let a = acted ticks c event in
    let put : StaysPut (wire x) a.this = subst (λ e. StaysPut e a.this) is (event_place ticks event c).0 in
    all_alike y r.1 (dt1_are_with y event c r.0 r.1 (units_pass ticks c event h k) (here_with y x c.this refl is) (other_with y c.that apart))
    (dt2_are_with y ticks c event k (own_with y x a.this refl put) (other_with y a.that apart_acted))
units_wait ticks c event end other x point reference h k that_and_this is apart apart_acted =
    let y = record x.head { point = point; other = reference } in
    let r = connection_step ticks c event in
    let a = acted ticks c event in
    let put : StaysPut (wire x) a.that = subst (λ e. StaysPut e a.that) is (event_place ticks event c).1 in
    all_alike y r.1 (dt1_are_with y event c r.0 r.1 (units_pass ticks c event h k) (other_with y c.this apart) (here_with y x c.that refl is))
    (dt2_are_with y ticks c event k (other_with y a.this apart_acted) (own_with y x a.that refl put))
