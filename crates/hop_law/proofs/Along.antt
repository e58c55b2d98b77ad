-- What left on a section, event by event.
use Rattle.std.proofs.Common.{◌≡◌, ◌⊎◌, inl, inr, ℕ, zero, suc, ◌+◌, ◌≤◌, ◌<◌, ◌==◌, ◌||◌, Bool, true, false, List, [], ◌∷◌, ◌++◌, length, take, drop, refl, sym, ◌∙◌, ap, subst, arith, append_assoc, append-nil, take-add}
use Rattle.std.specs.List.{list_any}
use Rattle.std.proofs.lemmas.Bool.{false≢true}
use Rattle.std.proofs.lemmas.List.{drop-take, take_all, take-append-le}
use Rattle.std.proofs.lemmas.List.Folds.{list_any-append}
use Rattle.std.proofs.Math.Seq.{take-nil}
use Rattle.relay_base.specs.declared.limits.TheConstants.{REFERENCES}
use Rattle.relay_base.specs.declared.words.Event.{Event}
use Rattle.relay_base.specs.declared.words.Output.{Output}
use Rattle.relay_base.specs.declared.words.Output.TheVariants.{Sent, Told, Lost}
use Rattle.plant_core.specs.declared.terms.Ticks.{Ticks}
use Rattle.section_model.specs.declared.cell.SectionState.{SectionState}
use Rattle.section_model.specs.declared.cell.SectionState.TheVariants.{Asked, Asking, Waning, Up, Resetting, Ending, Gone}
use Rattle.section_model.specs.Ends.{End, wire, owner, DataUnit, SectionHead, Section, Connection, is_reached}
use Rattle.section_model.specs.Lengths.{UnitsWithin}
use Rattle.section_model.specs.Step.{hears, event_step, connection_step, after_event}
use Rattle.section_model.specs.Opening.{wish_of}
use Rattle.section_model.specs.Lane.{next, heard, follow}
use Rattle.hop_law.specs.Units.{units_from, units_on}
use Rattle.hop_law.proofs.Reading.{joined_on}
use Rattle.connection_law.specs.InStep.{Stage, asked, asking, connected, over, Meets, section_stage, user_stage, stage_at, class_at, passed_at, got_at, sent_at, AreInStep, IsInStep}
use Rattle.connection_law.specs.Messages.{acted, stepped}
use Rattle.connection_law.specs.DataSent.{all_as_data, data_on}
use Rattle.connection_law.proofs.Flow.Flowing.{either}
use Rattle.connection_law.proofs.Flow.Ends.{kept_back}
use Rattle.connection_law.proofs.Flow.Opening.{opening_begins}
use Rattle.connection_law.proofs.Flow.Ordering.{Stays}
use Rattle.connection_law.proofs.Flow.Step.{step_keeps}
use Rattle.connection_law.proofs.Message.Sent.{after_leaving, data_sent}
use Rattle.connection_law.proofs.Reference.Ends.{Both}
use Rattle.hop_law.specs.TextLaw.{Begins}
use Rattle.hop_law.specs.ClassLaw.{IsOfAClass}
use Rattle.hop_law.specs.PassingLaw.{IsOpen, dt1_among, StaysOrClears, Brings, Passing, none, on_this, on_that}
use Rattle.hop_law.specs.PlaceLaw.{SamePlace, KeepsPlace, StaysPut}
use Rattle.hop_law.specs.LeavingLaw.{AreSides, this_and_that, that_and_this, IsApart, ComeIn}
use Rattle.hop_law.specs.EarlyLaw.{IsBefore, IsEmptyEarly}
use Rattle.hop_law.specs.ClearingLaw.{is_reset, SendsReset}
use Rattle.hop_law.proofs.Accepting.{any_after}
use Rattle.hop_law.proofs.Carrying.{only_dt2}
use Rattle.hop_law.proofs.Passing.{units_pass}
use Rattle.hop_law.proofs.Leaving.{brought_within, other_data, nothing_on, units_leave}
use Rattle.hop_law.proofs.Placing.{end_then, event_place, step_place, along_place, after_place}
use Rattle.hop_law.proofs.Early.{KeptEarly, step_early, opening_empty}
use Rattle.hop_law.proofs.Classes.{classes_stay}
use Rattle.hop_law.proofs.Heads.{after_heads, apart_before}
use Rattle.hop_law.proofs.Clearing.{Goes, event_goes}
use Rattle.hop_law.proofs.Taking.{SameHead}
use Rattle.hop_law.specs.LeftAlong.{outs_along, StaysApart, LeftAlong}

-- Units on a section, which its place alone decides.

from_place : (x y : SectionHead) (out : Output) → y.point ≡ x.point → y.sls ≡ x.sls → y.other ≡ x.other → units_from y out ≡ units_from x out
from_place x y (Sent point sls bytes) p s o = rw (p, s, o) refl
from_place x y (Told ssn tell) p s o = refl
from_place x y (Lost lost) p s o = refl

pub on_place : (x y : SectionHead) (outs : List Output) → y.point ≡ x.point → y.sls ≡ x.sls → y.other ≡ x.other → units_on y outs ≡ units_on x outs
unfolding units_on
on_place x y [] p s o = refl
on_place x y (out ∷ outs) p s o = rw (from_place x y out p s o, on_place x y outs p s o) refl

pub apart_place : (x y : SectionHead) (e : End) → y.point ≡ x.point → IsApart x e → IsApart y e
apart_place x y (wire z) p apart = rw p apart
apart_place x y (owner u) p apart = tt

-- an end that is a section, and keeps its place until a later one
pub record SectionAt (e : End) (x : SectionHead) : Type 0 where
  pub section : Section
  pub is : e ≡ wire section
  pub keeps : KeepsPlace section.head x

pub section_at : (e : End) (x : Section) → StaysPut e (wire x) → SectionAt e x.head
section_at (wire y) x keeps = record { section = y; is = refl; keeps = keeps }
section_at (owner u) x keeps = absurd keeps

-- Both sides of a connection.

pub of_end : (R : End → End → Type 0) (end other : Connection → End) (c d : Connection) → AreSides end other → Both R c d → R (end c) (end d)
of_end R end other c d this_and_that r = r.0
of_end R end other c d that_and_this r = r.1

pub of_other : (R : End → End → Type 0) (end other : Connection → End) (c d : Connection) → AreSides end other → Both R c d → R (other c) (other d)
of_other R end other c d this_and_that r = r.1
of_other R end other c d that_and_this r = r.0

pub sides_in_step : (end other : Connection → End) (c : Connection) → AreSides end other → IsInStep c → AreInStep (end c) (other c)
sides_in_step end other c this_and_that k = k
sides_in_step end other c that_and_this k = kept_back c k

-- Units within their lengths.

within_joined : (a b : List DataUnit) → UnitsWithin a → UnitsWithin b → UnitsWithin (a ++ b)
within_joined [] b p q = q
within_joined (u ∷ a) b p q = (p.0, within_joined a b p.1 q)

within_take : (n : ℕ) (units : List DataUnit) → UnitsWithin units → UnitsWithin (take n units)
within_take zero units p = tt
within_take (suc n) [] p = tt
within_take (suc n) (u ∷ units) p = (p.0, within_take n units p.1)

within_drop : (n : ℕ) (units : List DataUnit) → UnitsWithin units → UnitsWithin (drop n units)
within_drop zero units p = p
within_drop (suc n) [] p = tt
within_drop (suc n) (u ∷ units) p = within_drop n units p.1

within_stays : (before after : End) → StaysOrClears before after → UnitsWithin (got_at before) → UnitsWithin (got_at after)
within_stays before after (inl same) p = subst UnitsWithin (sym same) p
within_stays before after (inr cleared) p = subst UnitsWithin (sym cleared) tt

-- what may be written at both ends
Within : Connection → Type 0
Within c = UnitsWithin (got_at c.this) × UnitsWithin (got_at c.that)

within_after : (event : Event) (c d : Connection) (outs : List Output) → Passing (Brings event) c d outs → Within c → Within d
unfolding Within
within_after event c d outs (none p) w = (within_stays c.this d.this p.this w.0, within_stays c.that d.that p.that w.1)
within_after event c d outs (on_this units p) w =
    (subst UnitsWithin (sym p.comes) (within_joined (got_at c.this) units w.0 (brought_within event c.this units p.brought)), within_stays c.that d.that p.stays w.1)
within_after event c d outs (on_that units p) w =
    (within_stays c.this d.this p.stays w.0, subst UnitsWithin (sym p.comes) (within_joined (got_at c.that) units w.1 (brought_within event c.that units p.brought)))

other_within : (end other : Connection → End) (c : Connection) → AreSides end other → Within c → UnitsWithin (got_at (other c))
unfolding Within
other_within end other c this_and_that w = w.1
other_within end other c that_and_this w = w.0

-- Where an end isn't set up, or is over, nothing comes in at the other one, and no DT1 leaves.

pub open_stage : (e : End) → IsOpen e → stage_at e ≡ connected
open_stage (wire x) up = ap section_stage up
open_stage (owner u) ready = ap user_stage ready

abbrev NonePassing : (Connection → End) → Connection → Connection → List Output → Type 0
NonePassing other c d outs = (dt1_among outs ≡ []) × StaysOrClears (other c) (other d)

pub is_met : (s t : Stage) → s ≡ connected → Meets s t → t ≡ connected
is_met s t e m = met t (subst (λ s. Meets s t) e m)
  where
    met : (t : Stage) → Meets connected t → t ≡ connected
    met connected m = refl
    met _ m = absurd m

none_passing : (event : Event) (end other : Connection → End) (c d : Connection) (outs : List Output) → AreSides end other → IsInStep c → (stage_at (end c) ≡ connected → ⊥)
    → Passing (Brings event) c d outs → NonePassing other c d outs
none_passing event end other c d outs this_and_that k not_up (none p) = (p.sends, p.that)
none_passing event end other c d outs that_and_this k not_up (none p) = (p.sends, p.this)
none_passing event end other c d outs this_and_that k not_up (on_this units p) = absurd (not_up (open_stage (end c) p.is_open))
none_passing event end other c d outs that_and_this k not_up (on_that units p) = absurd (not_up (open_stage (end c) p.is_open))
none_passing event end other c d outs this_and_that k not_up (on_that units p) = absurd (not_up (is_met (stage_at c.that) (stage_at c.this) (open_stage c.that p.is_open) (kept_back c k).0))
none_passing event end other c d outs that_and_this k not_up (on_this units p) = absurd (not_up (is_met (stage_at c.this) (stage_at c.that) (open_stage c.this p.is_open) k.0))

pub still_none : (before after : End) → StaysOrClears before after → got_at before ≡ [] → got_at after ≡ []
still_none before after (inl same) e = same ∙ e
still_none before after (inr cleared) e = cleared

-- no DT2 leaves on an end where nothing came in at the other one
pub no_data_from : (e after other : End) (pr : ℕ) → got_at other ≡ [] → data_on e pr after other ≡ []
no_data_from (owner u) after other pr e = refl
no_data_from (wire x) after other pr e =
    either (λ (outs : List Output). outs ≡ []) (x.head.class == 3) _ _
    (λ _. ap (all_as_data x.head x.windows.sent pr) (none_of x.windows.sent (sent_at after) (got_at other) e)) (λ _. refl)
  where
    none_of : (n m : ℕ) (got : List DataUnit) → got ≡ [] → drop n (take m got) ≡ []
    none_of zero m got e = rw e (take-nil {A = DataUnit} m)
    none_of (suc n) m got e = rw (e, take-nil {A = DataUnit} m) refl

-- so none leaves to a point from which the other end is apart
data_of_sides : (x : SectionHead) (end other : Connection → End) (a d : Connection) → AreSides end other → IsApart x (other a) → got_at (other d) ≡ []
    → units_on x (data_on a.this (passed_at a.this) d.this d.that ++ data_on a.that (passed_at d.that) d.that d.this) ≡ []
data_of_sides x end other a d this_and_that apart e =
    rw (no_data_from a.this d.this d.that (passed_at a.this) e) (other_data x a.that d.that d.this (passed_at d.that) apart)
data_of_sides x end other a d that_and_this apart e =
    rw (no_data_from a.that d.that d.this (passed_at d.that) e)
    (ap (units_on x) (append-nil (data_on a.this (passed_at a.this) d.this d.that)) ∙ other_data x a.this d.this d.that (passed_at a.this) apart)

nothing_leaves : (ticks : Ticks) (c : Connection) (event : Event) (end other : Connection → End) (x : SectionHead) → AreSides end other → IsInStep c
    → IsApart x (other (acted ticks c event)) → dt1_among (connection_step ticks c event).1 ≡ [] → got_at (other (stepped ticks c event)) ≡ []
    → units_on x (connection_step ticks c event).1 ≡ []
nothing_leaves ticks c event end other x sides k apart no_dt1 none_came =
    only_dt2 x (connection_step ticks c event).1 no_dt1
    ∙ (ap (units_on x) (data_sent ticks c event k).sends ∙ data_of_sides x end other (acted ticks c event) (stepped ticks c event) sides apart none_came)

-- What left then.

none_left : (left units : List DataUnit) (passed passed' : ℕ) (got got' : List DataUnit) → left ≡ take passed got → got ≡ [] → units ≡ [] → got' ≡ []
    → left ++ units ≡ take passed' got'
none_left left units passed passed' got got' first g u g' = rw (first, g, u, g', take-nil {A = DataUnit} passed, take-nil {A = DataUnit} passed') refl

pub empty_first : (a b : List DataUnit) → a ++ b ≡ [] → a ≡ []
empty_first [] b e = refl
empty_first (u ∷ a) b e = absurd (not_empty e)
  where
    not_empty : (u ∷ (a ++ b)) ≡ [] → ⊥
    not_empty e = cc

-- in class 2, where all that came in left
left_at_once : (left units : List DataUnit) (passed passed' : ℕ) (got got' : List DataUnit) → left ≡ take passed got → passed ≡ length got → passed' ≡ length got' → Begins got got'
    → (got' ≡ got ++ units) ⊎ ((units ≡ []) × (got' ≡ [])) → left ++ units ≡ take passed' got'
left_at_once left units passed passed' got got' first p p' begins (inl comes) =
    ap (λ (l : List DataUnit). l ++ units) (first ∙ take_all passed got (omega (arith, p))) ∙ (sym comes ∙ sym (take_all passed' got' (omega (arith, p'))))
left_at_once left units passed passed' got got' first p p' begins (inr cleared) =
    none_left left units passed passed' got got' first (empty_first got begins.more (sym begins.is ∙ cleared.1)) cleared.0 cleared.1

-- in class 3, where so many more leave
left_in_window : (left units : List DataUnit) (passed passed' sent acted sent' count : ℕ) (got got' : List DataUnit)
    → left ≡ take passed got → sent ≡ passed → passed ≤ length got → sent' ≡ passed' → acted ≡ sent → sent' ≡ acted + count → Begins got got'
    → units ≡ drop acted (take sent' got') → left ++ units ≡ take passed' got'
left_in_window left units passed passed' sent acted sent' count got got' first s fits s' a more begins next =
    ap (λ (l : List DataUnit). l ++ units) (before ∙ sym same_first) ∙ (ap (λ (more : List DataUnit). take acted got' ++ more) then ∙ (sym (take-add acted count got') ∙ after))
  where
    before : left ≡ take acted got
    before = rw (a, s) first

    same_first : take acted got' ≡ take acted got
    same_first = rw begins.is (take-append-le acted got begins.more (omega (arith, a, s, fits)))

    then : units ≡ take count (drop acted got')
    then = next ∙ (rw more refl ∙ drop-take acted count got')

    after : take (acted + count) got' ≡ take passed' got'
    after = rw (← s', more) refl

-- One step.

-- the other end is no section to the point, before the event and as it leaves it
record IsApartAt (ticks : Ticks) (y : SectionHead) (other : Connection → End) (c : Connection) (event : Event) : Type 0 where
  before : IsApart y (other c)
  acted : IsApart y (other (acted ticks c event))

apart_first : (ticks : Ticks) (y : SectionHead) (other : Connection → End) (c : Connection) (events : List Event) → StaysApart ticks y other c events → IsApart y (other c)
unfolding StaysApart
apart_first ticks y other c [] apart = apart
apart_first ticks y other c (event ∷ events) apart = apart.0

-- as the event leaves it, since what follows changes no head
pub apart_between : (ticks : Ticks) (c : Connection) (event : Event) (end other : Connection → End) (y : SectionHead) → AreSides end other → IsApart y (other (next ticks c event))
    → IsApart y (other (acted ticks c event))
unfolding connection_step
apart_between ticks c event end other y sides after =
    apart_before y (other (acted ticks c event)) (other (next ticks c event))
    (of_other SameHead end other (acted ticks c event) (next ticks c event) sides (after_heads ticks (event_step ticks c event))) after

apart_at : (ticks : Ticks) (y : SectionHead) (end other : Connection → End) (c : Connection) (event : Event) → AreSides end other → IsApart y (other c) → IsApart y (other (next ticks c event))
    → IsApartAt ticks y other c event
apart_at ticks y end other c event sides before after = record { before = before; acted = apart_between ticks c event end other y sides after }

record Kept (x : SectionHead) (end other : Connection → End) (c : Connection) (left : List DataUnit) : Type 0 where
  in_step : IsInStep c
  class : IsOfAClass (class_at c.this)
  empty : IsEmptyEarly c.this × IsEmptyEarly c.that
  within : Within c
  unreached : (y : Section) → end c ≡ wire y → is_reached y.head.state ≡ false → got_at (other c) ≡ []
  first : left ≡ take (passed_at (other c)) (got_at (other c))

record IsLeft (e f : End) : Type 0 where
  count : ℕ
  stays : Stays count e f

both_left : (ticks : Ticks) (r : Connection × List Output) → Both IsLeft r.0 (after_event ticks r).0
both_left ticks r = let left = after_leaving ticks r in (record { count = _; stays = left.0 }, record { count = _; stays = left.1 })

-- the section as it is before, as the event leaves it, and after
record IsPlaced (ticks : Ticks) (x : Section) (end : Connection → End) (c : Connection) (event : Event) : Type 0 where
  before : StaysPut (end c) (wire x)
  goes : StaysPut (end c) (end (acted ticks c event))
  acted : StaysPut (end (acted ticks c event)) (wire x)
  after : StaysPut (end (stepped ticks c event)) (wire x)

early_meets : (s t : Stage) → Meets s t → (IsBefore s → IsBefore t) × (IsBefore t → IsBefore s)
early_meets asked asking m = (λ early. early, λ early. early)
early_meets asked _ m = absurd m
early_meets asking asked m = (λ early. early, λ early. early)
early_meets asking _ m = absurd m
early_meets connected connected m = (λ early. early, λ early. early)
early_meets connected _ m = absurd m
early_meets over over m = (λ early. early, λ early. early)
early_meets over _ m = absurd m

unless : {A B : Type 0} → (A → ⊥) → A ⊎ B → B
unless not (inl a) = absurd (not a)
unless not (inr b) = b

-- what is given of a step
record IsHop (ticks : Ticks) (x : Section) (end other : Connection → End) (c : Connection) (event : Event) : Type 0 where
  sides : AreSides end other
  heard : hears c event ≡ true
  apart : IsApartAt ticks x.head other c event
  none : list_any is_reset (connection_step ticks c event).1 ≡ false
  fits : x.head.other < REFERENCES
  placed : IsPlaced ticks x end c event

abbrev StepLeaves : Ticks → Section → (Connection → End) → Connection → Event → List DataUnit → Type 0
StepLeaves ticks x other c event left =
    left ++ units_on x.head (connection_step ticks c event).1 ≡ take (passed_at (other (stepped ticks c event))) (got_at (other (stepped ticks c event)))

-- where the end isn't set up or is over, and nothing came in at the other one
none_step : (ticks : Ticks) (c : Connection) (event : Event) (end other : Connection → End) (x : Section) (left : List DataUnit) → IsHop ticks x end other c event → Kept x.head end other c left
    → (stage_at (end c) ≡ connected → ⊥) → got_at (other c) ≡ []
    → (got_at (other (stepped ticks c event)) ≡ []) × (units_on x.head (connection_step ticks c event).1 ≡ [])
none_step ticks c event end other x left hop kept not_up empty =
    let d = stepped ticks c event in
    let p = none_passing event end other c d (connection_step ticks c event).1 hop.sides kept.in_step not_up (units_pass ticks c event hop.heard kept.in_step) in
    let came = still_none (other c) (other d) p.1 empty in
    (came, nothing_leaves ticks c event end other x.head hop.sides kept.in_step hop.apart.acted p.0 came)

none_left_by : (ticks : Ticks) (c : Connection) (event : Event) (end other : Connection → End) (x : Section) (left : List DataUnit) → IsHop ticks x end other c event → Kept x.head end other c left
    → (stage_at (end c) ≡ connected → ⊥) → got_at (other c) ≡ [] → StepLeaves ticks x other c event left
none_left_by ticks c event end other x left hop kept not_up empty =
    let d = stepped ticks c event in
    let n = none_step ticks c event end other x left hop kept not_up empty in
    none_left left (units_on x.head (connection_step ticks c event).1) (passed_at (other c)) (passed_at (other d)) (got_at (other c)) (got_at (other d)) kept.first empty n.1 n.0

end_class : (end other : Connection → End) (c : Connection) → AreSides end other → IsInStep c → (class_at c.this ≡ 2) ⊎ (class_at c.this ≡ 3) → (class_at (end c) ≡ 2) ⊎ (class_at (end c) ≡ 3)
end_class end other c this_and_that k class = class
end_class end other c that_and_this k (inl two) = inl (sym k.1 ∙ two)
end_class end other c that_and_this k (inr three) = inr (sym k.1 ∙ three)

-- an end whose place is known, and which isn't early: as it is before the step, as the event leaves it, and after
record IsKnown (ticks : Ticks) (x : Section) (end other : Connection → End) (c : Connection) (event : Event) : Type 0 where
  before : Section
  is_before : end c ≡ wire before
  reached : is_reached before.head.state ≡ true
  goes_end : Begins (got_at (end c)) (got_at (end (acted ticks c event))) × (sent_at (end (acted ticks c event)) ≡ sent_at (end c)) × (class_at (end (acted ticks c event)) ≡ class_at (end c))
  goes_other : Begins (got_at (other c)) (got_at (other (acted ticks c event)))
  left_end : IsLeft (end (acted ticks c event)) (end (stepped ticks c event))
  left_other : IsLeft (other (acted ticks c event)) (other (stepped ticks c event))

pub known : (x : Section) (e : End) (y : Section) → e ≡ wire y → StaysPut e (wire x) → is_reached y.head.state ≡ true → SamePlace y.head x.head
known x e y is put = (subst (λ e. StaysPut e (wire x)) is put).1

step_in_two : (ticks : Ticks) (c : Connection) (event : Event) (end other : Connection → End) (x : Section) (left : List DataUnit) → IsHop ticks x end other c event → Kept x.head end other c left
    → IsKnown ticks x end other c event → class_at (end c) ≡ 2 → StepLeaves ticks x other c event left
step_in_two ticks c event end other x left hop kept open_end two =
    let d = stepped ticks c event in
    let outs = (connection_step ticks c event).1 in
    let y = open_end.before in
    let place = known x (end c) y open_end.is_before hop.placed.before open_end.reached in
    let two_here : y.head.class ≡ 2 = sym (ap class_at open_end.is_before) ∙ two in
    let two_after : class_at (end d) ≡ 2 = open_end.left_end.stays.class ∙ (open_end.goes_end.2 ∙ two) in
    let later = section_at (end d) x hop.placed.after in
    let in_c : AreInStep (wire y) (other c) = subst (λ e. AreInStep e (other c)) open_end.is_before (sides_in_step end other c hop.sides kept.in_step) in
    let in_d : AreInStep (wire later.section) (other d) = subst (λ e. AreInStep e (other d)) later.is (sides_in_step end other d hop.sides (step_keeps ticks c event kept.in_step)) in
    let begins : Begins (got_at (other c)) (got_at (other d)) = subst (λ got. Begins (got_at (other c)) got) (sym open_end.left_other.stays.got) open_end.goes_other in
    let come = units_leave.at_once ticks c event end other y hop.heard kept.in_step hop.sides open_end.is_before two_here two_after
    (subst (λ n. n < REFERENCES) place.other hop.fits) (apart_place x.head y.head (other c) (sym place.point) hop.apart.before) in
    left_at_once left (units_on x.head outs) (passed_at (other c)) (passed_at (other d)) (got_at (other c)) (got_at (other d)) kept.first
    (in_c.5 two_here).0 (in_d.5 (sym (ap class_at later.is) ∙ two_after)).0 begins
    (subst (λ units. ComeIn units (other c) (other d)) (on_place x.head y.head outs (sym place.point) (sym (subst (λ e. StaysPut e (wire x)) open_end.is_before hop.placed.before).0) (sym place.other)) come)

step_in_three : (ticks : Ticks) (c : Connection) (event : Event) (end other : Connection → End) (x : Section) (left : List DataUnit) → IsHop ticks x end other c event → Kept x.head end other c left
    → IsKnown ticks x end other c event → class_at (end c) ≡ 3 → StepLeaves ticks x other c event left
step_in_three ticks c event end other x left hop kept open_end three =
    let a = acted ticks c event in
    let d = stepped ticks c event in
    let outs = (connection_step ticks c event).1 in
    let y = open_end.before in
    let between = section_at (end a) x hop.placed.acted in
    let z = between.section in
    let moved : SamePlace y.head z.head = known z (end c) y open_end.is_before (subst (λ e. StaysPut (end c) e) between.is hop.placed.goes) open_end.reached in
    let place = between.keeps.1 moved.reached in
    let three_here : y.head.class ≡ 3 = sym (ap class_at open_end.is_before) ∙ three in
    let three_acted : z.head.class ≡ 3 = sym (ap class_at between.is) ∙ (open_end.goes_end.2 ∙ three) in
    let three_after : class_at (end d) ≡ 3 = open_end.left_end.stays.class ∙ (open_end.goes_end.2 ∙ three) in
    let later = section_at (end d) x hop.placed.after in
    let in_c : AreInStep (wire y) (other c) = subst (λ e. AreInStep e (other c)) open_end.is_before (sides_in_step end other c hop.sides kept.in_step) in
    let in_d : AreInStep (wire later.section) (other d) = subst (λ e. AreInStep e (other d)) later.is (sides_in_step end other d hop.sides (step_keeps ticks c event kept.in_step)) in
    let flows = (in_c.4 three_here).1.2 in
    let flows_after = (in_d.4 (sym (ap class_at later.is) ∙ three_after)).1.2 in
    let begins : Begins (got_at (other c)) (got_at (other d)) = subst (λ got. Begins (got_at (other c)) got) (sym open_end.left_other.stays.got) open_end.goes_other in
    let within : UnitsWithin (got_at (other d)) = other_within end other d hop.sides (within_after event c d outs (units_pass ticks c event hop.heard kept.in_step) kept.within) in
    let next = units_leave.in_window ticks c event end other z hop.heard kept.in_step hop.sides three between.is three_acted
    (subst (λ n. n < REFERENCES) place.other hop.fits) (apart_place x.head z.head (other a) (sym place.point) hop.apart.acted)
    (within_drop z.windows.sent (take (sent_at (end d)) (got_at (other d))) (within_take (sent_at (end d)) (got_at (other d)) within)) in
    left_in_window left (units_on x.head outs) (passed_at (other c)) (passed_at (other d)) y.windows.sent z.windows.sent (sent_at (end d)) open_end.left_end.count
    (got_at (other c)) (got_at (other d)) kept.first flows.0 flows.1 (ap sent_at later.is ∙ flows_after.0)
    (sym (ap sent_at between.is) ∙ (open_end.goes_end.1 ∙ ap sent_at open_end.is_before))
    (open_end.left_end.stays.sent ∙ ap (λ e. sent_at e + open_end.left_end.count) between.is) begins
    (sym (on_place x.head z.head outs (sym place.point) (sym between.keeps.0) (sym place.other)) ∙ next)

open_step : (ticks : Ticks) (c : Connection) (event : Event) (end other : Connection → End) (x : Section) (left : List DataUnit) → IsHop ticks x end other c event → Kept x.head end other c left
    → (y : Section) → end c ≡ wire y → is_reached y.head.state ≡ true → (IsBefore (stage_at (end c)) → ⊥) → StepLeaves ticks x other c event left
unfolding connection_step
open_step ticks c event end other x left hop kept y is reached not_early = by_event (event_goes ticks c event kept.in_step kept.class)
  where
    by_event : ((class_at c.this ≡ 3) × SendsReset (event_step ticks c event).1) ⊎ Both Goes c (event_step ticks c event).0 → StepLeaves ticks x other c event left
    by_event (inl reset) = absurd (false≢true (sym hop.none ∙ any_after is_reset ticks (event_step ticks c event) reset.1))
    by_event (inr goes) =
        let r = event_step ticks c event in
        let k = sides_in_step end other c hop.sides kept.in_step in
        let left_both = both_left ticks r in
        let d = (after_event ticks r).0 in
        let o : IsKnown ticks x end other c event = record {
          before = y;
          is_before = is;
          reached = reached;
          goes_end = unless not_early (of_end Goes end other c r.0 hop.sides goes).1;
          goes_other = (unless (λ early. not_early ((early_meets (stage_at (end c)) (stage_at (other c)) k.0).1 early)) (of_other Goes end other c r.0 hop.sides goes).1).0;
          left_end = of_end IsLeft end other r.0 d hop.sides left_both;
          left_other = of_other IsLeft end other r.0 d hop.sides left_both;
        } in
        by_class o (end_class end other c hop.sides kept.in_step kept.class)
      where
        by_class : IsKnown ticks x end other c event → (class_at (end c) ≡ 2) ⊎ (class_at (end c) ≡ 3) → StepLeaves ticks x other c event left
        by_class o (inl two) = step_in_two ticks c event end other x left hop kept o two
        by_class o (inr three) = step_in_three ticks c event end other x left hop kept o three

-- in each state
other_empty : (end other : Connection → End) (c : Connection) → AreSides end other → IsEmptyEarly c.this × IsEmptyEarly c.that → IsEmptyEarly (other c)
other_empty end other c this_and_that empty = empty.1
other_empty end other c that_and_this empty = empty.0

asked_only : asked ≡ connected → ⊥
asked_only e = cc

asking_only : asking ≡ connected → ⊥
asking_only e = cc

over_only : over ≡ connected → ⊥
over_only e = cc

first_step : (ticks : Ticks) (c : Connection) (event : Event) (end other : Connection → End) (x : Section) (left : List DataUnit) → IsHop ticks x end other c event → Kept x.head end other c left
    → StepLeaves ticks x other c event left
first_step ticks c event end other x left hop kept =
    let at = section_at (end c) x hop.placed.before in by_state at.section at.is at.section.head.state refl
  where
    by_state : (y : Section) → end c ≡ wire y → (s : SectionState) → y.head.state ≡ s → StepLeaves ticks x other c event left
    by_state y is s e = by_stage s e (ap stage_at is ∙ ap section_stage e)
      where
        early : (stage_at (end c) ≡ connected → ⊥) → IsBefore (stage_at (end c)) → StepLeaves ticks x other c event left
        early not_up before =
            let k = sides_in_step end other c hop.sides kept.in_step in
            none_left_by ticks c event end other x left hop kept not_up
            (other_empty end other c hop.sides kept.empty ((early_meets (stage_at (end c)) (stage_at (other c)) k.0).0 before))

        by_stage : (s : SectionState) → y.head.state ≡ s → stage_at (end c) ≡ section_stage s → StepLeaves ticks x other c event left
        by_stage Asked e at = early (λ up. asked_only (sym at ∙ up)) (subst IsBefore (sym at) tt)
        by_stage Asking e at = early (λ up. asking_only (sym at ∙ up)) (subst IsBefore (sym at) tt)
        by_stage Waning e at = none_left_by ticks c event end other x left hop kept (λ up. over_only (sym at ∙ up)) (kept.unreached y is (ap is_reached e))
        by_stage Up e at = open_step ticks c event end other x left hop kept y is (ap is_reached e) (λ early. subst IsBefore at early)
        by_stage Resetting e at = open_step ticks c event end other x left hop kept y is (ap is_reached e) (λ early. subst IsBefore at early)
        by_stage Ending e at = open_step ticks c event end other x left hop kept y is (ap is_reached e) (λ early. subst IsBefore at early)
        by_stage Gone e at = open_step ticks c event end other x left hop kept y is (ap is_reached e) (λ early. subst IsBefore at early)

-- All that is kept over a step.

pub stays_early : (e f : End) → KeptEarly e f → IsEmptyEarly e → IsEmptyEarly f
stays_early e f k empty = λ early. let before = k early in before.1 (empty before.0)

pub not_before : (a b : Bool) → (a ≡ true → b ≡ true) → b ≡ false → a ≡ false
not_before true b goes e = absurd (false≢true (sym e ∙ goes refl))
not_before false b goes e = refl

unreached_only : (s : SectionState) → is_reached s ≡ false → section_stage s ≡ connected → ⊥
unreached_only Asking e = asking_only
unreached_only Waning e = over_only
unreached_only _ e = absurd (false≢true (sym e))

kept_step : (ticks : Ticks) (c : Connection) (event : Event) (end other : Connection → End) (x : Section) (left : List DataUnit) → IsHop ticks x end other c event → Kept x.head end other c left
    → Kept x.head end other (stepped ticks c event) (left ++ units_on x.head (connection_step ticks c event).1)
kept_step ticks c event end other x left hop kept =
    let d = stepped ticks c event in
    let outs = (connection_step ticks c event).1 in
    let early = step_early ticks c event in record {
      in_step = step_keeps ticks c event kept.in_step;
      class = classes_stay ticks c event hop.heard kept.class;
      empty = (stays_early c.this d.this early.0 kept.empty.0, stays_early c.that d.that early.1 kept.empty.1);
      within = within_after event c d outs (units_pass ticks c event hop.heard kept.in_step) kept.within;
      unreached = still_unreached;
      first = first_step ticks c event end other x left hop kept;
    }
  where
    still_unreached : (z : Section) → end (stepped ticks c event) ≡ wire z → is_reached z.head.state ≡ false → got_at (other (stepped ticks c event)) ≡ []
    still_unreached z is_z e =
        let at = section_at (end c) x hop.placed.before in
        let y = at.section in
        let d = stepped ticks c event in
        let put : StaysPut (end c) (end d) = of_end StaysPut end other c d hop.sides (step_place ticks c event) in
        let before : is_reached y.head.state ≡ false =
        not_before (is_reached y.head.state) (is_reached z.head.state) (λ r. (known z (end c) y at.is (subst (λ e. StaysPut (end c) e) is_z put) r).reached) e in
        (none_step ticks c event end other x left hop kept (λ up. unreached_only y.head.state before (sym (ap stage_at at.is) ∙ up)) (kept.unreached y at.is before)).0

-- Along all that is heard.

unfoldable pub AllHear : Ticks → Connection → List Event → Type 0
AllHear ticks c [] = Unit {0}
AllHear ticks c (event ∷ events) = (hears c event ≡ true) × AllHear ticks (next ticks c event) events

pub all_hear : (ticks : Ticks) (c : Connection) (events : List Event) → AllHear ticks c (heard ticks c events)
unfolding heard AllHear
all_hear ticks c [] = tt
all_hear ticks c (event ∷ events) = by_test (hears c event) refl (all_hear ticks (next ticks c event) events) (all_hear ticks c events)
  where
    by_test : (b : Bool) → hears c event ≡ b → AllHear ticks (next ticks c event) (heard ticks (next ticks c event) events) → AllHear ticks c (heard ticks c events)
        → AllHear ticks c (elim b [ true ↦ event ∷ heard ticks (next ticks c event) events | false ↦ heard ticks c events ])
    by_test true h here there = (h, here)
    by_test false h here there = there

pub neither : (a b : Bool) → (a || b) ≡ false → (a ≡ false) × (b ≡ false)
neither true b e = absurd (false≢true (sym e))
neither false b e = (refl, e)

along : (ticks : Ticks) (end other : Connection → End) (x : Section) (events : List Event) (c : Connection) (left : List DataUnit) → AreSides end other → x.head.other < REFERENCES
    → end (follow ticks c events) ≡ wire x → AllHear ticks c events → StaysApart ticks x.head other c events → list_any is_reset (outs_along ticks c events) ≡ false
    → Kept x.head end other c left → Kept x.head end other (follow ticks c events) (left ++ units_on x.head (outs_along ticks c events))
unfolding follow AllHear StaysApart outs_along connection_step
along ticks end other x [] c left sides fits is hear apart no_reset kept = subst (Kept x.head end other c) (sym (ap (λ (units : List DataUnit). left ++ units) (nothing_on x.head) ∙ append-nil left)) kept
along ticks end other x (event ∷ events) c left sides fits is hear apart no_reset kept =
    let r = connection_step ticks c event in
    let d = next ticks c event in
    let last = follow ticks d events in
    let more = outs_along ticks d events in
    let none_of = neither (list_any is_reset r.1) (list_any is_reset more) (sym (list_any-append is_reset r.1 more) ∙ no_reset) in
    let after : StaysPut (end d) (wire x) = subst (λ e. StaysPut (end d) e) is (of_end StaysPut end other d last sides (along_place ticks d events)) in
    let hop : IsHop ticks x end other c event = record {
      sides = sides;
      heard = hear.0;
      apart = apart_at ticks x.head end other c event sides apart.0 (apart_first ticks x.head other d events apart.1);
      none = none_of.0;
      fits = fits;
      placed = placed ticks c event end other x sides after;
    } in
    let one = kept_step ticks c event end other x left hop kept in
    let rest = along ticks end other x events d (left ++ units_on x.head r.1) sides fits is hear.1 apart.1 none_of.1 one in
    subst (Kept x.head end other last) (append_assoc left (units_on x.head r.1) (units_on x.head more) ∙ ap (λ (units : List DataUnit). left ++ units) (sym (joined_on x.head r.1 more))) rest
  where
    placed : (ticks : Ticks) (c : Connection) (event : Event) (end other : Connection → End) (x : Section) → AreSides end other → StaysPut (end (next ticks c event)) (wire x) → IsPlaced ticks x end c event
    placed ticks c event end other x sides after =
        let a = acted ticks c event in
        let d = next ticks c event in
        let goes : StaysPut (end c) (end a) = of_end StaysPut end other c a sides (event_place ticks event c) in
        let left : StaysPut (end a) (end d) = of_end StaysPut end other a d sides (after_place ticks (event_step ticks c event)) in
        let acted_put = end_then (end a) (end d) (wire x) left after in
        record { before = end_then (end c) (end a) (wire x) goes acted_put; goes = goes; acted = acted_put; after = after }

pub left_along : LeftAlong
unfolding Within
left_along terms event answer references c events end other x credit opening class sides is fits apart no_reset =
    let o = opening_begins terms event answer references c credit opening in
    let empty = opening_empty terms (wish_of terms event) answer references c opening in
    let empty_other : got_at (other c) ≡ [] = none_there end other c sides empty in
    let hears = heard terms.ticks c events in
    let begun : Kept x.head end other c [] = record {
      in_step = o.0;
      class = class;
      empty = (λ early. empty.0, λ early. empty.1);
      within = (subst UnitsWithin (sym empty.0) tt, subst UnitsWithin (sym empty.1) tt);
      unreached = λ y here unreached. empty_other;
      first = sym (ap (take (passed_at (other c))) empty_other ∙ take-nil {A = DataUnit} (passed_at (other c)));
    } in (along terms.ticks end other x hears c [] sides fits is (all_hear terms.ticks c events) apart no_reset begun).first
  where
    none_there : (end other : Connection → End) (c : Connection) → AreSides end other → (got_at c.this ≡ []) × (got_at c.that ≡ []) → got_at (other c) ≡ []
    none_there end other c this_and_that empty = empty.1
    none_there end other c that_and_this empty = empty.0
