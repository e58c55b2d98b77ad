-- What came in at a section, event by event.
use Rattle.std.proofs.Common.{◌≡◌, ◌≢◌, ◌⊎◌, inl, inr, ℕ, ◌==◌, ◌&&◌, ◌||◌, not, Bool, true, false, List, [], ◌∷◌, ◌++◌, Option, Some, None, refl, sym, ◌∙◌, ap, subst, append_assoc, append-nil, eq-eqb}
use Rattle.std.specs.List.{list_any}
use Rattle.std.proofs.lemmas.Bool.{false≢true, eqb-true}
use Rattle.std.proofs.lemmas.List.Folds.{list_any-append}
use Rattle.relay_base.specs.declared.words.Event.{Event}
use Rattle.relay_base.specs.declared.words.Event.TheVariants.{Message as Arrived, Asked as Requested, Tick}
use Rattle.relay_base.specs.declared.words.Request.{Request}
use Rattle.relay_base.specs.declared.words.Request.TheVariants as request
use Rattle.relay_base.specs.declared.words.Output.{Output}
use Rattle.plant_core.specs.declared.terms.Ticks.{Ticks}
use Rattle.section_model.specs.declared.cell.Occasion.{Occasion}
use Rattle.section_model.specs.declared.cell.Occasion.TheVariants as on
use Rattle.section_model.specs.declared.cell.SectionState.{SectionState}
use Rattle.section_model.specs.declared.cell.SectionState.TheVariants.{Up}
use Rattle.section_model.specs.Parameters.{Arrival, arrival_in}
use Rattle.section_model.specs.Ends.{End, wire, owner, DataUnit, Section, Connection, is_up, is_gone}
use Rattle.section_model.specs.Step.{hears, is_named, connection_step}
use Rattle.section_model.specs.Opening.{wish_of}
use Rattle.section_model.specs.Lane.{next, heard, follow, reference_of}
use Rattle.hop_law.specs.Units.{carries, unit_of, units_by, units_for}
use Rattle.connection_law.specs.InStep.{class_at, got_at, IsInStep}
use Rattle.connection_law.specs.Messages.{is_of_type, stepped}
use Rattle.connection_law.proofs.Flow.Flowing.{either}
use Rattle.connection_law.proofs.Flow.Opening.{opening_begins}
use Rattle.connection_law.proofs.Flow.Step.{step_keeps}
use Rattle.connection_law.proofs.Reference.Step.{step_stays}
use Rattle.hop_law.specs.TextLaw.{Begins}
use Rattle.hop_law.specs.ClassLaw.{IsOfAClass}
use Rattle.hop_law.specs.PassingLaw.{IsOpen, StaysOrClears, Brings, Passing, none, on_this, on_that}
use Rattle.hop_law.specs.PlaceLaw.{StaysPut}
use Rattle.hop_law.specs.TakingLaw.{AsksReset, IsFor, StandsAt, at_this, at_that, IsTaken}
use Rattle.hop_law.specs.LeavingLaw.{AreSides, this_and_that, that_and_this}
use Rattle.hop_law.specs.EarlyLaw.{IsEmptyEarly}
use Rattle.hop_law.specs.ClearingLaw.{is_reset, SendsReset}
use Rattle.hop_law.proofs.Accepting.{units_are_taken}
use Rattle.hop_law.proofs.Passing.{first_true, second_true, units_pass}
use Rattle.hop_law.proofs.Placing.{along_place}
use Rattle.hop_law.proofs.Early.{step_early, opening_empty}
use Rattle.hop_law.proofs.Classes.{classes_stay}
use Rattle.hop_law.proofs.Clearing.{no_clearing}
use Rattle.hop_law.specs.LeftAlong.{outs_along}
use Rattle.hop_law.specs.TakenAlong.{brought_to, brought_along, IsOfClass, ArrivalFits, Fits, AllFit, TakenAlong}
use Rattle.hop_law.proofs.Along.{section_at, of_end, empty_first, stays_early, AllHear, all_hear, neither}

-- What comes in at one end by an event.

data EndPassing (event : Event) (before after : End) : Type 0 where
  stays : StaysOrClears before after → EndPassing event before after
  comes : (units : List DataUnit) → Brings event before units → IsOpen before → got_at after ≡ got_at before ++ units → EndPassing event before after

of_passing : (event : Event) (end other : Connection → End) (c d : Connection) (outs : List Output) → AreSides end other → Passing (Brings event) c d outs → EndPassing event (end c) (end d)
of_passing event end other c d outs this_and_that (none p) = stays p.this
of_passing event end other c d outs that_and_this (none p) = stays p.that
of_passing event end other c d outs this_and_that (on_this units p) = comes units p.brought p.is_open p.comes
of_passing event end other c d outs that_and_this (on_this units p) = stays p.stays
of_passing event end other c d outs this_and_that (on_that units p) = stays p.stays
of_passing event end other c d outs that_and_this (on_that units p) = comes units p.brought p.is_open p.comes

-- what isn't cleared stays
stays_same : (before after : End) → StaysOrClears before after → Begins (got_at before) (got_at after) → got_at after ≡ got_at before ++ []
stays_same before after (inl same) begins = same ∙ sym (append-nil (got_at before))
stays_same before after (inr cleared) begins = cleared ∙ rw (empty_first (got_at before) begins.more (sym begins.is ∙ cleared)) refl

-- A message for the section.

any_reset : (outs : List Output) → list_any (is_of_type 0x0D) outs ≡ true → list_any is_reset outs ≡ true
any_reset [] is = absurd (false≢true is)
any_reset (out ∷ outs) is = by_first (is_of_type 0x0D out) (is_of_type 0x0E out) is (any_reset outs)
  where
    by_first : (a b : Bool) → (a || list_any (is_of_type 0x0D) outs) ≡ true → (list_any (is_of_type 0x0D) outs ≡ true → list_any is_reset outs ≡ true)
        → ((a || b) || list_any is_reset outs) ≡ true
    by_first true b is more = refl
    by_first false true is more = refl
    by_first false false is more = more is

pub is_for_it : (reference mine : ℕ) (s : SectionState) → (reference == mine) ≡ true → s ≡ Up → (mine == reference && not (is_gone s)) ≡ true
is_for_it reference mine s same up = rw (up, eq-eqb mine reference (sym (eqb-true reference mine same))) refl

not_named : (e : End) (reference : ℕ) → reference_of e ≢ Some reference → is_named reference e ≡ false
not_named (owner u) reference differs = refl
not_named (wire z) reference differs = by_test (z.head.mine == reference) refl
  where
    by_test : (b : Bool) → (z.head.mine == reference) ≡ b → (b && not (is_gone z.head.state)) ≡ false
    by_test false e = refl
    by_test true e = absurd (differs (ap (λ (mine : ℕ). Some mine) (eqb-true z.head.mine reference e)))

pub stands : (reference : ℕ) (c : Connection) (y : Section) (end other : Connection → End) → AreSides end other → end c ≡ wire y → (reference == y.head.mine) ≡ true → reference_of c.this ≢ reference_of c.that
    → StandsAt reference c y end
stands reference c y end other this_and_that is same differs = at_this is
stands reference c y end other that_and_this is same differs =
    at_that is (not_named c.this reference (λ named. differs (named ∙ (ap (λ (mine : ℕ). Some mine) (eqb-true reference y.head.mine same) ∙ sym (ap reference_of is)))))

-- a unit for a section that is up
taken_up : (ticks : Ticks) (c : Connection) (point sls : ℕ) (bytes : List ℕ) (a : Arrival) (y : Section) (end other : Connection → End) → AreSides end other → IsInStep c → end c ≡ wire y
    → reference_of c.this ≢ reference_of c.that → arrival_in bytes ≡ Some a → y.head.state ≡ Up → (carries a.occasion && a.parameters.dlr == y.head.mine) ≡ true
    → ArrivalFits point y.head (Some a) → list_any is_reset (connection_step ticks c (Arrived point sls bytes)).1 ≡ false
    → got_at (end (stepped ticks c (Arrived point sls bytes))) ≡ y.windows.got ++ unit_of a ∷ []
taken_up ticks c point sls bytes a y end other sides k is differs arrives up carried fit no_reset =
    let same = second_true (carries a.occasion) (a.parameters.dlr == y.head.mine) carried in
    let fits = fit carried in
    by_occasion (record { up = up; point = fits.0; named = is_for_it a.parameters.dlr y.head.mine y.head.state same up })
    (stands a.parameters.dlr c y end other sides is same differs) a.occasion refl (first_true (carries a.occasion) _ carried) fits.1
  where
    by_taken : IsTaken y a (end (connection_step ticks c (Arrived point sls bytes)).0) ⊎ AsksReset (connection_step ticks c (Arrived point sls bytes)).1
        → IsTaken y a (end (connection_step ticks c (Arrived point sls bytes)).0)
    by_taken (inl taken) = taken
    by_taken (inr asked) = absurd (false≢true (sym no_reset ∙ any_reset (connection_step ticks c (Arrived point sls bytes)).1 asked))

    by_occasion : IsFor point a y → StandsAt a.parameters.dlr c y end → (o : Occasion) → a.occasion ≡ o → carries o ≡ true → IsOfClass o y.head.class
        → IsTaken y a (end (connection_step ticks c (Arrived point sls bytes)).0)
    by_occasion for stands on.Dt1 e is class = units_are_taken.dt1 ticks c point sls bytes a y end k arrives e for stands class
    by_occasion for stands on.Dt2 e is class = by_taken (units_are_taken.dt2 ticks c point sls bytes a y end k arrives e for stands class)
    by_occasion for stands _ e is class = absurd (false≢true is)

-- a message without a unit for it
none_taken : (point sls : ℕ) (bytes : List ℕ) (y : Section) (after : End) → units_for y.head.mine bytes ≡ [] → EndPassing (Arrived point sls bytes) (wire y) after
    → Begins y.windows.got (got_at after) → got_at after ≡ y.windows.got ++ []
none_taken point sls bytes y after nothing (stays s) begins = stays_same (wire y) after s begins
none_taken point sls bytes y after nothing (comes units b is_open e) begins = e ∙ ap (λ (units : List DataUnit). y.windows.got ++ units) (b ∙ nothing)

-- a section that isn't up
closed : (point sls : ℕ) (bytes : List ℕ) (y : Section) (after : End) → is_up y.head.state ≡ false → EndPassing (Arrived point sls bytes) (wire y) after
    → Begins y.windows.got (got_at after) → got_at after ≡ y.windows.got ++ []
closed point sls bytes y after down (stays s) begins = stays_same (wire y) after s begins
closed point sls bytes y after down (comes units b is_open e) begins = absurd (false≢true (sym down ∙ ap is_up is_open))

-- another event
other_event : (event : Event) (y : Section) (after : End) → ((units : List DataUnit) → Brings event (wire y) units → ⊥) → EndPassing event (wire y) after
    → Begins y.windows.got (got_at after) → got_at after ≡ y.windows.got ++ []
other_event event y after nothing (stays s) begins = stays_same (wire y) after s begins
other_event event y after nothing (comes units b is_open e) begins = absurd (nothing units b)

pub only_up : (s : SectionState) → is_up s ≡ true → s ≡ Up
only_up Up e = refl
only_up _ e = absurd (false≢true e)

event_takes : (ticks : Ticks) (c : Connection) (event : Event) (end other : Connection → End) (y : Section) → AreSides end other → IsInStep c → end c ≡ wire y → reference_of c.this ≢ reference_of c.that
    → Fits (wire y) event → list_any is_reset (connection_step ticks c event).1 ≡ false → EndPassing event (wire y) (end (stepped ticks c event))
    → Begins y.windows.got (got_at (end (stepped ticks c event))) → got_at (end (stepped ticks c event)) ≡ y.windows.got ++ brought_to (wire y) event
unfolding units_for
event_takes ticks c (Requested ssn r) end other y sides k is differs fits no_reset passing begins =
    other_event (Requested ssn r) y (end (stepped ticks c (Requested ssn r))) (nothing r) passing begins
  where
    nothing : (r : Request) (units : List DataUnit) → Brings (Requested ssn r) (wire y) units → ⊥
    nothing (request.Send mine body) units b = b
    nothing _ units b = b
event_takes ticks c Tick end other y sides k is differs fits no_reset passing begins = other_event Tick y (end (stepped ticks c Tick)) (λ units b. b) passing begins
event_takes ticks c (Arrived point sls bytes) end other y sides k is differs fits no_reset passing begins =
    either (λ (units : List DataUnit). got_at after ≡ y.windows.got ++ units) (is_up y.head.state) _ _
    (λ up. by_arrival (only_up y.head.state up) (arrival_in bytes) refl) (λ down. closed point sls bytes y after down passing begins)
  where
    after : End
    after = end (stepped ticks c (Arrived point sls bytes))

    by_arrival : y.head.state ≡ Up → (a : Option Arrival) → arrival_in bytes ≡ a → got_at after ≡ y.windows.got ++ units_by y.head.mine a
    by_arrival up None e = none_taken point sls bytes y after (ap (units_by y.head.mine) e) passing begins
    by_arrival up (Some a) e =
        either (λ (units : List DataUnit). got_at after ≡ y.windows.got ++ units) (carries a.occasion && a.parameters.dlr == y.head.mine) _ _
        (λ carried. taken_up ticks c point sls bytes a y end other sides k is differs e up carried (subst (ArrivalFits point y.head) e (fits up)) no_reset)
        (λ other. none_taken point sls bytes y after (ap (units_by y.head.mine) e ∙ rw other refl) passing begins)

-- One step.

pub step_takes : (ticks : Ticks) (c : Connection) (event : Event) (end other : Connection → End) (x : Section) → AreSides end other → hears c event ≡ true → StaysPut (end c) (wire x) → IsInStep c
    → IsEmptyEarly c.this × IsEmptyEarly c.that → reference_of c.this ≢ reference_of c.that → Fits (end c) event → (class_at c.this ≡ 2) ⊎ (class_at c.this ≡ 3)
    → list_any is_reset (connection_step ticks c event).1 ≡ false → got_at (end (stepped ticks c event)) ≡ got_at (end c) ++ brought_to (end c) event
step_takes ticks c event end other x sides h put k empty differs fits class no_reset =
    let at = section_at (end c) x put in
    let y = at.section in
    let d = stepped ticks c event in
    let passing = of_passing event end other c d (connection_step ticks c event).1 sides (units_pass ticks c event h k) in
    subst (λ e. got_at (end d) ≡ got_at e ++ brought_to e event) (sym at.is)
    (event_takes ticks c event end other y sides k at.is differs (subst (λ e. Fits e event) at.is fits) no_reset (subst (λ e. EndPassing event e (end d)) at.is passing)
    (subst (λ e. Begins (got_at e) (got_at (end d))) at.is (begins (no_clearing ticks c event k class empty.0 empty.1))))
  where
    begins : ((class_at c.this ≡ 3) × SendsReset (connection_step ticks c event).1) ⊎ (Begins (got_at c.this) (got_at (stepped ticks c event).this) × Begins (got_at c.that) (got_at (stepped ticks c event).that))
        → Begins (got_at (end c)) (got_at (end (stepped ticks c event)))
    begins (inl reset) = absurd (false≢true (sym no_reset ∙ reset.1))
    begins (inr both) = of_end (λ e f. Begins (got_at e) (got_at f)) end other c (stepped ticks c event) sides both

pub still_differs : (ticks : Ticks) (c : Connection) (event : Event) → reference_of c.this ≢ reference_of c.that → reference_of (next ticks c event).this ≢ reference_of (next ticks c event).that
still_differs ticks c event differs = λ e. let stays = step_stays ticks c event in differs (sym stays.this.reference ∙ (e ∙ stays.that.reference))

-- Along all that is heard.

taken_from : (ticks : Ticks) (end other : Connection → End) (x : Section) (events : List Event) (c : Connection) → AreSides end other → end (follow ticks c events) ≡ wire x
    → AllHear ticks c events → AllFit ticks end c events → list_any is_reset (outs_along ticks c events) ≡ false → IsInStep c → IsOfAClass (class_at c.this) → IsEmptyEarly c.this × IsEmptyEarly c.that
    → reference_of c.this ≢ reference_of c.that → got_at (end (follow ticks c events)) ≡ got_at (end c) ++ brought_along ticks end c events
unfolding follow AllHear AllFit outs_along brought_along
taken_from ticks end other x [] c sides is hear fit no_reset k class empty differs = sym (append-nil (got_at (end c)))
taken_from ticks end other x (event ∷ events) c sides is hear fit no_reset k class empty differs =
    let r = connection_step ticks c event in
    let d = next ticks c event in
    let quiet = neither (list_any is_reset r.1) (list_any is_reset (outs_along ticks d events)) (sym (list_any-append is_reset r.1 (outs_along ticks d events)) ∙ no_reset) in
    let put : StaysPut (end c) (wire x) = subst (λ e. StaysPut (end c) e) is (of_end StaysPut end other c (follow ticks d events) sides (along_place ticks c (event ∷ events))) in
    let early = step_early ticks c event in
    let one = step_takes ticks c event end other x sides hear.0 put k empty differs fit.0 class quiet.0 in
    let rest = taken_from ticks end other x events d sides is hear.1 fit.1 quiet.1 (step_keeps ticks c event k) (classes_stay ticks c event hear.0 class)
    (stays_early c.this d.this early.0 empty.0, stays_early c.that d.that early.1 empty.1) (still_differs ticks c event differs) in
    rest ∙ (ap (λ (got : List DataUnit). got ++ brought_along ticks end d events) one ∙ append_assoc (got_at (end c)) (brought_to (end c) event) (brought_along ticks end d events))

pub taken_along : TakenAlong
taken_along terms event answer references c events end other x credit opening class sides differs is fit no_reset =
    let empty = opening_empty terms (wish_of terms event) answer references c opening in
    let hears = heard terms.ticks c events in
    sym (ap got_at is)
    ∙ (taken_from terms.ticks end other x hears c sides is (all_hear terms.ticks c events) fit no_reset (opening_begins terms event answer references c credit opening).0 class
    (λ early. empty.0, λ early. empty.1) differs
    ∙ ap (λ (got : List DataUnit). got ++ brought_along terms.ticks end c hears) (none_here end other c sides empty))
  where
    none_here : (end other : Connection → End) (c : Connection) → AreSides end other → (got_at c.this ≡ []) × (got_at c.that ≡ []) → got_at (end c) ≡ []
    none_here end other c this_and_that empty = empty.0
    none_here end other c that_and_this empty = empty.1
