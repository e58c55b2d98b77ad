-- What comes in at a section by any event.
use Rattle.std.proofs.Common.{◌≡◌, ◌⊎◌, inl, inr, ℕ, ◌==◌, ◌&&◌, ◌||◌, Bool, true, false, List, [], ◌++◌, Option, Some, None, refl, sym, ◌∙◌, ap, subst, append-nil}
use Rattle.std.specs.List.{list_any}
use Rattle.std.proofs.lemmas.Bool.{false≢true}
use Rattle.relay_base.specs.declared.words.Event.{Event}
use Rattle.relay_base.specs.declared.words.Event.TheVariants.{Message as Arrived, Asked as Requested, Tick}
use Rattle.section_model.specs.declared.cell.SectionState.TheVariants.{Up}
use Rattle.section_model.specs.Parameters.{Arrival, arrival_in}
use Rattle.section_model.specs.Ends.{End, wire, DataUnit, Section, Connection, is_up}
use Rattle.section_model.specs.Step.{is_named, names, hears, connection_step}
use Rattle.section_model.specs.Lane.{next, fed, part_by}
use Rattle.hop_law.specs.Units.{carries, units_by, units_for}
use Rattle.connection_law.specs.InStep.{got_at}
use Rattle.connection_law.proofs.Flow.Flowing.{either}
use Rattle.hop_law.specs.ClearingLaw.{is_reset, SendsReset}
use Rattle.hop_law.specs.ClosingLaw.{IsNoOpening, StaysClosed}
use Rattle.hop_law.specs.LeavingLaw.{AreSides, this_and_that, that_and_this}
use Rattle.hop_law.specs.PlaceLaw.{StaysPut}
use Rattle.hop_law.proofs.Closing.{no_opening}
use Rattle.hop_law.proofs.Passing.{second_true}
use Rattle.hop_law.specs.TakenAlong.{brought_to, Fits}
use Rattle.hop_law.proofs.Along.{of_end}
use Rattle.hop_law.proofs.Taken.{only_up, is_for_it, step_takes}
use Rattle.hop_law.specs.ComingIn.{UnitsComeIn, SectionsStayShut}
use Rattle.hop_law.proofs.Hearing.{by_hearing}
use Rattle.hop_law.proofs.Section.{put_same}

-- What names an end is heard.

pub named_by : (reference : ℕ) (c : Connection) (end other : Connection → End) → AreSides end other → is_named reference (end c) ≡ true → names (Some reference) c ≡ true
named_by reference c end other this_and_that named = rw named refl
named_by reference c end other that_and_this named = rw named (or_true (is_named reference c.this))
  where
    or_true : (b : Bool) → (b || true) ≡ true
    or_true true = refl
    or_true false = refl

-- so what isn't heard brings nothing to a section
unheard_brings : (c : Connection) (event : Event) (end other : Connection → End) (x : Section) → AreSides end other → end c ≡ wire x → hears c event ≡ false
    → brought_to (wire x) event ≡ []
unfolding hears units_for
unheard_brings c (Arrived point sls bytes) end other x sides is h =
    either (λ (units : List DataUnit). units ≡ []) (is_up x.head.state) _ _ (λ up. by_arrival (only_up x.head.state up) (arrival_in bytes) refl) (λ _. refl)
  where
    by_arrival : x.head.state ≡ Up → (a : Option Arrival) → arrival_in bytes ≡ a → units_by x.head.mine a ≡ []
    by_arrival up None e = refl
    by_arrival up (Some a) e =
        either (λ (units : List DataUnit). units ≡ []) (carries a.occasion && a.parameters.dlr == x.head.mine) _ _
        (λ carried. absurd (false≢true (sym h ∙ is_heard a e up (second_true (carries a.occasion) (a.parameters.dlr == x.head.mine) carried)))) (λ _. refl)
      where
        is_heard : (a : Arrival) → arrival_in bytes ≡ Some a → x.head.state ≡ Up → (a.parameters.dlr == x.head.mine) ≡ true → hears c (Arrived point sls bytes) ≡ true
        is_heard a e up same =
            rw e (named_by a.parameters.dlr c end other sides (subst (λ f. is_named a.parameters.dlr f ≡ true) (sym is) (is_for_it a.parameters.dlr x.head.mine x.head.state same up)))
unheard_brings c (Requested ssn r) end other x sides is h = refl
unheard_brings c Tick end other x sides is h = refl

pub units_come_in : UnitsComeIn
units_come_in ticks c event end other x y sound sides is after fits no_reset = by_event after no_reset
  where
    by_event : end (fed ticks c event) ≡ wire y → list_any is_reset (part_by ticks event c) ≡ false → y.windows.got ≡ x.windows.got ++ brought_to (wire x) event
    by_event =
        by_hearing (λ d outs. end d ≡ wire y → list_any is_reset outs ≡ false → y.windows.got ≡ x.windows.got ++ brought_to (wire x) event) ticks c event
        (λ h after no_reset. sym (ap got_at after) ∙ subst (λ e. got_at (end (next ticks c event)) ≡ got_at e ++ brought_to e event) is
        (step_takes ticks c event end other x sides h (subst (λ e. StaysPut e (wire x)) (sym is) (put_same (wire x))) sound.in_step sound.early sound.references
        (subst (λ e. Fits e event) (sym is) fits) sound.class no_reset))
        (λ h same _. sym (ap got_at same) ∙ (ap got_at is ∙ (sym (append-nil x.windows.got)
        ∙ ap (λ (units : List DataUnit). x.windows.got ++ units) (sym (unheard_brings c event end other x sides is h)))))

-- No section is reset or opens again.

closed_same : (x y : Section) → wire x ≡ wire y → IsNoOpening x.head.state y.head.state
closed_same x y same = subst (λ (e : End). StaysClosed (wire x) e) same (λ not. (not, λ takes. takes))

pub sections_stay_shut : SectionsStayShut
sections_stay_shut ticks c event end other x y sound sides is after no_reset = by_event after no_reset
  where
    by_law : (let r = connection_step ticks c event in SendsReset r.1 ⊎ (StaysClosed c.this r.0.this × StaysClosed c.that r.0.that))
        → end (next ticks c event) ≡ wire y → list_any is_reset (connection_step ticks c event).1 ≡ false → IsNoOpening x.head.state y.head.state
    by_law (inl reset) after no_reset = absurd (false≢true (sym no_reset ∙ reset))
    by_law (inr closed) after no_reset =
        let d = next ticks c event in
        let here : StaysClosed (end c) (end d) = of_end StaysClosed end other c d sides closed in
        subst (λ e. StaysClosed (wire x) e) after (subst (λ e. StaysClosed e (end d)) is here)

    by_event : end (fed ticks c event) ≡ wire y → list_any is_reset (part_by ticks event c) ≡ false → IsNoOpening x.head.state y.head.state
    by_event =
        by_hearing (λ d outs. end d ≡ wire y → list_any is_reset outs ≡ false → IsNoOpening x.head.state y.head.state) ticks c event
        (λ h after no_reset. by_law (no_opening ticks c event sound.in_step sound.class) after no_reset)
        (λ h same no_reset. closed_same x y (sym is ∙ same))
