-- The other end of a connection stays apart from a point, but by CC from it.
use Rattle.std.proofs.Common.{◌≡◌, ◌≢◌, ◌⊎◌, inl, inr, ℕ, Bool, true, false, Option, Some, None, refl, sym, ◌∙◌, ap}
use Rattle.relay_base.specs.declared.words.Event.{Event}
use Rattle.relay_base.specs.declared.words.Event.TheVariants.{Message as Arrived, Asked as Requested, Tick}
use Rattle.section_model.specs.Parameters.{Arrival, arrival_in}
use Rattle.section_model.specs.Ends.{End, wire, owner, SectionHead, Section, Connection, is_reached}
use Rattle.section_model.specs.Step.{hears}
use Rattle.section_model.specs.Lane.{next}
use Rattle.hop_law.specs.LeavingLaw.{AreSides, this_and_that, that_and_this, IsApart}
use Rattle.hop_law.specs.PlaceLaw.{StaysPut}
use Rattle.hop_law.proofs.Placing.{step_place}
use Rattle.hop_law.specs.Confirming.{IsStill, ByArrival, ByConfirm}
use Rattle.hop_law.proofs.Along.{of_other}
use Rattle.hop_law.proofs.Confirming.{becomes_known}
use Rattle.hop_law.specs.Apart.{Confirms, ConfirmsFrom, KeepsApart}
use Rattle.hop_law.proofs.Hearing.{by_hearing}

pub sides_turned : (end other : Connection → End) → AreSides end other → AreSides other end
sides_turned end other this_and_that = that_and_this
sides_turned end other that_and_this = this_and_that

-- by CC the section is at the point that CC came from
confirmed_from : (point : ℕ) (event : Event) (x z : Section) → (ConfirmsFrom point (wire x) event → ⊥) → ByConfirm event x.head z.head → z.head.point ≢ point
confirmed_from point (Arrived from sls bytes) x z not by = λ at. not (of_arrival (arrival_in bytes) by at)
  where
    of_arrival : (a : Option Arrival) → ByArrival from a x.head z.head → z.head.point ≡ point → (from ≡ point) × Confirms (wire x) a
    of_arrival None by at = absurd by
    of_arrival (Some a) by at = (sym by.point ∙ at, (by.confirmed, ap (λ (mine : ℕ). Some mine) (sym by.named)))
confirmed_from point (Requested ssn r) x z not by = absurd by
confirmed_from point Tick x z not by = absurd by

apart_after : (y : SectionHead) (event : Event) (e f : End) → StaysPut e f → ((x z : Section) → e ≡ wire x → f ≡ wire z → is_reached x.head.state ≡ false → IsStill x.head z.head ⊎ ByConfirm event x.head z.head)
    → (ConfirmsFrom y.point e event → ⊥) → IsApart y e → IsApart y f
apart_after y event (owner u) (owner v) put only not apart = tt
apart_after y event (owner u) (wire z) put only not apart = absurd put
apart_after y event (wire x) (owner v) put only not apart = absurd put
apart_after y event (wire x) (wire z) put only not apart = by_state (is_reached x.head.state) refl
  where
    by_way : IsStill x.head z.head ⊎ ByConfirm event x.head z.head → z.head.point ≢ y.point
    by_way (inl still) = λ at. apart (sym still.1 ∙ at)
    by_way (inr confirmed) = confirmed_from y.point event x z not confirmed

    by_state : (b : Bool) → is_reached x.head.state ≡ b → z.head.point ≢ y.point
    by_state true reached = λ at. apart (sym (put.1 reached).point ∙ at)
    by_state false unknown = by_way (only x z refl refl unknown)

pub keeps_apart : KeepsApart
keeps_apart ticks c event end other y sides apart not = by_hearing (λ d outs. IsApart y (other d)) ticks c event heard (λ _. apart)
  where
    heard : hears c event ≡ true → IsApart y (other (next ticks c event))
    heard h =
        let d = next ticks c event in
        apart_after y event (other c) (other d) (of_other StaysPut end other c d sides (step_place ticks c event))
        (λ x z before after unknown. becomes_known.only_by ticks c event other end x z h (sides_turned end other sides) before after unknown) not apart
