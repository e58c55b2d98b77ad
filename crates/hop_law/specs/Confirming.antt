-- How a section that asks for a connection comes to know its other end (Q.714, 3.1.4): by CC for its reference, and by nothing else.
use Rattle.std.specs.Prelude.{IsTrue, ◌≡◌, ◌⊎◌, ℕ, Bool, true, false, List, Option, Some, None}
use Rattle.relay_base.specs.declared.words.Event.{Event}
use Rattle.relay_base.specs.declared.words.Event.TheVariants.{Message as Arrived}
use Rattle.plant_core.specs.declared.terms.Ticks.{Ticks}
use Rattle.section_model.specs.declared.cell.Occasion.{Occasion}
use Rattle.section_model.specs.declared.cell.Occasion.TheVariants as on
use Rattle.section_model.specs.declared.cell.SectionState.TheVariants.{Up, Ending, Gone}
use Rattle.section_model.specs.Parameters.{Arrival, arrival_in}
use Rattle.section_model.specs.Ends.{End, wire, SectionHead, Section, Connection, is_reached}
use Rattle.section_model.specs.Step.{is_named, hears, connection_step}
use Rattle.hop_law.specs.TakingLaw.{StandsAt}
use Rattle.hop_law.specs.LeavingLaw.{AreSides}

-- CC for the section came from a point: that is the section's point now, and the references are each other's. It is up, in the class that CC names, or
-- it is released.
pub record IsConfirmed (from : ℕ) (a : Arrival) (before after : SectionHead) : Type 0 where
  pub confirmed : a.occasion ≡ on.Cc
  pub named : a.parameters.dlr ≡ before.mine
  pub point : after.point ≡ from
  pub other : after.other ≡ a.parameters.slr
  pub state : ((after.state ≡ Up) × (after.class ≡ a.parameters.class)) ⊎ (after.state ≡ Ending)

abbrev pub ByArrival : ℕ → Option Arrival → SectionHead → SectionHead → Type 0
ByArrival from None before after = ⊥
ByArrival from (Some a) before after = IsConfirmed from a before after

abbrev pub ByConfirm : Event → SectionHead → SectionHead → Type 0
ByConfirm (Arrived from sls bytes) before after = ByArrival from (arrival_in bytes) before after
ByConfirm _ before after = ⊥

-- The other end isn't known still, or the section is over, and its point stays.
abbrev pub IsStill : SectionHead → SectionHead → Type 0
IsStill before after = ((is_reached after.state ≡ false) ⊎ (after.state ≡ Gone)) × (after.point ≡ before.point)

-- In one step of what the connection hears, a section whose other end isn't known stays one, or it is over, or CC came.
abbrev pub OnlyByConfirm : Type 0
OnlyByConfirm =
    (ticks : Ticks) (c : Connection) (event : Event) (end other : Connection → End) (x y : Section) →
    IsTrue (hears c event) → AreSides end other → end c ≡ wire x → end (connection_step ticks c event).0 ≡ wire y → is_reached x.head.state ≡ false →
    IsStill x.head y.head ⊎ ByConfirm event x.head y.head

-- CC, or CREF
abbrev pub is_answer : Occasion → Bool
is_answer on.Cc = true
is_answer on.Cref = true
is_answer _ = false

-- And by either of them for it the section is over, or knows its other end.
abbrev pub ByAnswer : Type 0
ByAnswer =
    (ticks : Ticks) (c : Connection) (point sls : ℕ) (bytes : List ℕ) (a : Arrival) (x y : Section) (end : Connection → End) →
    arrival_in bytes ≡ Some a → is_answer a.occasion ≡ true → is_named a.parameters.dlr (wire x) ≡ true → StandsAt a.parameters.dlr c x end →
    is_reached x.head.state ≡ false → end (connection_step ticks c (Arrived point sls bytes)).0 ≡ wire y →
    ((y.head.state ≡ Gone) × (y.head.point ≡ x.head.point)) ⊎ IsConfirmed point a x.head y.head

pub record BecomesKnown : Type 0 where
  pub only_by : OnlyByConfirm
  pub by_answer : ByAnswer
