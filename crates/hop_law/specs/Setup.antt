-- How a connection is set up between two nodes (Q.714, 3.1), of any event, whether the connection hears it or not: a section that was asked sends CC,
-- which is read as it was meant, or a refusal, and nothing before; one that asks comes to know its other end by CC alone.
use Rattle.std.specs.Prelude.{◌≡◌, ◌≢◌, ◌⊎◌, ℕ, ◌<◌, true, false, List, [], ◌∷◌, Option, Some, None}
use Rattle.std.specs.List.{AllByRecursion}
use Rattle.relay_base.specs.declared.limits.TheConstants.{REFERENCES}
use Rattle.relay_base.specs.declared.words.Event.{Event}
use Rattle.relay_base.specs.declared.words.Event.TheVariants.{Message as Arrived}
use Rattle.plant_core.specs.declared.terms.Ticks.{Ticks}
use Rattle.section_model.specs.declared.cell.Occasion.TheVariants as on
use Rattle.section_model.specs.declared.cell.SectionState.TheVariants.{Asked, Up, Gone}
use Rattle.section_model.specs.Parameters.{Arrival, arrival_in}
use Rattle.section_model.specs.Ends.{End, wire, SectionHead, Section, Connection, is_reached}
use Rattle.section_model.specs.Lane.{fed, part_by}
use Rattle.hop_law.specs.LeavingLaw.{AreSides, IsApart}
use Rattle.hop_law.specs.Waiting.{Waiting, messages_to}
use Rattle.hop_law.specs.Confirming.{IsStill, IsConfirmed, ByConfirm, is_answer}
use Rattle.hop_law.specs.Soundness.{IsSound}

-- CC of a section that came up, as it is read
pub record IsConfirmOf (x y : SectionHead) (a : Arrival) : Type 0 where
  pub confirms : a.occasion ≡ on.Cc
  pub named : a.parameters.dlr ≡ x.other
  pub own : a.parameters.slr ≡ x.mine
  pub class : a.parameters.class ≡ y.class

-- CREF of a section that is over, where it is read
abbrev pub IsRefusal : Option Arrival → Type 0
IsRefusal None = Unit {0}
IsRefusal (Some a) = a.occasion ≡ on.Cref

-- a section before and after, and what it sent
pub data AnswersOnce (x y : SectionHead) (queue : List Waiting) : Type 0 where
  silent : y ≡ x → queue ≡ [] → AnswersOnce x y queue
  accepts :
      (m : Waiting) (a : Arrival) → y.state ≡ Up → queue ≡ m ∷ [] → arrival_in m.bytes ≡ Some a → IsConfirmOf x y a → AnswersOnce x y queue
  refuses : (m : Waiting) → y.state ≡ Gone → queue ≡ m ∷ [] → IsRefusal (arrival_in m.bytes) → AnswersOnce x y queue

abbrev pub AskedAnswers : Type 0
AskedAnswers =
    (ticks : Ticks) (c : Connection) (event : Event) (end other : Connection → End) (x y : Section) →
    IsSound c → AreSides end other → end c ≡ wire x → x.head.state ≡ Asked → end (fed ticks c event) ≡ wire y →
    x.head.mine < REFERENCES → x.head.other < REFERENCES → IsApart x.head (other (fed ticks c event)) →
    AnswersOnce x.head y.head (messages_to x.head.point (part_by ticks event c))

-- A section that wasn't asked, or has answered, sends no CC: none goes to a point to which the other end is no section.
abbrev pub IsNoConfirm : Option Arrival → Type 0
IsNoConfirm None = Unit {0}
IsNoConfirm (Some a) = a.occasion ≢ on.Cc

abbrev pub SendsNoConfirm : Type 0
SendsNoConfirm =
    (ticks : Ticks) (c : Connection) (event : Event) (end other : Connection → End) (x : Section) (y : SectionHead) →
    AreSides end other → end c ≡ wire x → x.head.state ≢ Asked → IsApart y (other c) →
    AllByRecursion (λ (m : Waiting). IsNoConfirm (arrival_in m.bytes)) (messages_to y.point (part_by ticks event c))

-- A section whose other end isn't known stays so, or it is over, or CC for it came.
abbrev pub AskingStays : Type 0
AskingStays =
    (ticks : Ticks) (c : Connection) (event : Event) (end other : Connection → End) (x y : Section) →
    AreSides end other → end c ≡ wire x → end (fed ticks c event) ≡ wire y → is_reached x.head.state ≡ false →
    IsStill x.head y.head ⊎ ByConfirm event x.head y.head

-- By CC or CREF for it the section is over, or knows its other end.
abbrev pub AskingIsAnswered : Type 0
AskingIsAnswered =
    (ticks : Ticks) (c : Connection) (point sls : ℕ) (bytes : List ℕ) (a : Arrival) (end other : Connection → End) (x y : Section) →
    IsSound c → AreSides end other → end c ≡ wire x → end (fed ticks c (Arrived point sls bytes)) ≡ wire y → is_reached x.head.state ≡ false →
    arrival_in bytes ≡ Some a → is_answer a.occasion ≡ true → a.parameters.dlr ≡ x.head.mine →
    ((y.head.state ≡ Gone) × (y.head.point ≡ x.head.point)) ⊎ IsConfirmed point a x.head y.head
