-- The messages that a connection sends to a point by one event (Q.714, 3.5): the units for a reference among them are those that its section to that
-- point sends there, each in a message of its class. The point and the reference are those of a head `y`.
use Rattle.std.specs.Prelude.{◌≡◌, ℕ, ◌==◌, ◌&&◌, true, List, Option, Some, None}
use Rattle.std.specs.List.{AllByRecursion}
use Rattle.relay_base.specs.declared.words.Event.{Event}
use Rattle.plant_core.specs.declared.terms.Ticks.{Ticks}
use Rattle.section_model.specs.Parameters.{Arrival, arrival_in}
use Rattle.section_model.specs.Ends.{End, wire, SectionHead, Section, Connection}
use Rattle.section_model.specs.Lane.{fed, part_by}
use Rattle.hop_law.specs.Units.{carries, units_on}
use Rattle.connection_law.specs.InStep.{class_at}
use Rattle.hop_law.specs.LeavingLaw.{AreSides, IsApart}
use Rattle.hop_law.specs.Waiting.{Waiting, messages_to, units_waiting}
use Rattle.hop_law.specs.TakenAlong.{IsOfClass}
use Rattle.hop_law.specs.Soundness.{IsSound}

-- a message is of a class, if it brings a unit for a reference
abbrev pub BringsOfClass : ℕ → ℕ → Option Arrival → Type 0
BringsOfClass reference class None = Unit {0}
BringsOfClass reference class (Some a) = (carries a.occasion && a.parameters.dlr == reference) ≡ true → IsOfClass a.occasion class

abbrev pub BringOfClass : ℕ → ℕ → List Waiting → Type 0
BringOfClass reference class queue = AllByRecursion (λ (m : Waiting). BringsOfClass reference class (arrival_in m.bytes)) queue

-- The laws, of any event, whether the connection hears it or not: if the other end is no section to the point, before and after.
abbrev pub SendsOfClass : Type 0
SendsOfClass =
    (ticks : Ticks) (c : Connection) (event : Event) (end other : Connection → End) (y : SectionHead) (reference : ℕ) →
    IsSound c → AreSides end other → IsApart y (other c) → IsApart y (other (fed ticks c event)) →
    BringOfClass reference (class_at (end (fed ticks c event))) (messages_to y.point (part_by ticks event c))

abbrev pub UnitsGo : Type 0
UnitsGo =
    (ticks : Ticks) (c : Connection) (event : Event) (end other : Connection → End) (x : Section) (y : SectionHead) →
    IsSound c → AreSides end other → end c ≡ wire x → y.sls ≡ x.head.sls → IsApart y (other c) → IsApart y (other (fed ticks c event)) →
    (let outs = part_by ticks event c in units_waiting y.other (messages_to y.point outs) ≡ units_on y outs)
