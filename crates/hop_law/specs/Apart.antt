-- When the other end of a connection becomes a section to a point (Q.714, 3.1.4): by CC for it from that point alone.
use Rattle.std.specs.Prelude.{◌≡◌, ℕ, Option, Some, None}
use Rattle.relay_base.specs.declared.words.Event.{Event}
use Rattle.relay_base.specs.declared.words.Event.TheVariants.{Message as Arrived}
use Rattle.plant_core.specs.declared.terms.Ticks.{Ticks}
use Rattle.section_model.specs.declared.cell.Occasion.TheVariants as on
use Rattle.section_model.specs.Parameters.{Arrival, arrival_in}
use Rattle.section_model.specs.Ends.{End, SectionHead, Connection}
use Rattle.section_model.specs.Lane.{fed, reference_of}
use Rattle.hop_law.specs.LeavingLaw.{AreSides, IsApart}

-- CC for an end
abbrev pub Confirms : End → Option Arrival → Type 0
Confirms e None = ⊥
Confirms e (Some a) = (a.occasion ≡ on.Cc) × (reference_of e ≡ Some a.parameters.dlr)

-- and from a point
abbrev pub ConfirmsFrom : ℕ → End → Event → Type 0
ConfirmsFrom point e (Arrived from sls bytes) = (from ≡ point) × Confirms e (arrival_in bytes)
ConfirmsFrom point e _ = ⊥

-- The law, of any event, whether the connection hears it or not.
abbrev pub KeepsApart : Type 0
KeepsApart =
    (ticks : Ticks) (c : Connection) (event : Event) (end other : Connection → End) (y : SectionHead) →
    AreSides end other → IsApart y (other c) → (ConfirmsFrom y.point (other c) event → ⊥) → IsApart y (other (fed ticks c event))
