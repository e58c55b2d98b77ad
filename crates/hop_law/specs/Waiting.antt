-- The units among messages that wait between two nodes: those of a connection are known by the reference that they are for.
use Rattle.std.specs.Prelude.{IsTrue, ◌≡◌, ℕ, ◌==◌, List, [], ◌∷◌, if◌then◌else◌}
use Rattle.std.specs.List.{flat_map}
use Rattle.relay_base.specs.declared.words.Event.{Event}
use Rattle.relay_base.specs.declared.words.Output.{Output}
use Rattle.relay_base.specs.declared.words.Output.TheVariants.{Sent}
use Rattle.plant_core.specs.declared.terms.Ticks.{Ticks}
use Rattle.section_model.specs.Ends.{End, wire, DataUnit, Section, Connection}
use Rattle.section_model.specs.Step.{hears, connection_step}
use Rattle.hop_law.specs.Units.{units_for, units_on}
use Rattle.connection_law.specs.InStep.{IsInStep}
use Rattle.connection_law.specs.Messages.{acted}
use Rattle.hop_law.specs.LeavingLaw.{AreSides, IsApart}

-- a message that waits: its link selection and its octets
pub record Waiting : Type 0 where
  pub sls : ℕ
  pub bytes : List ℕ

-- of outputs, the messages to a point
abbrev pub message_to : ℕ → Output → List Waiting
message_to point (Sent to sls bytes) = if to == point then record { sls = sls; bytes = bytes } ∷ [] else []
message_to point _ = []

unfoldable pub messages_to : ℕ → List Output → List Waiting
messages_to point outs = flat_map (message_to point) outs

-- the units for a reference that wait
unfoldable pub units_waiting : ℕ → List Waiting → List DataUnit
units_waiting reference queue = flat_map (λ (m : Waiting). units_for reference m.bytes) queue

-- The law, of one step and one section: whatever the reference is, the units for it among the messages to a point are those that the section sends
-- there, if the other end is no section to that point.
abbrev pub UnitsWait : Type 0
UnitsWait =
    (ticks : Ticks) (c : Connection) (event : Event) (end other : Connection → End) (x : Section) (point reference : ℕ) →
    IsTrue (hears c event) → IsInStep c → AreSides end other → end c ≡ wire x →
    (let y = record x.head { point = point; other = reference } in
    let outs = (connection_step ticks c event).1 in
    IsApart y (other c) → IsApart y (other (acted ticks c event)) → units_waiting reference (messages_to point outs) ≡ units_on y outs)
