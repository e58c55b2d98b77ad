-- When a section takes the unit of a message (Q.714, 3.5.1 and 3.5.2): in class 2 each one that comes from its point while it is up; in class 3
-- each such one too, or it asks for a reset.
use Rattle.std.specs.Prelude.{◌≡◌, ◌⊎◌, ℕ, true, false, List, [], ◌∷◌, ◌++◌, Some}
use Rattle.std.specs.List.{list_any}
use Rattle.relay_base.specs.declared.words.Event.TheVariants.{Message as Arrived}
use Rattle.relay_base.specs.declared.words.Output.{Output}
use Rattle.plant_core.specs.declared.terms.Ticks.{Ticks}
use Rattle.section_model.specs.declared.cell.Occasion.TheVariants as on
use Rattle.section_model.specs.declared.cell.SectionState.TheVariants.{Up}
use Rattle.section_model.specs.Parameters.{Arrival, arrival_in}
use Rattle.section_model.specs.Ends.{End, wire, Section, Connection}
use Rattle.section_model.specs.Step.{is_named, connection_step}
use Rattle.hop_law.specs.Units.{unit_of}
use Rattle.connection_law.specs.InStep.{got_at, IsInStep}
use Rattle.connection_law.specs.Messages.{is_of_type}

-- RSR is among the outputs (Q.713, 4.14)
abbrev pub AsksReset : List Output → Type 0
AsksReset outs = list_any (is_of_type 0x0D) outs ≡ true

-- the section is up, the message is for it, and comes from its point
pub record IsFor (from : ℕ) (a : Arrival) (x : Section) : Type 0 where
  pub up : x.head.state ≡ Up
  pub point : x.head.point ≡ from
  pub named : is_named a.parameters.dlr (wire x) ≡ true

-- the one end of a connection, and the other one where the message isn't for the one
pub data StandsAt (reference : ℕ) (c : Connection) (x : Section) : (Connection → End) → Type 0 where
  at_this : c.this ≡ wire x → StandsAt reference c x (λ d. d.this)
  at_that : c.that ≡ wire x → is_named reference c.this ≡ false → StandsAt reference c x (λ d. d.that)

abbrev pub IsTaken : Section → Arrival → End → Type 0
IsTaken x a after = got_at after ≡ x.windows.got ++ unit_of a ∷ []

pub record UnitsAreTaken : Type 0 where
  -- DT1 in class 2
  pub dt1 :
      (ticks : Ticks) (c : Connection) (point sls : ℕ) (bytes : List ℕ) (a : Arrival) (x : Section) (end : Connection → End) →
      IsInStep c → arrival_in bytes ≡ Some a → a.occasion ≡ on.Dt1 → IsFor point a x → StandsAt a.parameters.dlr c x end → x.head.class ≡ 2 →
      IsTaken x a (end (connection_step ticks c (Arrived point sls bytes)).0)
  -- DT2 in class 3
  pub dt2 :
      (ticks : Ticks) (c : Connection) (point sls : ℕ) (bytes : List ℕ) (a : Arrival) (x : Section) (end : Connection → End) →
      IsInStep c → arrival_in bytes ≡ Some a → a.occasion ≡ on.Dt2 → IsFor point a x → StandsAt a.parameters.dlr c x end → x.head.class ≡ 3 →
      (let r = connection_step ticks c (Arrived point sls bytes) in IsTaken x a (end r.0) ⊎ AsksReset r.1)
