-- When a section takes units (Q.714, 3.1, 3.3 and 3.7): it was asked for the connection, asks for it, or is up. One that is over never comes up again,
-- and none is reset but with RSR or RSC sent.
use Rattle.std.specs.Prelude.{◌≡◌, ◌⊎◌, Bool, true, false}
use Rattle.relay_base.specs.declared.words.Event.{Event}
use Rattle.plant_core.specs.declared.terms.Ticks.{Ticks}
use Rattle.section_model.specs.declared.cell.SectionState.{SectionState}
use Rattle.section_model.specs.declared.cell.SectionState.TheVariants.{Asked, Asking, Up, Resetting}
use Rattle.section_model.specs.Ends.{End, wire, owner, Connection}
use Rattle.section_model.specs.Step.{connection_step}
use Rattle.connection_law.specs.InStep.{class_at, IsInStep}
use Rattle.hop_law.specs.ClassLaw.{IsOfAClass}
use Rattle.hop_law.specs.ClearingLaw.{SendsReset}

abbrev pub may_take : SectionState → Bool
may_take Asked = true
may_take Asking = true
may_take Up = true
may_take _ = false

abbrev pub is_resetting : SectionState → Bool
is_resetting Resetting = true
is_resetting _ = false

-- from a state that is no reset to a later one: it is none either, and units are taken in it only where they were before
abbrev pub IsNoOpening : SectionState → SectionState → Type 0
IsNoOpening before after = is_resetting before ≡ false → (is_resetting after ≡ false) × (may_take after ≡ true → may_take before ≡ true)

abbrev pub StaysClosed : End → End → Type 0
StaysClosed (wire x) (wire y) = IsNoOpening x.head.state y.head.state
StaysClosed (owner u) (owner v) = Unit {0}
StaysClosed _ _ = ⊥

-- The law, whatever the event is.
abbrev pub NoOpening : Type 0
NoOpening =
    (ticks : Ticks) (c : Connection) (event : Event) → IsInStep c → IsOfAClass (class_at c.this) →
    (let r = connection_step ticks c event in SendsReset r.1 ⊎ (StaysClosed c.this r.0.this × StaysClosed c.that r.0.that))
