-- The protocol class of a connection (Q.713, 3.6): it stays 2 or 3, whatever the connection hears.
use Rattle.std.specs.Prelude.{IsTrue, ◌≡◌, ◌⊎◌, ℕ}
use Rattle.relay_base.specs.declared.words.Event.{Event}
use Rattle.plant_core.specs.declared.terms.Ticks.{Ticks}
use Rattle.section_model.specs.Ends.{Connection}
use Rattle.section_model.specs.Step.{hears, connection_step}
use Rattle.connection_law.specs.InStep.{class_at}

-- connection-oriented, without flow control or with it
abbrev pub IsOfAClass : ℕ → Type 0
IsOfAClass class = (class ≡ 2) ⊎ (class ≡ 3)

-- The law, of what a connection hears.
abbrev pub ClassesStay : Type 0
ClassesStay =
    (ticks : Ticks) (c : Connection) (event : Event) → IsTrue (hears c event) → IsOfAClass (class_at c.this)
    → IsOfAClass (class_at (connection_step ticks c event).0.this)
