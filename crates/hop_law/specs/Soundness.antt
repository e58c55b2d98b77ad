-- What holds of each connection from its opening on, and stays so whatever happens (Q.714, 3.1, 3.3.2 and 3.5): its ends are in step, its class is 2
-- or 3, nothing came in before it was set up, and its ends have not the same reference.
use Rattle.std.specs.Prelude.{◌≡◌, ◌≢◌, false, []}
use Rattle.relay_base.specs.declared.words.Event.{Event}
use Rattle.plant_core.specs.declared.terms.Ticks.{Ticks}
use Rattle.section_model.specs.Ends.{Connection}
use Rattle.section_model.specs.Step.{hears}
use Rattle.section_model.specs.Lane.{fed, part_by, reference_of}
use Rattle.connection_law.specs.InStep.{class_at, IsInStep}
use Rattle.hop_law.specs.ClassLaw.{IsOfAClass}
use Rattle.hop_law.specs.EarlyLaw.{IsEmptyEarly}

pub record IsSound (c : Connection) : Type 0 where
  pub in_step : IsInStep c
  pub class : IsOfAClass (class_at c.this)
  pub early : IsEmptyEarly c.this × IsEmptyEarly c.that
  pub references : reference_of c.this ≢ reference_of c.that

-- The law, of any event, whether the connection hears it or not.
abbrev pub StaysSound : Type 0
StaysSound = (ticks : Ticks) (c : Connection) (event : Event) → IsSound c → IsSound (fed ticks c event)

-- By what it doesn't hear it stays as it is, and sends nothing.
abbrev pub UnheardIsIdle : Type 0
UnheardIsIdle =
    (ticks : Ticks) (c : Connection) (event : Event) → hears c event ≡ false → (fed ticks c event ≡ c) × (part_by ticks event c ≡ [])
