-- When what came in at an end is cleared (Q.714, 3.7): once the connection is set up by a reset alone, of class 3, for which RSR or RSC leaves in the
-- same step. Before it is set up nothing came in.
use Rattle.std.specs.Prelude.{◌≡◌, ◌⊎◌, ◌||◌, Bool, true, List}
use Rattle.std.specs.List.{list_any}
use Rattle.relay_base.specs.declared.words.Event.{Event}
use Rattle.relay_base.specs.declared.words.Output.{Output}
use Rattle.plant_core.specs.declared.terms.Ticks.{Ticks}
use Rattle.section_model.specs.Ends.{Connection}
use Rattle.section_model.specs.Step.{connection_step}
use Rattle.connection_law.specs.InStep.{class_at, got_at, IsInStep}
use Rattle.connection_law.specs.Messages.{is_of_type}
use Rattle.hop_law.specs.TextLaw.{Begins}
use Rattle.hop_law.specs.ClassLaw.{IsOfAClass}
use Rattle.hop_law.specs.EarlyLaw.{IsEmptyEarly}

-- RSR (Q.713, 4.14), or RSC (4.15)
abbrev pub is_reset : Output → Bool
is_reset out = is_of_type 0x0D out || is_of_type 0x0E out

abbrev pub SendsReset : List Output → Type 0
SendsReset outs = list_any is_reset outs ≡ true

-- what came in at either end goes on
abbrev pub BothGoOn : Connection → Connection → Type 0
BothGoOn before after = Begins (got_at before.this) (got_at after.this) × Begins (got_at before.that) (got_at after.that)

-- The law, whatever the event is.
abbrev pub NoClearing : Type 0
NoClearing =
    (ticks : Ticks) (c : Connection) (event : Event) →
    IsInStep c → IsOfAClass (class_at c.this) → IsEmptyEarly c.this → IsEmptyEarly c.that →
    (let r = connection_step ticks c event in ((class_at c.this ≡ 3) × SendsReset r.1) ⊎ BothGoOn c r.0)
