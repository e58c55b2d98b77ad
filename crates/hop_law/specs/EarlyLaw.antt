-- Before a connection is set up no unit came in (Q.714, 3.1): at an end that was asked for the connection, or that asks for it. And no end is so again
-- after it was set up, or is over.
use Rattle.std.specs.Prelude.{◌≡◌, ℕ, List, [], Option, Some}
use Rattle.relay_base.specs.declared.words.Event.{Event}
use Rattle.plant_core.specs.declared.answer.Answer.{Answer}
use Rattle.plant_core.specs.declared.terms.Terms.{Terms}
use Rattle.plant_core.specs.declared.terms.Ticks.{Ticks}
use Rattle.section_model.specs.Ends.{End, Connection}
use Rattle.section_model.specs.Step.{connection_step}
use Rattle.section_model.specs.Opening.{wish_of, opened}
use Rattle.section_model.specs.Lane.{follow}
use Rattle.connection_law.specs.InStep.{Stage, asked, asking, connected, over, stage_at, got_at}

-- neither set up nor over
abbrev pub IsBefore : Stage → Type 0
IsBefore asked = Unit {0}
IsBefore asking = Unit {0}
IsBefore connected = ⊥
IsBefore over = ⊥

abbrev pub IsEarly : End → Type 0
IsEarly e = IsBefore (stage_at e)

abbrev pub WasEarly : End → End → Type 0
WasEarly before after = IsEarly after → IsEarly before

abbrev pub IsEmptyEarly : End → Type 0
IsEmptyEarly e = IsEarly e → got_at e ≡ []

pub record EarlyLaw : Type 0 where
  -- over one step, whatever the event is
  pub was_early :
      (ticks : Ticks) (c : Connection) (event : Event) → let d = (connection_step ticks c event).0 in WasEarly c.this d.this × WasEarly c.that d.that
  -- from an opening on
  pub is_empty :
      (terms : Terms) (event : Event) (answer : Option Answer) (references : List ℕ) (c : Connection) (events : List Event) →
      (opened terms (wish_of terms event) answer references).connection ≡ Some c →
      (let d = follow terms.ticks c events in IsEmptyEarly d.this × IsEmptyEarly d.that)
