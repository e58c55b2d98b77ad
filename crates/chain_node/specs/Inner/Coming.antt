-- What comes of an event in a node.
use Rattle.std.specs.Prelude.{◌≡◌, ℕ, ◌≤◌, ◌+◌, ◌-◌, length}
use Rattle.relay_base.specs.declared.words.Event.{Event}
use Rattle.plant_core.specs.Plant.{PlantState}
use Rattle.conn_journal.specs.Lanes.{ConnLaneState}
use Rattle.conn_journal.specs.Outcomes.{next_outputs, next_connection, taken_by}
use Rattle.chain_step.specs.Run.{tells_in, messages_in}
use Rattle.chain_node.specs.declared.coming.Coming.{Coming}
use Rattle.chain_node.specs.declared.kept.Kept.{Kept}
use Rattle.chain_node.specs.declared.mail.Mail.{Mail}
use Rattle.chain_node.specs.Inner.Queues.{IsSameQueue}
use Rattle.chain_node.specs.Inner.Taking.{AreSame}

pub record IsComing (number : ℕ) (lane : ConnLaneState) (plant : PlantState) (e : Event) (coming : Coming) : Type 0 where
  pub tells : coming.mail.tells.items ≡ tells_in number (next_outputs plant e lane)
  pub ahead : coming.mail.ahead.items ≡ messages_in number (number + 1) (next_outputs plant e lane)
  pub back : coming.mail.back.items ≡ messages_in number (number - 1) (next_outputs plant e lane)
  pub this : coming.this ≡ taken_by (λ c. c.this) (next_connection plant e lane)
  pub that : coming.that ≡ taken_by (λ c. c.that) (next_connection plant e lane)

-- what a node keeps is the same, but for its room
pub record IsSameKept (old new : Kept) : Type 0 where
  pub ahead : IsSameQueue old.ahead new.ahead
  pub back : IsSameQueue old.back new.back
  pub references : AreSame old.references new.references

-- there is room for what comes of an event
pub record HasRoom (mail : Mail) (kept : Kept) : Type 0 where
  pub to_next : length mail.ahead.items ≤ kept.ahead.room
  pub to_before : length mail.back.items ≤ kept.back.room
  pub both : 2 ≤ kept.references.room
