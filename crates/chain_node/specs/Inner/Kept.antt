-- What a node keeps.
use Rattle.std.specs.Prelude.{◌≡◌, ℕ, ◌≤◌, ◌+◌, ◌-◌, List, length, drop, flat_map}
use Rattle.relay_base.specs.declared.words.Event.{Event}
use Rattle.plant_core.specs.Plant.{PlantState}
use Rattle.plant_core.specs.declared.entry.Entry.{Entry}
use Rattle.conn_journal.specs.Lanes.{ConnLaneState}
use Rattle.conn_journal.specs.Outcomes.{openings_in}
use Rattle.chain_step.specs.Run.{messages_in}
use Rattle.chain_step.specs.Fresh.{references_in}
use Rattle.chain_node.specs.Inner.Queues.{QueueState}
use Rattle.chain_node.specs.Inner.Taking.{AreTaken}
use Rattle.chain_node.specs.declared.kept.Kept.{Kept}

-- the messages of a journal that wait in a queue
pub record Waits (q : QueueState) (messages : List Event) : Type 0 where
  pub waiting : q.waiting ≡ drop q.given messages
  pub given : q.given ≤ length messages

abbrev pub sent_of : ℕ → ℕ → List Entry → List Event
sent_of own to journal = flat_map (λ e. messages_in own to e.outs) journal

-- the references of a lane's connections
abbrev pub taken_in : ConnLaneState → List ℕ
taken_in lane = flat_map references_in (openings_in lane)

pub record IsNode (number : ℕ) (plant : PlantState) (lane : ConnLaneState) (kept : Kept) : Type 0 where
  pub least : 1 ≤ number
  pub most : number ≤ 8
  pub point : lane.head.terms.own ≡ number
  pub first_lane : lane.number ≡ 0
  pub edition : plant.edition ≡ 0
  pub ahead : Waits kept.ahead (sent_of number (number + 1) lane.journal)
  pub back : Waits kept.back (sent_of number (number - 1) lane.journal)
  pub gave : AreTaken kept.references (taken_in lane)
