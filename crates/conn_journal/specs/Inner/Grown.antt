-- An entry with what comes of its event.
use Rattle.std.specs.Prelude.{◌≡◌, ℕ, List, Option}
use Rattle.relay_base.specs.declared.words.Event.{Event}
use Rattle.relay_base.specs.declared.words.Output.{Output}
use Rattle.plant_core.specs.Plant.{PlantState}
use Rattle.plant_core.specs.declared.entry.Asked.{Asked}
use Rattle.plant_core.specs.declared.entry.Entry.{Entry}
use Rattle.plant_core.specs.declared.terms.LaneHead.{LaneHead}
use Rattle.plant_core.specs.Asking.{answer_in}
use Rattle.section_model.specs.Opening.{wish_of}
use Rattle.section_coupling.specs.Duos.{taken_after}
use Rattle.conn_journal.specs.declared.journal.Context.{Context}
use Rattle.conn_journal.specs.declared.journal.Turn.{Turn}
use Rattle.conn_journal.specs.Inner.Remnants.{Remnant}
use Rattle.conn_journal.specs.Inner.Stands.{Stands}
use Rattle.section_model.specs.Journals.{lane_of}
use Rattle.conn_journal.specs.Lanes.{conn_asked_of}
use Rattle.conn_journal.specs.Inner.Changes.{Fits, Takes, changed}
use Rattle.conn_journal.specs.Inner.Views.{OpeningsState}
use Rattle.conn_journal.specs.Inner.Turns.{opened_in, outs_in, keeps_in}

-- what comes of an event: the routing that it asks, the outputs, and what is kept then, where it stood for these openings before
pub record Comes (plant : PlantState) (head : LaneHead) (number : ℕ) (event : Event) (keeps : List Remnant) (before after : OpeningsState) (routing : Option Asked) (outputs : List Output) : Type 0 where
  pub asked : routing ≡ conn_asked_of head plant event
  pub outs : outputs ≡ outs_in (lane_of head number) keeps event (wish_of head.terms event) (answer_in routing)
  pub taken : after.taken ≡ taken_after before.taken event
  pub lane : after.slots.lane ≡ before.slots.lane
  pub freeze : after.slots.freeze ≡ before.slots.freeze
  pub stands : Stands (keeps_in (lane_of head number) keeps event (wish_of head.terms event) (answer_in routing)) after

-- the openings of a lane before, which take references of its number and freeze as its head says
pub record StandsIn (head : LaneHead) (number : ℕ) (keeps : List Remnant) (o : OpeningsState) : Type 0 where
  pub stands : Stands keeps o
  pub lane : o.slots.lane ≡ number
  pub freeze : o.slots.freeze ≡ head.terms.ticks.freeze

-- one more entry, with what comes of its event
abbrev pub Grows : PlantState → LaneHead → ℕ → OpeningsState → OpeningsState → Entry → Type 0
Grows plant head number before after entry =
    (keeps : List Remnant) → StandsIn head number keeps before
    → Comes plant head number entry.event keeps before after entry.asked entry.outs

-- what comes of an event in a lane, as the code has it: a change that can be made, by which a new connection takes its references
pub record TurnsInto (plant : PlantState) (lane : Context) (event : Event) (before : OpeningsState) (turn : Turn) : Type 0 where
  pub comes : (keeps : List Remnant) → StandsIn lane.head.now lane.number keeps before
      → Fits turn.change before
      × Comes plant lane.head.now lane.number event keeps before (changed turn.change before) turn.asked turn.outs
  pub takes : (keeps : List Remnant) → StandsIn lane.head.now lane.number keeps before
      → Takes (opened_in (lane_of lane.head.now lane.number) keeps (wish_of lane.head.now.terms event) (answer_in turn.asked)).connection turn.change
