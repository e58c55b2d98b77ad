-- What would come of an event that a connection lane takes next, with these routing data.
use Rattle.std.specs.Prelude.{◌≡◌, ℕ, List, [], Option, Some, None}
use Rattle.relay_base.specs.declared.words.Event.{Event}
use Rattle.relay_base.specs.declared.words.Output.{Output}
use Rattle.plant_core.specs.Plant.{PlantState}
use Rattle.plant_core.specs.Asking.{answer_in}
use Rattle.section_model.specs.Ends.{End, Connection}
use Rattle.section_model.specs.Opening.{wish_of}
use Rattle.section_model.specs.Journals.{lane_of}
use Rattle.section_model.specs.Lane.{Opening, opening_of, legal_outputs, reference_of}
use Rattle.section_model.specs.Laws.{openings_from}
use Rattle.conn_journal.specs.Lanes.{ConnLaneState, conn_asked_of}
use Rattle.conn_journal.specs.declared.outcome.Outcome.{Outcome}

-- the connections that the entries of the lane opened
abbrev pub openings_in : ConnLaneState → List Opening
openings_in lane = openings_from (lane_of lane.head lane.number) [] lane.journal

abbrev pub next_outputs : PlantState → Event → ConnLaneState → List Output
next_outputs plant e lane =
    legal_outputs (lane_of lane.head lane.number) (openings_in lane) e (answer_in (conn_asked_of lane.head plant e))

-- the connection that the event opens, if it does
abbrev pub next_connection : PlantState → Event → ConnLaneState → Option Connection
next_connection plant e lane =
    (opening_of (lane_of lane.head lane.number) (openings_in lane) (wish_of lane.head.terms e) (answer_in (conn_asked_of lane.head plant e))).connection

-- the local reference that an end of it takes, if it takes one (Q.714, 3.3.2)
abbrev pub taken_by : (Connection → End) → Option Connection → Option ℕ
taken_by end None = None
taken_by end (Some c) = reference_of (end c)

-- the outputs of the event, and the references that the ends take of the connection that it opens
pub record IsOutcome (plant : PlantState) (e : Event) (lane : ConnLaneState) (outcome : Outcome) : Type 0 where
  pub outs : outcome.outs ≡ next_outputs plant e lane
  pub this : outcome.this ≡ taken_by (λ c. c.this) (next_connection plant e lane)
  pub that : outcome.that ≡ taken_by (λ c. c.that) (next_connection plant e lane)
