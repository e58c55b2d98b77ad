-- What a connection lane is seen as, and what it does with an event.
use Rattle.std.specs.Prelude.{◌≡◌, ℕ, List, [], ◌∷◌, ◌++◌, Option}
use Rattle.relay_base.specs.declared.words.Event.{Event}
use Rattle.relay_base.specs.declared.words.Stamp.{Stamp}
use Rattle.plant_core.specs.Plant.{PlantState}
use Rattle.plant_core.specs.declared.entry.Asked.{Asked}
use Rattle.plant_core.specs.declared.entry.Entry.{Entry}
use Rattle.plant_core.specs.declared.terms.LaneHead.{LaneHead}
use Rattle.plant_core.specs.Asking.{asked_at}
use Rattle.section_model.specs.Opening.{wish_of, question_of}

pub record ConnLaneState : Type 0 where
  pub head : LaneHead
  pub number : ℕ
  pub journal : List Entry

-- the routing that an event asks, at the edition of these routing data
abbrev pub conn_asked_of : LaneHead → PlantState → Event → Option Asked
conn_asked_of head plant e = asked_at plant.edition plant.routing (question_of (wish_of head.terms e))

-- an event was taken with these routing data: the journal has one entry more
pub record ConnLaneTakes (plant : PlantState) (stamp : Stamp) (e : Event) (old new : ConnLaneState) : Type 0 where
  pub entry : Entry
  pub journal : new.journal ≡ old.journal ++ entry ∷ []
  pub stamped : entry.stamp ≡ stamp
  pub of_event : entry.event ≡ e
  pub answered : entry.asked ≡ conn_asked_of old.head plant e
  pub head : new.head ≡ old.head
  pub number : new.number ≡ old.number
