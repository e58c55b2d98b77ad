-- What a control lane is seen as.
use Rattle.std.specs.Prelude.{◌≡◌, List, [], ◌∷◌, ◌++◌}
use Rattle.relay_base.specs.declared.words.Stamp.{Stamp}
use Rattle.plant_core.specs.declared.change.Group.{Group}
use Rattle.plant_core.specs.declared.entry.ControlEvent.{ControlEvent}
use Rattle.plant_core.specs.declared.entry.ControlEntry.{ControlEntry}
use Rattle.plant_core.specs.Plant.{RoutingData}
use Rattle.scmg.specs.declared.head.ControlHead.{ControlHead}
use Rattle.scmg.specs.Control.{changes_in}

-- its head, the routing data that it began with, and its journal
pub record ControlState : Type 0 where
  pub head : ControlHead
  pub start : RoutingData
  pub journal : List ControlEntry

abbrev pub changes_of : ControlState → List Group
changes_of lane = changes_in lane.head lane.start lane.journal

-- an event was taken: the journal has one entry more
pub record AddsEntry (stamp : Stamp) (event : ControlEvent) (old new : ControlState) : Type 0 where
  pub entry : ControlEntry
  pub journal : new.journal ≡ old.journal ++ entry ∷ []
  pub stamped : entry.stamp ≡ stamp
  pub of_event : entry.event ≡ event
  pub head : new.head ≡ old.head
  pub start : new.start ≡ old.start

-- both lists have grown by the same groups of changes
pub record GrowAlike (old new from to : List Group) : Type 0 where
  pub more : List Group
  pub here : new ≡ old ++ more
  pub there : to ≡ from ++ more
