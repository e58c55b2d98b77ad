-- What a control lane keeps beside its journal.
use Rattle.std.specs.Prelude.{◌≡◌, ℕ, Bool, List, [], ◌∷◌, filter, length, IsTrue}
use Rattle.plant_core.specs.declared.entry.ControlEntry.{ControlEntry}
use Rattle.plant_core.specs.Plant.{RoutingData, PlantState, is_among}
use Rattle.plant_core.specs.Changes.{HasRoomFor}
use Rattle.scmg.specs.declared.effect.Act.{Act}
use Rattle.scmg.specs.declared.effect.Act.TheVariants.{Publish}
use Rattle.scmg.specs.declared.head.ControlHead.{ControlHead}
use Rattle.scmg.specs.Control.{Control, subsystems, start_of_control, after_entry, IsControlJournal, changes_in}

-- what the entries leave, one after another
abbrev pub after_entries : ControlHead → Control → List ControlEntry → Control
after_entries head c [] = c
after_entries head c (entry ∷ more) = after_entries head (after_entry head c entry) more

-- the users, each once, by rising number
abbrev pub in_order : List ℕ → List ℕ
in_order users = filter (λ ssn. is_among ssn users) subsystems

-- what a lane keeps beside its journal: the state, the plant of its routing data, and whether the next act needs memory but in the plant
pub record KeptState : Type 0 where
  pub control : Control
  pub plant : PlantState
  pub has_room : Bool

abbrev pub HasPlantRoom : Act → PlantState → Type 0
HasPlantRoom (Publish group) plant = HasRoomFor group.changes plant
HasPlantRoom _ plant = Unit {0}

-- an act can be done without memory
pub record HasRoomToDo (act : Act) (kept : KeptState) : Type 0 where
  pub plant : HasPlantRoom act kept.plant
  pub others : IsTrue kept.has_room

-- the journal is legal, and what is kept is what its entries leave
pub record IsLane (head : ControlHead) (start : RoutingData) (journal : List ControlEntry) (kept : KeptState) : Type 0 where
  pub legal : IsControlJournal head start journal
  pub control : kept.control ≡ after_entries head (start_of_control start) journal
  pub edition : kept.plant.edition ≡ length (changes_in head start journal)
