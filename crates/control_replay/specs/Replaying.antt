-- What a control lane that takes the events of a capture again is seen as.
use Rattle.std.specs.Prelude.{List, []}
use Rattle.plant_core.specs.declared.entry.ControlEntry.{ControlEntry}
use Rattle.node_head.specs.declared.head.Head.{Head}
use Rattle.capture_form.specs.Events.{Stamped}

-- the head and the phases of the capture, and the journal so far
pub record ControlReplaying : Type 0 where
  pub head : Head
  pub phases : List (List Stamped)
  pub journal : List ControlEntry

-- before the first event
abbrev pub before_first : Head → List (List Stamped) → ControlReplaying
before_first head phases = record { head = head; phases = phases; journal = [] }
