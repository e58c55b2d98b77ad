-- The control lane with its publisher.
use Rattle.std.specs.Prelude.{◌≡◌, ◌+◌, ◌++◌, List, length}
use Rattle.relay_base.specs.declared.words.Stamp.{Stamp}
use Rattle.plant_core.specs.declared.entry.ControlEntry.{ControlEntry}
use Rattle.plant_core.specs.declared.entry.ControlEvent.{ControlEvent}
use Rattle.gtt_editions.specs.Standing.{Publishing}
use Rattle.capture_form.specs.Events.{Stamped}
use Rattle.scmg.specs.Lane.{ControlState, AddsEntry, GrowAlike}
use Rattle.scmg.specs.Lane.{changes_of as changes_by}
use Rattle.right_book.specs.Own.{control_pairs_of}

-- the control lane, and its publisher
pub record ControlSeatState : Type 0 where
  pub lane : ControlState
  pub publisher : Publishing

-- what was published before the phase and in it is as many groups of changes as the control lane published
abbrev pub IsOpen : Publishing → ControlState → Type 0
IsOpen p lane = p.opened.number + length p.seen.changes ≡ length (changes_by lane)

-- the control lane takes an event, and its publisher publishes the change, where there is one
pub record ControlTakes (stamp : Stamp) (event : ControlEvent) (old new : ControlSeatState) : Type 0 where
  pub adds : AddsEntry stamp event old.lane new.lane
  pub grows : GrowAlike old.publisher.seen.changes new.publisher.seen.changes (changes_by old.lane) (changes_by new.lane)
  pub first : new.publisher.opened.number ≡ old.publisher.opened.number

-- nothing was published, and the control lane is as before
pub record IsUnchanged (old new : ControlSeatState) : Type 0 where
  pub lane : new.lane ≡ old.lane
  pub published : new.publisher.seen.changes ≡ old.publisher.seen.changes
  pub first : new.publisher.opened.number ≡ old.publisher.opened.number

-- the control lane went on with entries of these events, and its publisher published their changes
pub record ControlGoneOn (Own : Stamped → Type 0) (old new : ControlSeatState) : Type 0 where
  pub entries : List ControlEntry
  pub journal : new.lane.journal ≡ old.lane.journal ++ entries
  pub own : Own (control_pairs_of entries)
  pub head_kept : new.lane.head ≡ old.lane.head
  pub start_kept : new.lane.start ≡ old.lane.start
  pub grown : GrowAlike old.publisher.seen.changes new.publisher.seen.changes (changes_by old.lane) (changes_by new.lane)
  pub first : new.publisher.opened.number ≡ old.publisher.opened.number
