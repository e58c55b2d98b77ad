-- The law of the local references (Q.714, release and freezing of local references): each end of a connection keeps the local reference that
-- it has, as a user's end keeps to have none, and an end that is gone stays gone, whatever the connection hears.
use Rattle.std.specs.Prelude.{◌≡◌, true, List}
use Rattle.relay_base.specs.declared.words.Event.{Event}
use Rattle.plant_core.specs.declared.terms.Ticks.{Ticks}
use Rattle.section_model.specs.Ends.{End, Connection}
use Rattle.section_model.specs.Step.{end_is_gone, connection_step}
use Rattle.section_model.specs.Lane.{reference_of, follow}

-- an end later on: its local reference is the one that it had, and once it is gone it stays so
pub record Stays (before after : End) : Type 0 where
  pub reference : reference_of after ≡ reference_of before
  pub gone : end_is_gone before ≡ true → end_is_gone after ≡ true

pub record BothStay (before after : Connection) : Type 0 where
  pub this : Stays before.this after.this
  pub that : Stays before.that after.that

-- The law over one step, whatever the event is.
abbrev pub StepStays : Type 0
StepStays = (ticks : Ticks) (c : Connection) (event : Event) → BothStay c (connection_step ticks c event).0

-- The law over any events, and so over those that the connection hears.
abbrev pub FollowingStays : Type 0
FollowingStays = (ticks : Ticks) (c : Connection) (events : List Event) → BothStay c (follow ticks c events)
