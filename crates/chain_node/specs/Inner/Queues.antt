-- The queue from a node to a neighbour, as the code has it.
use Rattle.std.specs.Prelude.{◌≡◌, ℕ, List, ◌++◌}
use Rattle.relay_base.specs.declared.words.Event.{Event}

-- the messages that wait, how many were given, and how many can be put without memory
pub record QueueState : Type 0 where
  pub waiting : List Event
  pub given : ℕ
  pub room : ℕ

-- a queue is the same, but for its room
pub record IsSameQueue (old new : QueueState) : Type 0 where
  pub waiting : new.waiting ≡ old.waiting
  pub given : new.given ≡ old.given

-- these messages more wait in it
pub record HasMore (more : List Event) (old new : QueueState) : Type 0 where
  pub waiting : new.waiting ≡ old.waiting ++ more
  pub given : new.given ≡ old.given
