-- The links between nodes in a row keep the order of messages, and lose none: what arrived at a node from a neighbour is the first of what that neighbour
-- sent there, and what waits is the rest.
use Rattle.std.specs.Prelude.{IsTrue, ◌≡◌, ℕ, ◌==◌, ◌≤◌, Bool, false, List, ◌++◌, map, filter, drop}
use Rattle.relay_base.specs.declared.words.Event.{Event}
use Rattle.relay_base.specs.declared.words.Event.TheVariants.{Message as Arrived, Asked as Requested, Tick as Ticked}
use Rattle.chain_step.specs.declared.step.Step.{Step}
use Rattle.chain_step.specs.Run.{NodeState, messages_to, neighbour, given_of, node_at, run_of}
use Rattle.chain_step.specs.Steps.{has_neighbour}
use Rattle.passage_law.specs.Nodes.{AreSteps}

-- an event is a message from a point
abbrev pub is_from : ℕ → Event → Bool
is_from from (Arrived point sls bytes) = point == from
is_from from (Requested ssn r) = false
is_from from Ticked = false

-- the messages that arrived at a node from a point
abbrev pub arrived_from : ℕ → NodeState → List Event
arrived_from from node = filter (is_from from) (map (λ e. e.event) node.journal)

-- the messages that wait from a node to the next one, or to the one before
abbrev pub all_waiting : Bool → NodeState → List Event
all_waiting forward node = drop (given_of forward node) (messages_to node (neighbour forward node.head.terms.own))

-- what the one node sent to the other is what arrived there from it, and then what waits
abbrev pub KeepsOrder : Bool → NodeState → NodeState → Type 0
KeepsOrder forward one other =
    messages_to one (neighbour forward one.head.terms.own) ≡ arrived_from one.head.terms.own other ++ all_waiting forward one

abbrev pub LinksKeepOrder : Type 0
LinksKeepOrder =
    (n i : ℕ) (forward : Bool) (steps : List Step) → AreSteps n steps → 2 ≤ n → 1 ≤ i → i ≤ n → IsTrue (has_neighbour n forward i) →
    (let nodes = (run_of n steps).nodes in KeepsOrder forward (node_at i nodes) (node_at (neighbour forward i) nodes))
