-- The run of a row of nodes, each with a point, a connection lane and routing data of its own, where neighbours are joined by one queue in each direction.
use Rattle.std.specs.Prelude.{ℕ, ◌+◌, ◌-◌, ◌==◌, ◌||◌, nat_lt, Bool, true, false, List, [], ◌∷◌, ◌++◌, length, map, flat_map, take, drop, sum_by, slice_get, slice_set, get_or, if◌then◌else◌, Option, Some, None}
use Rattle.std.specs.List.{range_with_len}
use Rattle.relay_base.specs.declared.words.Event.{Event}
use Rattle.relay_base.specs.declared.words.Event.TheVariants.{Message as Arrived, Asked as Requested, Tick as Ticked}
use Rattle.relay_base.specs.declared.words.Output.{Output}
use Rattle.relay_base.specs.declared.words.Output.TheVariants.{Sent, Told, Lost as Dropped}
use Rattle.relay_base.specs.declared.words.Tell.{Tell}
use Rattle.gtt_table.specs.declared.row.Row.{Row}
use Rattle.plant_core.specs.declared.entry.Asked.{Asked}
use Rattle.plant_core.specs.declared.entry.Entry.{Entry}
use Rattle.plant_core.specs.declared.terms.LaneHead.{LaneHead}
use Rattle.plant_core.specs.declared.terms.TheConstants.{USUAL_TICKS}
use Rattle.plant_core.specs.Asking.{asked_at, answer_in}
use Rattle.plant_core.specs.Plant.{RoutingData, start_of}
use Rattle.section_model.specs.Opening.{wish_of, question_of}
use Rattle.section_model.specs.Journals.{lane_of}
use Rattle.section_model.specs.Lane.{Opening, legal_outputs}
use Rattle.section_model.specs.Laws.{openings_from}
use Rattle.chain_step.specs.declared.terms.TheConstants.{CREDIT, USER}
use Rattle.chain_step.specs.declared.step.Step.{Step}
use Rattle.chain_step.specs.declared.step.Step.TheVariants.{Ask, Pass, Tick}

-- A node: what its lane is told, its routing data, its journal, and how many messages were given of its queue to the next node, and of its queue to the
-- one before.
pub record NodeState : Type 0 where
  pub head : LaneHead
  pub routing : RoutingData
  pub journal : List Entry
  pub ahead : ℕ
  pub back : ℕ

-- The nodes, from node 1 on, after so many steps.
pub record RunState : Type 0 where
  pub taken : ℕ
  pub nodes : List NodeState

-- The start, with n nodes.

-- node i has point i
abbrev pub head_of : ℕ → LaneHead
head_of i = record { terms = record { own = i; credit = CREDIT; ticks = USUAL_TICKS }; reassembly = USUAL_TICKS.reassembly; short = [] }

-- the first and the last node have a user
abbrev pub users_of : ℕ → ℕ → List ℕ
users_of n i = if i == 1 || i == n then USER ∷ [] else []

-- titles lead to the next node, and on to its user where that is the last one
abbrev pub row_to : ℕ → ℕ → Row
row_to n next = record {
  selector = record { gti = 4; tt = 0; np = 1; nai = 4 };
  prefix = [];
  first = record { point = next; ssn = Some USER; on_ssn = next == n };
  second = None;
}

abbrev pub rows_of : ℕ → ℕ → List Row
rows_of n i = if nat_lt i n then row_to n (i + 1) ∷ [] else []

abbrev pub routing_of : ℕ → ℕ → RoutingData
routing_of n i = record (start_of i (users_of n i)) { rows = rows_of n i }

abbrev pub first_node : ℕ → ℕ → NodeState
first_node n i = record { head = head_of i; routing = routing_of n i; journal = []; ahead = 0; back = 0 }

abbrev pub start : ℕ → RunState
start n = record { taken = 0; nodes = map (first_node n) (range_with_len 1 n) }

-- The queues. A message waits as the event by which it arrives: of the outputs of its node those that are sent to the neighbour, in order, less those
-- that were given.

abbrev pub arrives : ℕ → ℕ → Output → List Event
arrives own to (Sent point sls bytes) = if point == to then Arrived own sls bytes ∷ [] else []
arrives own to (Told ssn tell) = []
arrives own to (Dropped lost) = []

abbrev pub messages_in : ℕ → ℕ → List Output → List Event
messages_in own to outs = flat_map (arrives own to) outs

abbrev pub messages_to : NodeState → ℕ → List Event
messages_to node to = flat_map (λ e. messages_in node.head.terms.own to e.outs) node.journal

abbrev pub neighbour : Bool → ℕ → ℕ
neighbour forward i = if forward then i + 1 else i - 1

abbrev pub given_of : Bool → NodeState → ℕ
given_of forward node = if forward then node.ahead else node.back

-- the first message that waits
abbrev pub waiting : Bool → NodeState → Option Event
waiting forward node = slice_get (messages_to node (neighbour forward node.head.terms.own)) (given_of forward node)

-- how many messages wait
abbrev pub queue_length : Bool → NodeState → ℕ
queue_length forward node = length (messages_to node (neighbour forward node.head.terms.own)) - given_of forward node

-- how many wait in all queues: to the next node from each but the last, and to the one before from each but the first
abbrev pub waiting_count : RunState → ℕ
waiting_count r = sum_by (queue_length true) (take (length r.nodes - 1) r.nodes) + sum_by (queue_length false) (drop 1 r.nodes)

-- An event in a node, as the step of this number.

abbrev pub openings_of : NodeState → List Opening
openings_of node = openings_from (lane_of node.head 0) [] node.journal

abbrev pub asked_by : Event → NodeState → Option Asked
asked_by e node = asked_at 0 node.routing (question_of (wish_of node.head.terms e))

abbrev pub outputs_of : Event → NodeState → List Output
outputs_of e node = legal_outputs (lane_of node.head 0) (openings_of node) e (answer_in (asked_by e node))

abbrev pub entry_of : ℕ → Event → NodeState → Entry
entry_of number e node =
    record { stamp = record { phase = 1; link = 0; line = number }; event = e; asked = asked_by e node; outs = outputs_of e node }

abbrev pub after_event : ℕ → Event → NodeState → NodeState
after_event number e node = record node { journal = node.journal ++ entry_of number e node ∷ [] }

abbrev pub after_giving : Bool → NodeState → NodeState
after_giving forward node = if forward then record node { ahead = node.ahead + 1 } else record node { back = node.back + 1 }

-- A step.

abbrev pub node_at : ℕ → List NodeState → NodeState
node_at i nodes = get_or nodes (i - 1) (first_node 0 0)

abbrev pub with_node : ℕ → (NodeState → NodeState) → List NodeState → List NodeState
with_node i change nodes = slice_set nodes (i - 1) (change (node_at i nodes))

-- node i takes an event
abbrev pub taking : ℕ → Event → RunState → RunState
taking i e r = record { taken = r.taken + 1; nodes = with_node i (after_event (r.taken + 1) e) r.nodes }

-- the first message that waits is given to the neighbour; where none does nothing else is done
abbrev pub passing : ℕ → Bool → Option Event → RunState → RunState
passing i forward None r = record r { taken = r.taken + 1 }
passing i forward (Some e) r =
    let after : RunState = taking (neighbour forward i) e r in record after { nodes = with_node i (after_giving forward) after.nodes }

unfoldable pub after_step : RunState → Step → RunState
after_step r (Ask i request) = taking i (Requested USER request) r
after_step r (Pass i forward) = passing i forward (waiting forward (node_at i r.nodes)) r
after_step r (Tick i) = taking i Ticked r

abbrev pub after_steps : RunState → List Step → RunState
after_steps r [] = r
after_steps r (step ∷ steps) = after_steps (after_step r step) steps

-- the run of n nodes by these steps
abbrev pub run_of : ℕ → List Step → RunState
run_of n steps = after_steps (start n) steps

-- What users are told at a step, each with its node.

abbrev pub tells_of : ℕ → Output → List (ℕ × Tell)
tells_of i (Sent point sls bytes) = []
tells_of i (Told ssn tell) = (i, tell) ∷ []
tells_of i (Dropped lost) = []

abbrev pub tells_in : ℕ → List Output → List (ℕ × Tell)
tells_in i outs = flat_map (tells_of i) outs

abbrev pub tells_by_event : Event → NodeState → List (ℕ × Tell)
tells_by_event e node = tells_in node.head.terms.own (outputs_of e node)

abbrev pub tells_at : ℕ → Event → RunState → List (ℕ × Tell)
tells_at i e r = tells_by_event e (node_at i r.nodes)

abbrev pub tells_by_pass : ℕ → Option Event → RunState → List (ℕ × Tell)
tells_by_pass i None r = []
tells_by_pass i (Some e) r = tells_at i e r

unfoldable pub tells_by : Step → RunState → List (ℕ × Tell)
tells_by (Ask i request) r = tells_at i (Requested USER request) r
tells_by (Pass i forward) r = tells_by_pass (neighbour forward i) (waiting forward (node_at i r.nodes)) r
tells_by (Tick i) r = tells_at i Ticked r

-- no message waits for the pass of a step
abbrev pub has_none : Option Event → Bool
has_none None = true
has_none (Some e) = false

unfoldable pub is_idle : Step → RunState → Bool
is_idle (Ask i request) r = false
is_idle (Pass i forward) r = has_none (waiting forward (node_at i r.nodes))
is_idle (Tick i) r = false
