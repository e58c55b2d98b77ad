-- The trail of a connection along nodes in a row (Q.714, 3.1): at node 1 the opening by a user's request, and at each next node the opening by the CR that
-- the one before sent.
use Rattle.std.specs.Prelude.{◌≡◌, ℕ, ◌+◌, Bool, true, false, List, [], ◌∷◌, ◌++◌, map, Some}
use Rattle.relay_base.specs.declared.words.Event.{Event}
use Rattle.relay_base.specs.declared.words.Output.{Output}
use Rattle.plant_core.specs.declared.entry.Entry.{Entry}
use Rattle.plant_core.specs.declared.terms.TheConstants.{USUAL_TICKS}
use Rattle.section_model.specs.Ends.{End, wire, owner, Connection}
use Rattle.section_model.specs.Opening.{wish_of}
use Rattle.section_model.specs.Lane.{Lane, heard, follow, opening_of, answer_of}
use Rattle.section_model.specs.Laws.{openings_from}
use Rattle.section_model.specs.Journals.{lane_of}
use Rattle.hop_law.specs.LeftAlong.{outs_along}
use Rattle.chain_step.specs.Run.{NodeState, RunState, head_of, messages_in, node_at}

-- A connection at one node: the entries of the journal before it, the entry that opened it, the connection as it was opened, and the entries since.
pub record Leg : Type 0 where
  pub before : List Entry
  pub by : Entry
  pub first : Connection
  pub since : List Entry

abbrev pub lane_at : ℕ → Lane
lane_at i = lane_of (head_of i) 0

pub record IsLeg (i : ℕ) (node : NodeState) (leg : Leg) : Type 0 where
  pub journal : node.journal ≡ leg.before ++ leg.by ∷ leg.since
  pub opens :
      (opening_of (lane_at i) (openings_from (lane_at i) [] leg.before) (wish_of (head_of i).terms leg.by.event) (answer_of leg.by)).connection
      ≡ Some leg.first

-- what the connection heard
abbrev pub heard_on : Leg → List Event
heard_on leg = heard USUAL_TICKS leg.first (map (λ e. e.event) leg.since)

-- the connection as it is now
abbrev pub now_on : Leg → Connection
now_on leg = follow USUAL_TICKS leg.first (heard_on leg)

-- all that it sent and told
abbrev pub outs_on : Leg → List Output
outs_on leg = leg.by.outs ++ outs_along USUAL_TICKS leg.first (heard_on leg)

-- The leg at the node after node i: its event is the one message that the entry which opened the leg at node i sent there, CR.
abbrev pub IsNext : ℕ → Leg → Leg → Type 0
IsNext i leg next = messages_in i (i + 1) leg.by.outs ≡ next.by.event ∷ []

-- a leg at node i, and those at the nodes after it
abbrev pub AreLegs : RunState → ℕ → Leg → List Leg → Type 0
AreLegs r i leg [] = IsLeg i (node_at i r.nodes) leg
AreLegs r i leg (next ∷ more) = IsLeg i (node_at i r.nodes) leg × IsNext i leg next × AreLegs r (i + 1) next more

abbrev pub is_user : End → Bool
is_user (wire x) = false
is_user (owner u) = true

-- a trail, from a user of node 1, as far as these legs go
abbrev pub IsTrail : RunState → Leg → List Leg → Type 0
IsTrail r leg more = (is_user leg.first.this ≡ true) × AreLegs r 1 leg more

-- The trail goes no further than these legs: none at the next node follows the last of them.
abbrev pub IsWhole : RunState → ℕ → Leg → List Leg → Type 0
IsWhole r i leg [] = (next : Leg) → IsLeg (i + 1) (node_at (i + 1) r.nodes) next → IsNext i leg next → ⊥
IsWhole r i leg (next ∷ more) = IsWhole r (i + 1) next more

-- the leg at the last of these nodes
abbrev pub last_of : Leg → List Leg → Leg
last_of leg [] = leg
last_of leg (next ∷ more) = last_of next more
