-- The law of one hop of a connection, in the run of nodes in a row (Q.714, 3.1 and 3.5): two neighbours on a trail, and the messages that wait between them.
use Rattle.std.specs.Prelude.{◌≡◌, ℕ, ◌+◌, ◌≤◌, ◌<◌, Bool, true, false, List, [], ◌∷◌}
use Rattle.std.specs.List.{list_any, flat_map}
use Rattle.relay_base.specs.declared.limits.TheConstants.{REFERENCES}
use Rattle.relay_base.specs.declared.words.Event.{Event}
use Rattle.relay_base.specs.declared.words.Event.TheVariants.{Message as Arrived, Asked as Requested, Tick as Ticked}
use Rattle.section_model.specs.Ends.{End, wire, owner}
use Rattle.hop_law.specs.ClearingLaw.{is_reset}
use Rattle.hop_law.specs.Waiting.{Waiting}
use Rattle.hop_law.specs.Hop.{IsCarried}
use Rattle.chain_step.specs.declared.step.Step.{Step}
use Rattle.chain_step.specs.Fresh.{all_fresh}
use Rattle.chain_step.specs.Run.{NodeState, RunState, node_at, run_of}
use Rattle.passage_law.specs.Nodes.{AreSteps}
use Rattle.passage_law.specs.Links.{all_waiting}
use Rattle.passage_law.specs.Trails.{Leg, IsLeg, IsNext, now_on, outs_on}

-- the messages that wait from a node to the next one, or to the one before, without their point
abbrev pub as_waiting : Event → List Waiting
as_waiting (Arrived point sls bytes) = record { sls = sls; bytes = bytes } ∷ []
as_waiting (Requested ssn r) = []
as_waiting Ticked = []

abbrev pub queue_of : Bool → NodeState → List Waiting
queue_of forward node = flat_map as_waiting (all_waiting forward node)

-- two legs, one after the other, at node i and at the next node
pub record AreNeighbours (r : RunState) (i : ℕ) (one next : Leg) : Type 0 where
  pub here : IsLeg i (node_at i r.nodes) one
  pub there : IsLeg (i + 1) (node_at (i + 1) r.nodes) next
  pub follows : IsNext i one next

-- What came in at the one section begins the units that left on the other one; and while it may take them, the rest waits, in order. So in both directions.
abbrev pub HopCarries : RunState → ℕ → Leg → Leg → Type 0
HopCarries r i one next =
    IsCarried (outs_on one) (now_on one).that (now_on next).this (queue_of true (node_at i r.nodes))
    × IsCarried (outs_on next) (now_on next).this (now_on one).that (queue_of false (node_at (i + 1) r.nodes))

-- The law, as long as no node gave one reference twice and neither connection sent RSR or RSC.
abbrev pub RunHop : Type 0
RunHop =
    (n i : ℕ) (steps : List Step) (one next : Leg) → AreSteps n steps → 2 ≤ n → 1 ≤ i → i < n →
    (let r = run_of n steps in
    all_fresh r ≡ true → AreNeighbours r i one next →
    list_any is_reset (outs_on one) ≡ false → list_any is_reset (outs_on next) ≡ false → HopCarries r i one next)

-- Where the two sections between neighbours stand: each to the point of the other node, and its other end has a reference of 24 bits, or 0.
abbrev pub StandsTo : ℕ → End → Type 0
StandsTo point (wire x) = (x.head.point ≡ point) × (x.head.other < REFERENCES)
StandsTo point (owner u) = Unit {0}

abbrev pub RunPlaces : Type 0
RunPlaces =
    (n i : ℕ) (steps : List Step) (one next : Leg) → AreSteps n steps → 2 ≤ n → 1 ≤ i → i < n →
    (let r = run_of n steps in
    all_fresh r ≡ true → AreNeighbours r i one next → StandsTo (i + 1) (now_on one).that × StandsTo i (now_on next).this)
