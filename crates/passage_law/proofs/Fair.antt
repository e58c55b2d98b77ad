-- What a run of nodes in a row gives for the hop of two legs: each message that isn't their connection's own is strange to it.
use Rattle.std.specs.Prelude.{IsTrue, ◌≡◌, ◌≢◌, ℕ, ◌+◌, ◌≤◌, ◌<◌, true, false, List, [], ◌++◌, flat_map}
use Rattle.std.specs.List.{AllByRecursion}
use Rattle.relay_base.specs.declared.limits.TheConstants.{REFERENCES}
use Rattle.relay_base.specs.declared.words.Event.{Event}
use Rattle.relay_base.specs.declared.words.Output.{Output}
use Rattle.plant_core.specs.declared.entry.Entry.{Entry}
use Rattle.plant_core.specs.declared.terms.TheConstants.{USUAL_TICKS}
use Rattle.section_model.specs.Ends.{End, wire, owner, Connection}
use Rattle.section_model.specs.Lane.{part_by, reference_of}
use Rattle.hop_law.specs.Waiting.{Waiting, messages_to}
use Rattle.hop_law.specs.Hop.{IsElsewhere}
use Rattle.chain_step.specs.declared.step.Step.{Step}
use Rattle.chain_step.specs.Fresh.{all_fresh}
use Rattle.chain_step.specs.Run.{NodeState, RunState, messages_in, outputs_of, node_at, run_of, after_step}
use Rattle.chain_step.specs.Steps.{is_step}
use Rattle.passage_law.specs.Nodes.{AreSteps}
use Rattle.passage_law.specs.Links.{is_from}
use Rattle.passage_law.specs.Fair.{AreStrange}
use Rattle.passage_law.proofs.Changing.{meets, change_by}
use Rattle.passage_law.specs.Trails.{Leg, now_on}
use Rattle.passage_law.specs.Hops.{AreNeighbours}

-- A node meets an event. Of its outputs some are the part of the leg's connection; all others that go to the point of the hop's other node are strange to
-- the connection there. And a message from elsewhere doesn't name the section to that node.
pub record IsMeeting (to : ℕ) (end : Connection → End) (node : NodeState) (leg : Leg) (there : Connection) (event : Event) : Type 0 where
  pub first : List Output
  pub then : List Output
  pub outs : outputs_of event node ≡ first ++ part_by USUAL_TICKS event (now_on leg) ++ then
  pub strange : AreStrange there (messages_to to first) × AreStrange there (messages_to to then)
  pub elsewhere : is_from to event ≡ false → IsElsewhere to (end leg.first) event

-- an entry whose event isn't a message from a point is none for an end either
abbrev pub IsOfOthers : ℕ → End → Entry → Type 0
IsOfOthers point e entry = is_from point entry.event ≡ false → IsElsewhere point e entry.event

-- an end is no section to a point
abbrev pub IsNotTo : ℕ → End → Type 0
IsNotTo point (wire x) = x.head.point ≢ point
IsNotTo point (owner u) = Unit {0}

-- the reference of a section has 24 bits
abbrev pub ReferenceFits : End → Type 0
ReferenceFits (wire x) = x.head.mine < REFERENCES
ReferenceFits (owner u) = Unit {0}

-- all messages that entries sent from a node to a point
abbrev pub sent_to : ℕ → List Entry → List Waiting
sent_to point journal = flat_map (λ (e : Entry). messages_to point e.outs) journal

-- The far leg has just been opened, at node i + 1. All messages between the nodes, arrived or not, are strange to the connection at the other one.
pub record IsBeginning (i : ℕ) (r : RunState) (one next : Leg) : Type 0 where
  pub forward : AreStrange next.first (sent_to (i + 1) (node_at i r.nodes).journal)
  pub back : AreStrange one.first (sent_to i (node_at (i + 1) r.nodes).journal)
  pub elsewhere : AllByRecursion (IsOfOthers (i + 1) one.first.that) one.since
  pub apart : IsNotTo (i + 1) one.first.this × IsNotTo i next.first.that
  pub references : ReferenceFits one.first.that × ReferenceFits next.first.this
  pub differ : (reference_of one.first.this ≢ reference_of one.first.that) × (reference_of next.first.this ≢ reference_of next.first.that)

pub record IsFairRun (n i : ℕ) : Type 0 where
  pub near : (steps : List Step) (step : Step) (one next : Leg) (number : ℕ) (e : Event) → AreSteps n steps → IsTrue (is_step n step) →
      (let r = run_of n steps in
      all_fresh (after_step r step) ≡ true → AreNeighbours r i one next → change_by r step i ≡ meets number e →
      IsMeeting (i + 1) (λ c. c.that) (node_at i r.nodes) one next.first e)
  pub far : (steps : List Step) (step : Step) (one next : Leg) (number : ℕ) (e : Event) → AreSteps n steps → IsTrue (is_step n step) →
      (let r = run_of n steps in
      all_fresh (after_step r step) ≡ true → AreNeighbours r i one next → change_by r step (i + 1) ≡ meets number e →
      IsMeeting i (λ c. c.this) (node_at (i + 1) r.nodes) next one.first e)
  pub begins : (steps : List Step) (step : Step) (one next : Leg) (number : ℕ) (e : Event) → AreSteps n steps → IsTrue (is_step n step) →
      (let r = run_of n steps in
      let after = after_step r step in
      all_fresh after ≡ true → AreNeighbours after i one next → next.since ≡ [] → change_by r step (i + 1) ≡ meets number e →
      IsBeginning i after one next)
  -- a near leg that the step opens: its CR wasn't sent before
  pub once :
      (steps : List Step) (step : Step) (one next : Leg) (number : ℕ) (e : Event) → AreSteps n steps → IsTrue (is_step n step) →
      (let r = run_of n steps in
      let after = after_step r step in
      all_fresh after ≡ true → AreNeighbours after i one next → one.before ≡ (node_at i r.nodes).journal → one.since ≡ [] → change_by r step i ≡ meets number e →
      AllByRecursion (λ event. event ≢ next.by.event) (flat_map (λ (x : Entry). messages_in i (i + 1) x.outs) (node_at i r.nodes).journal))
  -- no reference was given twice before
  pub before : (steps : List Step) (step : Step) → AreSteps n steps → IsTrue (is_step n step) →
      (let r = run_of n steps in all_fresh (after_step r step) ≡ true → all_fresh r ≡ true)

-- Of all nodes but the last, each with the next one.
abbrev pub RunsAreFair : Type 0
RunsAreFair = (n i : ℕ) → 2 ≤ n → 1 ≤ i → i < n → IsFairRun n i
