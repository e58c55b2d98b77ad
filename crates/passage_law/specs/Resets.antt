-- RSR along a trail (Q.714, 3.7): each one that comes for a section between neighbours was sent by the neighbour's connection, and where a trail ends none
-- comes from beyond.
use Rattle.std.specs.Prelude.{◌≡◌, ℕ, ◌≤◌, ◌<◌, true, List, [], map}
use Rattle.relay_base.specs.declared.words.Event.{Event}
use Rattle.hop_law.specs.ResetAnswering.{NoneBringsRsr}
use Rattle.hop_law.specs.Coming.{SendsNoRsr}
use Rattle.chain_step.specs.declared.step.Step.{Step}
use Rattle.chain_step.specs.Fresh.{all_fresh}
use Rattle.chain_step.specs.Run.{node_at, run_of}
use Rattle.passage_law.specs.Nodes.{AreSteps}
use Rattle.passage_law.specs.Trails.{Leg, IsLeg, outs_on, IsWhole}
use Rattle.passage_law.specs.Hops.{AreNeighbours}

-- what the node of a leg met since its opening
abbrev pub met_on : Leg → List Event
met_on leg = map (λ e. e.event) leg.since

-- As long as the one connection sends no RSR, none comes for the section of the other one.
abbrev pub RsrCrosses : Leg → Leg → Type 0
RsrCrosses one next =
    (SendsNoRsr (outs_on one) → NoneBringsRsr next.first.this (met_on next)) × (SendsNoRsr (outs_on next) → NoneBringsRsr one.first.that (met_on one))

abbrev pub RunRsr : Type 0
RunRsr =
    (n i : ℕ) (steps : List Step) (one next : Leg) → AreSteps n steps → 2 ≤ n → 1 ≤ i → i < n →
    (let r = run_of n steps in all_fresh r ≡ true → AreNeighbours r i one next → RsrCrosses one next)

-- None comes for the other section of a leg that no leg follows.
abbrev pub RunEnds : Type 0
RunEnds =
    (n i : ℕ) (steps : List Step) (leg : Leg) → AreSteps n steps → 2 ≤ n → 1 ≤ i →
    (let r = run_of n steps in all_fresh r ≡ true → IsLeg i (node_at i r.nodes) leg → IsWhole r i leg [] → NoneBringsRsr leg.first.that (met_on leg))
