-- A run, step by step.
use Rattle.std.proofs.Common.{◌≡◌, ℕ, ◌≤◌, ◌+◌, ◌-◌, Bool, true, false, List, [], ◌∷◌, ◌++◌, length, refl, subst, ◌∙◌, arith}
use Rattle.std.specs.Prelude.{◌==◌, ◌&&◌, ◌||◌, nat_lt, if◌then◌else◌, IsTrue, Option, Some, None}
use Rattle.std.proofs.lemmas.List.{get_or-set_other, length-set}
use Rattle.relay_base.specs.declared.words.Event.{Event}
use Rattle.relay_base.specs.declared.words.Event.TheVariants.{Asked as Requested, Tick as Ticked}
use Rattle.relay_base.specs.declared.words.Request.{Request}
use Rattle.chain_step.specs.declared.step.Step.{Step}
use Rattle.chain_step.specs.declared.step.Step.TheVariants.{Ask, Pass, Tick}
use Rattle.chain_step.specs.declared.terms.TheConstants.{USER}
use Rattle.chain_step.specs.Run.{NodeState, RunState, first_node, node_at, with_node, neighbour, waiting, after_event, after_giving, taking, passing, after_step, after_steps}
use Rattle.chain_step.specs.Steps.{is_step, is_askable, is_node}

-- another node takes an event
pub other_node : (i j : ℕ) (change : NodeState → NodeState) (nodes : List NodeState) → (i - 1 ≡ j - 1 → ⊥) → node_at i (with_node j change nodes) ≡ node_at i nodes
other_node i j change nodes apart = get_or-set_other nodes (j - 1) (i - 1) (change (node_at j nodes)) (first_node 0 0) apart

pub apart : (forward : Bool) (i : ℕ) → 1 ≤ i → 1 ≤ neighbour forward i → i - 1 ≡ neighbour forward i - 1 → ⊥
apart true i least within same = omega (arith, least, same)
apart false i least within same = omega (arith, least, within, same)

-- one more step
pub after_more : (r : RunState) (steps : List Step) (step : Step) → after_steps r (steps ++ step ∷ []) ≡ after_step (after_steps r steps) step
after_more r [] step = refl
after_more r (s ∷ steps) step = after_more (after_step r s) steps step

passing_taken : (i : ℕ) (forward : Bool) (message : Option Event) (r : RunState) → (passing i forward message r).taken ≡ r.taken + 1
passing_taken i forward None r = refl
passing_taken i forward (Some e) r = refl

pub taken_more : (r : RunState) (step : Step) → (after_step r step).taken ≡ r.taken + 1
unfolding after_step
taken_more r (Ask i request) = refl
taken_more r (Pass i forward) = passing_taken i forward (waiting forward (node_at i r.nodes)) r
taken_more r (Tick i) = refl

with_length : (i : ℕ) (change : NodeState → NodeState) (nodes : List NodeState) → length (with_node i change nodes) ≡ length nodes
with_length i change nodes = length-set nodes (i - 1) (change (node_at i nodes))

passing_length : (i : ℕ) (forward : Bool) (message : Option Event) (r : RunState) → length (passing i forward message r).nodes ≡ length r.nodes
passing_length i forward None r = refl
passing_length i forward (Some e) r =
    with_length i (after_giving forward) (taking (neighbour forward i) e r).nodes ∙ with_length (neighbour forward i) (after_event (r.taken + 1) e) r.nodes

pub length_more : (r : RunState) (step : Step) → length (after_step r step).nodes ≡ length r.nodes
unfolding after_step
length_more r (Ask i request) = with_length i (after_event (r.taken + 1) (Requested USER request)) r.nodes
length_more r (Pass i forward) = passing_length i forward (waiting forward (node_at i r.nodes)) r
length_more r (Tick i) = with_length i (after_event (r.taken + 1) Ticked) r.nodes

-- the nodes of a step exist

asks_in : (n i : ℕ) (b : Bool) → 2 ≤ n → IsTrue ((i == 1 || i == n) && b) → (1 ≤ i) × (i ≤ n)
asks_in n i b e t = grind (arith, e, t)

within : (n i : ℕ) (b : Bool) → IsTrue (is_node n i && b) → (1 ≤ i) × (i ≤ n)
within n i b t = grind (arith, t)

next_within : (n i : ℕ) (forward : Bool) → IsTrue (is_node n i && (if forward then nat_lt i n else nat_lt 1 i)) → (1 ≤ neighbour forward i) × (neighbour forward i ≤ n)
next_within n i true t = grind (arith, t)
next_within n i false t = grind (arith, t)

pub asker_exists : (n i : ℕ) (r : Request) (step : Step) → step ≡ Ask i r → 2 ≤ n → IsTrue (is_step n step) → (1 ≤ i) × (i ≤ n)
asker_exists n i r step is e t = asks_in n i (is_askable r) e (subst (λ s. IsTrue (is_step n s)) is t)

pub passer_exists : (n i : ℕ) (forward : Bool) (step : Step) → step ≡ Pass i forward → IsTrue (is_step n step) → (1 ≤ i) × (i ≤ n)
passer_exists n i forward step is t = within n i (if forward then nat_lt i n else nat_lt 1 i) (subst (λ s. IsTrue (is_step n s)) is t)

pub neighbour_exists : (n i : ℕ) (forward : Bool) (step : Step) → step ≡ Pass i forward → IsTrue (is_step n step) → (1 ≤ neighbour forward i) × (neighbour forward i ≤ n)
neighbour_exists n i forward step is t = next_within n i forward (subst (λ s. IsTrue (is_step n s)) is t)

ticks_in : (n i : ℕ) → IsTrue (is_node n i) → (1 ≤ i) × (i ≤ n)
ticks_in n i t = grind (arith, t)

pub ticker_exists : (n i : ℕ) (step : Step) → step ≡ Tick i → IsTrue (is_step n step) → (1 ≤ i) × (i ≤ n)
ticker_exists n i step is t = ticks_in n i (subst (λ s. IsTrue (is_step n s)) is t)
