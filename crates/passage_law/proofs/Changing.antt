-- What one step changes at each node.
use Rattle.std.proofs.Common.{◌≡◌, ℕ, ◌≤◌, ◌+◌, ◌-◌, ◌==◌, Bool, true, false, List, [], ◌∷◌, length, if◌then◌else◌, refl, sym, subst, ap, ◌∙◌, arith, IsTrue}
use Rattle.std.specs.Prelude.{Option, Some, None}
use Rattle.std.proofs.lemmas.Bool.{eqb-true, eqb-false}
use Rattle.std.proofs.lemmas.List.{get_or-set_same, length-set}
use Rattle.relay_base.specs.declared.words.Event.{Event}
use Rattle.relay_base.specs.declared.words.Event.TheVariants.{Asked as Requested, Tick as Ticked}
use Rattle.chain_step.specs.declared.step.Step.{Step}
use Rattle.chain_step.specs.declared.step.Step.TheVariants.{Ask, Pass, Tick}
use Rattle.chain_step.specs.declared.terms.TheConstants.{USER}
use Rattle.chain_step.specs.Run.{NodeState, RunState, first_node, node_at, with_node, neighbour, waiting, after_event, after_giving, passing, after_step, after_steps}
use Rattle.chain_step.specs.Steps.{is_step}
use Rattle.chain_step.proofs.Running.{other_node, apart, length_more, asker_exists, passer_exists, neighbour_exists, ticker_exists}
use Rattle.passage_law.specs.Nodes.{AreSteps}

-- A node stays as it is, takes an event as the step of this number, or gives the first message that waits to a neighbour.
pub data Change : Type 0 where
  stays : Change
  meets : ℕ → Event → Change
  gives : Bool → Change

abbrev pub changed : Change → NodeState → NodeState
changed stays node = node
changed (meets number e) node = after_event number e node
changed (gives forward) node = after_giving forward node

abbrev pub at_node : ℕ → Change → ℕ → Change
at_node j change x = if x == j then change else stays

-- node j gives its message to the neighbour
abbrev pub passes : ℕ → ℕ → Bool → Option Event → ℕ → Change
passes number j forward None x = stays
passes number j forward (Some e) x = if x == j then gives forward else at_node (neighbour forward j) (meets number e) x

abbrev pub change_by : RunState → Step → ℕ → Change
change_by r (Ask j request) x = at_node j (meets (r.taken + 1) (Requested USER request)) x
change_by r (Pass j forward) x = passes (r.taken + 1) j forward (waiting forward (node_at j r.nodes)) x
change_by r (Tick j) x = at_node j (meets (r.taken + 1) Ticked) x

-- one of the nodes becomes another
with_at : (x j : ℕ) (change : NodeState → NodeState) (nodes : List NodeState) → 1 ≤ x → x ≤ length nodes → 1 ≤ j
    → node_at x (with_node j change nodes) ≡ (if x == j then change (node_at x nodes) else node_at x nodes)
with_at x j change nodes least most one = by_test (x == j) refl
  where
    by_test : (b : Bool) → (x == j) ≡ b → node_at x (with_node j change nodes) ≡ (if b then change (node_at x nodes) else node_at x nodes)
    by_test true e =
        let same : x ≡ j = eqb-true x j e in
        subst (λ k. node_at x (with_node k change nodes) ≡ change (node_at x nodes)) same
        (get_or-set_same nodes (x - 1) (change (node_at x nodes)) (first_node 0 0) (omega (arith, least, most)))
    by_test false e =
        let other : x ≡ j → ⊥ = eqb-false x j e in
        other_node x j change nodes (λ same. other (omega (arith, same, least, one)))

taking_at : (x j number : ℕ) (e : Event) (nodes : List NodeState) → 1 ≤ x → x ≤ length nodes → 1 ≤ j
    → node_at x (with_node j (after_event number e) nodes) ≡ changed (at_node j (meets number e) x) (node_at x nodes)
taking_at x j number e nodes least most one = with_at x j (after_event number e) nodes least most one ∙ by_test (x == j)
  where
    by_test : (b : Bool) → (if b then after_event number e (node_at x nodes) else node_at x nodes) ≡ changed (if b then meets number e else stays) (node_at x nodes)
    by_test true = refl
    by_test false = refl

-- the giving node is none that takes
giving_at : (x j number : ℕ) (forward : Bool) (e : Event) (nodes : List NodeState) → 1 ≤ x → x ≤ length nodes → 1 ≤ j → 1 ≤ neighbour forward j
    → node_at x (with_node j (after_giving forward) (with_node (neighbour forward j) (after_event number e) nodes)) ≡ changed (passes number j forward (Some e) x) (node_at x nodes)
giving_at x j number forward e nodes least most one next =
    let after : List NodeState = with_node (neighbour forward j) (after_event number e) nodes in
    with_at x j (after_giving forward) after least (subst (λ k. x ≤ k) (sym (length-set nodes (neighbour forward j - 1) (after_event number e (node_at (neighbour forward j) nodes)))) most) one
    ∙ by_test (x == j) refl
  where
    by_test : (b : Bool) → (x == j) ≡ b
        → (let after : List NodeState = with_node (neighbour forward j) (after_event number e) nodes in
        (if b then after_giving forward (node_at x after) else node_at x after)
        ≡ changed (if b then gives forward else at_node (neighbour forward j) (meets number e) x) (node_at x nodes))
    by_test true t = ap (after_giving forward) (other_node x (neighbour forward j) (after_event number e) nodes (λ same. apart forward j one next (ap (λ k. k - 1) (sym (eqb-true x j t)) ∙ same)))
    by_test false t = taking_at x (neighbour forward j) number e nodes least most next

passing_at : (x j : ℕ) (forward : Bool) (message : Option Event) (r : RunState) → 1 ≤ x → x ≤ length r.nodes → 1 ≤ j → 1 ≤ neighbour forward j
    → node_at x (passing j forward message r).nodes ≡ changed (passes (r.taken + 1) j forward message x) (node_at x r.nodes)
passing_at x j forward None r least most one next = refl
passing_at x j forward (Some e) r least most one next = giving_at x j (r.taken + 1) forward e r.nodes least most one next

-- Each node after a step.
pub node_changed : (n x : ℕ) (r : RunState) (step : Step) → 2 ≤ n → IsTrue (is_step n step) → 1 ≤ x → x ≤ length r.nodes
    → node_at x (after_step r step).nodes ≡ changed (change_by r step x) (node_at x r.nodes)
unfolding after_step
node_changed n x r (Ask j request) two is least most =
    taking_at x j (r.taken + 1) (Requested USER request) r.nodes least most (asker_exists n j request (Ask j request) refl two is).0
node_changed n x r (Pass j forward) two is least most =
    passing_at x j forward (waiting forward (node_at j r.nodes)) r least most (passer_exists n j forward (Pass j forward) refl is).0
    (neighbour_exists n j forward (Pass j forward) refl is).0
node_changed n x r (Tick j) two is least most = taking_at x j (r.taken + 1) Ticked r.nodes least most (ticker_exists n j (Tick j) refl is).0

-- What each step keeps is kept along all of them.
pub kept_along : (n : ℕ) (P : RunState → Type 0) → ((r : RunState) (step : Step) → IsTrue (is_step n step) → P r → P (after_step r step)) → (r : RunState) (steps : List Step)
    → AreSteps n steps → P r → P (after_steps r steps)
kept_along n P keeps r [] are before = before
kept_along n P keeps r (step ∷ steps) are before = kept_along n P keeps (after_step r step) steps are.1 (keeps r step are.0 before)

pub nodes_long : (n : ℕ) (r : RunState) (step : Step) → length r.nodes ≡ n → length (after_step r step).nodes ≡ n
nodes_long n r step long = length_more r step ∙ long
