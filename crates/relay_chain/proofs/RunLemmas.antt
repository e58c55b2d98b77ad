-- A chain, step by step.
use Rattle.std.proofs.Common.{◌≡◌, ℕ, zero, suc, ◌≤◌, ◌+◌, List, [], ◌∷◌, ◌++◌, length, map, refl, sym, subst, ap, ap₂, ◌∙◌, arith, length-append}
use Rattle.std.specs.Prelude.{get_or, IsTrue}
use Rattle.std.specs.List.{range_with_len}
use Rattle.std.proofs.lemmas.List.FromFn.{length-map-range_with_len, map-range_with_len_more}
use Rattle.chain_step.specs.declared.step.Step.{Step}
use Rattle.chain_step.specs.Run.{NodeState, RunState, first_node, start, after_step}
use Rattle.chain_step.specs.Steps.{is_step}
use Rattle.chain_step.specs.Chains.{ChainState, run_in}
use Rattle.chain_step.proofs.Running.{after_more, taken_more, length_more}
use Rattle.hop_law.proofs.Lists.{all_joined}
use Rattle.passage_law.specs.Nodes.{AreSteps}
use Rattle.passage_law.specs.TrailLaw.{HopsAlong, TextsAlong}
use Rattle.passage_law.proofs.Trails.{hops_keep_order, texts_keep_order}
use Rattle.relay_chain.specs.Inner.Chains.{IsChain, AreShort}

-- before the first step no journal has an entry
none_yet : (n : ℕ) (numbers : List ℕ) (i : ℕ) → length (get_or (map (first_node n) numbers) i (first_node 0 0)).journal ≤ 0
none_yet n [] i = omega arith
none_yet n (x ∷ numbers) zero = omega arith
none_yet n (x ∷ numbers) (suc i) = none_yet n numbers i

next_number : (n : ℕ) → n + 1 ≡ 1 + n
next_number n = omega arith

-- the nodes with the next one
pub nodes_more : (n before : ℕ) (nodes later : List NodeState) (node : NodeState) → nodes ≡ map (first_node n) (range_with_len 1 before) → node ≡ first_node n (before + 1) → later ≡ nodes ++ node ∷ []
    → later ≡ map (first_node n) (range_with_len 1 (before + 1))
nodes_more n before nodes later node are is more =
    more ∙ (ap₂ (λ xs x. xs ++ x ∷ []) are (is ∙ ap (first_node n) (next_number before)) ∙ sym (map-range_with_len_more (first_node n) 1 before (1 + before) refl))

pub start_short : (n : ℕ) (numbers : List ℕ) (nodes : List NodeState) → nodes ≡ map (first_node n) numbers → AreShort 0 nodes
start_short n numbers nodes same = subst (AreShort 0) (sym same) (none_yet n numbers)

-- a chain before the first step, and with one more
pub chain_begins : (count : ℕ) (r : RunState) → 2 ≤ count → count ≤ 8 → r ≡ start count → IsChain count [] r
chain_begins count r least most same = record {
  least = least;
  most = most;
  run = same;
  taken = ap (λ r. r.taken) same;
  nodes = ap (λ r. length r.nodes) same ∙ length-map-range_with_len (first_node count) 1 count;
  each = tt;
}

-- one step more is one of those that the nodes can take
pub steps_more : (count : ℕ) (steps later : List Step) (step : Step) → AreSteps count steps → IsTrue (is_step count step) → later ≡ steps ++ step ∷ [] → AreSteps count later
steps_more count steps later step are may is = subst (AreSteps count) (sym is) (all_joined (λ step. IsTrue (is_step count step)) steps (step ∷ []) are (may, tt))

pub chain_more : (count : ℕ) (steps : List Step) (r later : RunState) (step : Step) → IsChain count steps r → IsTrue (is_step count step) → later ≡ after_step r step
    → IsChain count (steps ++ step ∷ []) later
chain_more count steps r later step is may same = record {
  least = is.least;
  most = is.most;
  run = same ∙ (ap (λ x. after_step x step) is.run ∙ sym (after_more (start count) steps step));
  taken = ap (λ r. r.taken) same ∙ (taken_more r step ∙ (ap (λ n. n + 1) is.taken ∙ sym (length-append steps (step ∷ []))));
  nodes = ap (λ r. length r.nodes) same ∙ (length_more r step ∙ is.nodes);
  each = steps_more count steps (steps ++ step ∷ []) step is.each may refl;
}

-- what is known of it after any steps
pub hops_along : (chain : ChainState) → AreSteps chain.nodes chain.steps → 2 ≤ chain.nodes → HopsAlong (run_in chain)
hops_along chain are least = hops_keep_order chain.nodes chain.steps are least

pub texts_along : (chain : ChainState) → AreSteps chain.nodes chain.steps → 2 ≤ chain.nodes → TextsAlong (run_in chain)
texts_along chain are least = texts_keep_order chain.nodes chain.steps are least
