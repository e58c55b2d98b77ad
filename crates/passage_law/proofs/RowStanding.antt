-- Each node keeps its number and its routing data, and its journal is a legal one.
use Rattle.std.proofs.Common.{◌≡◌, ℕ, ◌≤◌, ◌-◌, true, false, List, [], ◌∷◌, ◌++◌, length, refl, sym, subst, ap, ◌∙◌, arith, IsTrue}
use Rattle.std.specs.Prelude.{Option, Some, None, is_some}
use Rattle.std.proofs.lemmas.List.FromFn.{length-map-range_with_len, get_or-map-range_with_len}
use Rattle.relay_base.specs.declared.words.Event.{Event}
use Rattle.plant_core.specs.Asking.{Question, asked_at}
use Rattle.plant_core.specs.Plant.{RoutingData}
use Rattle.plant_core.specs.declared.terms.LaneHead.{LaneHead}
use Rattle.section_model.specs.Opening.{wish_of, question_of}
use Rattle.section_model.specs.Journals.{IsConnJournal, lane_of}
use Rattle.lane_law.proofs.Splitting.{splits}
use Rattle.chain_step.specs.declared.step.Step.{Step}
use Rattle.chain_step.specs.Run.{NodeState, RunState, first_node, head_of, routing_of, node_at, entry_of, start, run_of, after_step}
use Rattle.chain_step.specs.Steps.{is_step}
use Rattle.passage_law.specs.Nodes.{AreSteps, IsRoutedAt, IsNode, NodesStand}
use Rattle.passage_law.proofs.Changing.{Change, stays, meets, gives, changed, change_by, node_changed, nodes_long, kept_along}
use Rattle.hop_law.proofs.Lists.{all_joined}

asked_where : (routing : RoutingData) (question : Option Question) → is_some (asked_at 0 routing question) ≡ is_some question
asked_where routing None = refl
asked_where routing (Some q) = refl

-- one entry more is legal
pub legal_more : (number : ℕ) (e : Event) (node : NodeState) → IsConnJournal node.head 0 node.journal → IsConnJournal node.head 0 (node.journal ++ entry_of number e node ∷ [])
legal_more number e node legal =
    (splits (lane_of node.head 0) [] node.journal (entry_of number e node ∷ [])).1
    (legal, (record { routed = asked_where node.routing (question_of (wish_of node.head.terms e)); outputs = refl }, tt))

routed_as : (n i number : ℕ) (e : Event) (node : NodeState) (head : LaneHead) (routing : RoutingData) → node.head ≡ head → node.routing ≡ routing
    → (entry_of number e node).asked ≡ asked_at 0 routing (question_of (wish_of head.terms e))
routed_as n i number e node head routing is are =
    ap (λ (h : LaneHead). asked_at 0 node.routing (question_of (wish_of h.terms e))) is ∙ ap (λ p. asked_at 0 p (question_of (wish_of head.terms e))) are

node_meets : (n i number : ℕ) (e : Event) (node : NodeState) → IsNode n i node → IsNode n i (changed (meets number e) node)
node_meets n i number e node is = record {
  head = is.head;
  routing = is.routing;
  legal = subst (λ (h : LaneHead). IsConnJournal h 0 (node.journal ++ entry_of number e node ∷ [])) is.head
      (legal_more number e node (subst (λ (h : LaneHead). IsConnJournal h 0 node.journal) (sym is.head) is.legal));
  routed = all_joined (IsRoutedAt n i) node.journal (entry_of number e node ∷ []) is.routed (routed_as n i number e node (head_of i) (routing_of n i) is.head is.routing, tt);
}

pub node_kept : (n i : ℕ) (change : Change) (node : NodeState) → IsNode n i node → IsNode n i (changed change node)
node_kept n i stays node is = is
node_kept n i (meets number e) node is = node_meets n i number e node is
node_kept n i (gives true) node is = record { head = is.head; routing = is.routing; legal = is.legal; routed = is.routed }
node_kept n i (gives false) node is = record { head = is.head; routing = is.routing; legal = is.legal; routed = is.routed }

-- All nodes.
pub record AreNodes (n : ℕ) (r : RunState) : Type 0 where
  pub long : length r.nodes ≡ n
  pub each : (i : ℕ) → 1 ≤ i → i ≤ n → IsNode n i (node_at i r.nodes)

-- the node at a place at the start
pub first_is : (n i : ℕ) → 1 ≤ i → i ≤ n → node_at i (start n).nodes ≡ first_node n i
first_is n i least most = get_or-map-range_with_len (first_node n) 1 n (i - 1) i (first_node 0 0) (omega (arith, least, most)) (omega (arith, least))

pub nodes_begin : (n : ℕ) → AreNodes n (start n)
nodes_begin n = record {
  long = length-map-range_with_len (first_node n) 1 n;
  each = λ i least most.
      subst (IsNode n i) (sym (first_is n i least most))
      (record { head = refl; routing = refl; legal = tt; routed = tt });
}

pub nodes_kept : (n : ℕ) → 2 ≤ n → (r : RunState) (step : Step) → IsTrue (is_step n step) → AreNodes n r → AreNodes n (after_step r step)
nodes_kept n two r step is are = record {
  long = nodes_long n r step are.long;
  each = λ i least most.
      subst (IsNode n i) (sym (node_changed n i r step two is least (subst (λ k. i ≤ k) (sym are.long) most)))
      (node_kept n i (change_by r step i) (node_at i r.nodes) (are.each i least most));
}

pub are_nodes : (n : ℕ) (steps : List Step) → 2 ≤ n → AreSteps n steps → AreNodes n (run_of n steps)
are_nodes n steps two are = kept_along n (AreNodes n) (nodes_kept n two) (start n) steps are (nodes_begin n)

pub nodes_stand : NodesStand
nodes_stand n i steps are two least most = (are_nodes n steps two are).each i least most
