-- What waits between two nodes, as a node changes.
use Rattle.std.proofs.Common.{◌≡◌, ℕ, zero, suc, ◌≤◌, ◌+◌, ◌==◌, Bool, true, false, List, [], ◌∷◌, ◌++◌, length, drop, if◌then◌else◌, refl, subst, ap, ap₂, ◌∙◌, arith}
use Rattle.std.specs.Prelude.{Some, flat_map, slice_get}
use Rattle.std.specs.List.{AllByRecursion}
use Rattle.std.proofs.lemmas.Grind.{flat_map-append}
use Rattle.std.proofs.lemmas.List.{drop-append-le}
use Rattle.relay_base.specs.declared.words.Event.{Event}
use Rattle.relay_base.specs.declared.words.Event.TheVariants.{Message as Arrived}
use Rattle.relay_base.specs.declared.words.Output.{Output}
use Rattle.relay_base.specs.declared.words.Output.TheVariants.{Sent, Told, Lost}
use Rattle.plant_core.specs.declared.entry.Entry.{Entry}
use Rattle.hop_law.specs.Waiting.{Waiting, message_to, messages_to}
use Rattle.chain_step.specs.Run.{NodeState, arrives, messages_in, neighbour, given_of, waiting, outputs_of, entry_of, after_event, after_giving}
use Rattle.chain_step.proofs.Journals.{sent_more}
use Rattle.passage_law.specs.Links.{all_waiting}
use Rattle.passage_law.proofs.Linking.{sent_by, all_flat, all_at}
use Rattle.passage_law.specs.Hops.{as_waiting, queue_of}

-- The messages to a point, with the point from which they come or without it.

arrival_as : (own to : ℕ) (out : Output) → flat_map as_waiting (arrives own to out) ≡ message_to to out
arrival_as own to (Sent point sls bytes) = by_test (point == to)
  where
    by_test : (b : Bool) → flat_map as_waiting (if b then Arrived own sls bytes ∷ [] else []) ≡ (if b then record { sls = sls; bytes = bytes } ∷ [] else [])
    by_test true = refl
    by_test false = refl
arrival_as own to (Told ssn tell) = refl
arrival_as own to (Lost lost) = refl

pub waiting_in : (own to : ℕ) (outs : List Output) → flat_map as_waiting (messages_in own to outs) ≡ messages_to to outs
unfolding messages_to
waiting_in own to [] = refl
waiting_in own to (out ∷ outs) =
    flat_map-append as_waiting (arrives own to out) (messages_in own to outs) ∙ ap₂ (λ (a b : List Waiting). a ++ b) (arrival_as own to out) (waiting_in own to outs)

-- a message that comes from a node
abbrev pub IsMessageOf : ℕ → Event → Type 0
IsMessageOf own event = (m : Waiting) × (event ≡ Arrived own m.sls m.bytes)

arrival_of_node : (own to : ℕ) (out : Output) → AllByRecursion (IsMessageOf own) (arrives own to out)
arrival_of_node own to (Sent point sls bytes) = by_test (point == to)
  where
    by_test : (b : Bool) → AllByRecursion (IsMessageOf own) (if b then Arrived own sls bytes ∷ [] else [])
    by_test true = ((record { sls = sls; bytes = bytes }, refl), tt)
    by_test false = tt
arrival_of_node own to (Told ssn tell) = tt
arrival_of_node own to (Lost lost) = tt

pub sent_of_node : (own to : ℕ) (outs : List Output) → AllByRecursion (IsMessageOf own) (messages_in own to outs)
sent_of_node own to outs = all_flat (IsMessageOf own) (arrives own to) (arrival_of_node own to) outs

pub waits_of_node : (own to k : ℕ) (event : Event) (node : NodeState) → slice_get (sent_by own to node) k ≡ Some event → IsMessageOf own event
waits_of_node own to k event node some =
    all_at (IsMessageOf own) (sent_by own to node) k event
    (all_flat (IsMessageOf own) (λ (e : Entry). messages_in own to e.outs) (λ e. sent_of_node own to e.outs) node.journal) some

-- An event joins its outputs.
pub queue_met : (forward : Bool) (own number : ℕ) (event : Event) (node : NodeState) → node.head.terms.own ≡ own → given_of forward node ≤ length (sent_by own (neighbour forward own) node)
    → queue_of forward (after_event number event node) ≡ queue_of forward node ++ messages_to (neighbour forward own) (outputs_of event node)
queue_met forward own number event node is within =
    subst (λ p. given_of forward node ≤ length (sent_by p (neighbour forward p) node)
    → queue_of forward (after_event number event node) ≡ queue_of forward node ++ messages_to (neighbour forward p) (outputs_of event node)) is by_own within
  where
    by_own : given_of forward node ≤ length (sent_by node.head.terms.own (neighbour forward node.head.terms.own) node)
        → queue_of forward (after_event number event node) ≡ queue_of forward node ++ messages_to (neighbour forward node.head.terms.own) (outputs_of event node)
    by_own within =
        let p = node.head.terms.own in
        let to = neighbour forward p in
        let given = given_of forward node in
        let more = messages_in p to (outputs_of event node) in
        ap (λ sent. flat_map as_waiting (drop given sent)) (sent_more p to node.journal (entry_of number event node))
        ∙ (ap (flat_map as_waiting) (drop-append-le given (sent_by p to node) more within)
        ∙ (flat_map-append as_waiting (drop given (sent_by p to node)) more ∙ ap (λ queue. queue_of forward node ++ queue) (waiting_in p to (outputs_of event node))))

-- The first message is given.

rest_of : {A : Type 0} (k : ℕ) (xs : List A) (x : A) → slice_get xs k ≡ Some x → drop k xs ≡ x ∷ drop (k + 1) xs
rest_of zero [] x e = absurd (cc)
rest_of (suc k) [] x e = absurd (cc)
rest_of zero (y ∷ xs) x e = let same : y ≡ x = cc in ap (λ z. z ∷ xs) same
rest_of (suc k) (y ∷ xs) x e = rest_of k xs x e ∙ ap (λ n. x ∷ drop n (y ∷ xs)) (one_more k)
  where
    one_more : (k : ℕ) → suc (k + 1) ≡ suc k + 1
    one_more k = omega arith

waits_first : (forward : Bool) (event : Event) (node : NodeState) → waiting forward node ≡ Some event → all_waiting forward node ≡ event ∷ all_waiting forward (after_giving forward node)
waits_first true event node some = rest_of node.ahead _ event some
waits_first false event node some = rest_of node.back _ event some

pub queue_given : (forward : Bool) (own : ℕ) (m : Waiting) (event : Event) (node : NodeState) → waiting forward node ≡ Some event → event ≡ Arrived own m.sls m.bytes
    → queue_of forward node ≡ m ∷ queue_of forward (after_giving forward node)
queue_given forward own m event node some is =
    ap (flat_map as_waiting) (waits_first forward event node some) ∙ ap (λ e. as_waiting e ++ queue_of forward (after_giving forward node)) is
