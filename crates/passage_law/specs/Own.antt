-- A message to a neighbour names none of its sections but those to the sender (Q.714, 3.3.2), where no node gave a reference twice.
use Rattle.std.specs.Prelude.{IsTrue, ◌≡◌, ℕ, ◌≤◌, Bool, true, List, Some}
use Rattle.std.specs.List.{AllByRecursion}
use Rattle.relay_base.specs.declared.words.Event.{Event}
use Rattle.relay_base.specs.declared.words.Event.TheVariants.{Message as Arrived}
use Rattle.section_model.specs.Parameters.{arrival_in}
use Rattle.section_model.specs.Step.{destination_of}
use Rattle.chain_step.specs.declared.step.Step.{Step}
use Rattle.chain_step.specs.Run.{messages_to, neighbour, node_at, run_of}
use Rattle.chain_step.specs.Steps.{has_neighbour}
use Rattle.chain_step.specs.Fresh.{all_fresh}
use Rattle.passage_law.specs.Nodes.{AreSteps}
use Rattle.passage_law.specs.References.{Firsts, firsts_in, Gave}

-- where its destination is the reference of a section of node j, this was opened to point i
abbrev pub NamesOwn : Firsts → ℕ → ℕ → Event → Type 0
NamesOwn f i j (Arrived point sls bytes) = (q mine : ℕ) → 1 ≤ mine → Gave f j q mine → destination_of (arrival_in bytes) ≡ Some mine → q ≡ i
NamesOwn f i j _ = ⊥

-- of all the messages that a node sent to a neighbour
abbrev pub NamesNoOther : Type 0
NamesNoOther =
    (n i : ℕ) (forward : Bool) (steps : List Step) → AreSteps n steps → 2 ≤ n → 1 ≤ i → i ≤ n → IsTrue (has_neighbour n forward i) →
    (let r = run_of n steps in
    all_fresh r ≡ true → AllByRecursion (NamesOwn (firsts_in r) i (neighbour forward i)) (messages_to (node_at i r.nodes) (neighbour forward i)))
