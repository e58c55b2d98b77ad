-- CR comes once (Q.714, 3.1): where no node gave a reference twice, no two of the messages that arrived from a neighbour are CR with one source.
use Rattle.std.specs.Prelude.{IsTrue, ◌≡◌, ℕ, ◌==◌, ◌&&◌, ◌≤◌, Bool, true, false, List, map, count_by, Ok}
use Rattle.std.specs.declared.result.Result.{Result}
use Rattle.relay_base.specs.declared.words.Event.{Event}
use Rattle.relay_base.specs.declared.words.Event.TheVariants.{Message as Arrived}
use Rattle.relay_base.specs.declared.words.ReadFault.{ReadFault}
use Rattle.plant_core.specs.declared.entry.Entry.{Entry}
use Rattle.q713_codec.specs.Names.{Message}
use Rattle.q713_codec.specs.declared.message.Message.TheVariants.{Cr}
use Rattle.q713_codec.specs.Reading.{reading_of}
use Rattle.chain_step.specs.declared.step.Step.{Step}
use Rattle.chain_step.specs.Run.{neighbour, node_at, run_of}
use Rattle.chain_step.specs.Steps.{has_neighbour}
use Rattle.chain_step.specs.Fresh.{all_fresh}
use Rattle.passage_law.specs.Nodes.{AreSteps}

-- what is read is CR with this source
abbrev pub is_cr_with : ℕ → Result Message ReadFault → Bool
is_cr_with slr (Ok (Cr source class called credit calling body hop importance)) = source == slr
is_cr_with slr _ = false

-- and it came from a point
abbrev pub is_cr_from : ℕ → ℕ → Event → Bool
is_cr_from from slr (Arrived point sls bytes) = point == from && is_cr_with slr (reading_of bytes)
is_cr_from from slr _ = false

abbrev pub CrComesOnce : Type 0
CrComesOnce =
    (n i slr : ℕ) (forward : Bool) (steps : List Step) → AreSteps n steps → 2 ≤ n → 1 ≤ i → i ≤ n → IsTrue (has_neighbour n forward i) →
    (let r = run_of n steps in
    all_fresh r ≡ true → count_by (is_cr_from i slr) (map (λ (e : Entry). e.event) (node_at (neighbour forward i) r.nodes).journal) ≤ 1)
