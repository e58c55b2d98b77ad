-- What a node names to another one (Q.714, 3.3.2): a reference that the other one gave to a section to it; and the sections of the two nodes go in pairs, of
-- which one was asked for the connection by the other.
use Rattle.std.specs.Prelude.{◌≡◌, ◌⊎◌, ℕ, ◌<◌, ◌≤◌, List, [], ◌∷◌, map, Ok}
use Rattle.std.specs.declared.result.Result.{Result}
use Rattle.std.specs.List.{AllByRecursion}
use Rattle.relay_base.specs.declared.limits.TheConstants.{REFERENCES}
use Rattle.relay_base.specs.declared.words.Event.{Event}
use Rattle.relay_base.specs.declared.words.Event.TheVariants.{Message as Arrived}
use Rattle.relay_base.specs.declared.words.ReadFault.{ReadFault}
use Rattle.plant_core.specs.declared.entry.Entry.{Entry}
use Rattle.q713_codec.specs.Names.{Message}
use Rattle.q713_codec.specs.declared.message.Message.TheVariants.{Cr}
use Rattle.q713_codec.specs.Reading.{reading_of}
use Rattle.section_model.specs.declared.cell.Occasion.{Occasion}
use Rattle.section_model.specs.declared.cell.Occasion.TheVariants as on
use Rattle.section_model.specs.Ends.{End, wire, owner, Connection}
use Rattle.chain_step.specs.declared.step.Step.{Step}
use Rattle.chain_step.specs.Run.{NodeState, RunState, openings_of, node_at, run_of}
use Rattle.passage_law.specs.Nodes.{AreSteps}
use Rattle.passage_law.specs.Naming.{Allowed, AllName}

-- the connections of a node as they were opened, and those of each node
abbrev pub firsts_of : NodeState → List Connection
firsts_of node = map (λ o. o.first) (openings_of node)

abbrev pub Firsts : Type 0
Firsts = ℕ → List Connection

abbrev pub firsts_in : RunState → Firsts
firsts_in r i = firsts_of (node_at i r.nodes)

-- it holds of one of a list
abbrev pub OfOne : {A : Type 0} → (A → Type 0) → List A → Type 0
OfOne P [] = ⊥
OfOne P (x ∷ xs) = P x ⊎ OfOne P xs

-- a section to a point, with this reference
abbrev pub IsTo : ℕ → ℕ → End → Type 0
IsTo point mine (wire x) = (x.head.point ≡ point) × (x.head.mine ≡ mine)
IsTo point mine (owner u) = ⊥

-- node i gave a reference to a section to a point
abbrev pub Gave : Firsts → ℕ → ℕ → ℕ → Type 0
Gave f i point mine = OfOne (λ (c : Connection). IsTo point mine c.this ⊎ IsTo point mine c.that) (f i)

-- and node i asks by such a section
abbrev pub Asks : Firsts → ℕ → ℕ → ℕ → Type 0
Asks f i point mine = OfOne (λ (c : Connection). IsTo point mine c.that) (f i)

-- a section of node i with the reference `mine` was asked for by the section of node p that asks with the reference `other`
abbrev pub IsAskedBy : ℕ → ℕ → ℕ → End → Type 0
IsAskedBy p other mine (wire x) = (x.head.point ≡ p) × (x.head.other ≡ other) × (x.head.mine ≡ mine)
IsAskedBy p other mine (owner u) = ⊥

abbrev pub WasAsked : Firsts → ℕ → ℕ → ℕ → ℕ → Type 0
WasAsked f i p other mine = OfOne (λ (c : Connection). IsAskedBy p other mine c.this) (f i) × Asks f p i other

-- the sections with these references of nodes i and p are to each other
abbrev pub ArePaired : Firsts → ℕ → ℕ → ℕ → ℕ → Type 0
ArePaired f i mine p other = WasAsked f i p other mine ⊎ WasAsked f p i mine other

-- A section of node i to point p with these references of its other end and of its own. One whose other end isn't known has 0 for that, which is none.
abbrev pub IsSection : Firsts → ℕ → ℕ → ℕ → ℕ → Type 0
IsSection f i p other mine = (other < REFERENCES) × (mine < REFERENCES) × (1 ≤ mine) × Gave f i p mine × ((other ≡ 0) ⊎ ArePaired f i mine p other)

-- an event is CR from a point, with this source
abbrev pub HasSource : ℕ → Result Message ReadFault → Type 0
HasSource slr (Ok (Cr source class called credit calling body hop importance)) = source ≡ slr
HasSource slr _ = ⊥

abbrev pub IsCrFrom : ℕ → ℕ → Event → Type 0
IsCrFrom p slr (Arrived point sls bytes) = (point ≡ p) × HasSource slr (reading_of bytes)
IsCrFrom p slr _ = ⊥

-- outside of a section ERR and RLC can answer; and CREF does, if the event is CR of a section that asks
abbrev pub AnswersTo : Firsts → ℕ → Event → Occasion → ℕ → ℕ → Type 0
AnswersTo f i e on.Err p slr = Unit {0}
AnswersTo f i e on.Rlc p slr = Unit {0}
AnswersTo f i e on.Cref p slr = IsCrFrom p slr e × Asks f p i slr
AnswersTo f i e _ p slr = ⊥

-- what node i may name to a point by an event
abbrev pub allowed : Firsts → ℕ → Event → Allowed
allowed f i e = record {
  stands = IsSection f i;
  answers = λ o p reference. (reference < REFERENCES) × AnswersTo f i e o p reference × Gave f p i reference;
  asks = λ p mine. (mine < REFERENCES) × (1 ≤ mine) × Asks f i p mine;
}

-- The law, of each message that a node sent in a run.
abbrev pub NamesWhatWasGiven : Type 0
NamesWhatWasGiven =
    (n i : ℕ) (steps : List Step) → AreSteps n steps → 2 ≤ n → 1 ≤ i → i ≤ n →
    (let r = run_of n steps in AllByRecursion (λ (entry : Entry). AllName (allowed (firsts_in r) i entry.event) entry.outs) (node_at i r.nodes).journal)
