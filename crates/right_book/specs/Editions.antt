-- Which edition of the routing data answers what an event asks.
use Rattle.std.specs.Prelude.{◌≡◌, ◌≤◌, ◌&&◌, ℕ, nat_lt, nat_le, List, [], ◌∷◌, Option, Some, None, is_some, take, count_by}
use Rattle.std.specs.List.{flat_map}
use Rattle.plant_core.specs.Asking.{Question, answer_to}
use Rattle.node_head.specs.declared.head.Head.{Head}
use Rattle.plant_core.specs.Plant.{RoutingData}
use Rattle.plant_core.specs.declared.change.Group.{Group}
use Rattle.plant_core.specs.declared.entry.Asked.{Asked}
use Rattle.plant_core.specs.declared.entry.Entry.{Entry}
use Rattle.plant_core.specs.declared.entry.ControlEntry.{ControlEntry}
use Rattle.scmg.specs.Control.{changes_in, routing_after}
use Rattle.right_book.specs.Heads.{routing_of, control_head_of}

-- the groups of changes that a control journal published, in order
abbrev pub changes_of : Head → List ControlEntry → List Group
changes_of head control = changes_in (control_head_of head) (routing_of head) control

-- the routing data of an edition: those of the head, after so many of these groups, each whole
abbrev pub edition_of : Head → List ControlEntry → ℕ → RoutingData
edition_of head control n = routing_after (routing_of head) (take n (changes_of head control))

-- how many editions a control journal published before a phase, and up to its end
abbrev pub editions_before : ℕ → List ControlEntry → ℕ
editions_before phase control = count_by (λ e. is_some e.published && nat_lt e.stamp.phase phase) control

abbrev pub editions_upto : ℕ → List ControlEntry → ℕ
editions_upto phase control = count_by (λ e. is_some e.published && nat_le e.stamp.phase phase) control

-- a routing in a phase: the answer of the edition that it names, which was published before the phase or in it
pub record IsAnswer (head : Head) (control : List ControlEntry) (phase : ℕ) (asks : Question) (asked : Asked) : Type 0 where
  pub least : editions_before phase control ≤ asked.edition
  pub most : asked.edition ≤ editions_upto phase control
  pub answer : asked.answer ≡ answer_to (edition_of head control asked.edition) asks

-- there is a routing exactly where one is asked
abbrev pub IsRouting : Head → List ControlEntry → ℕ → Option Question → Option Asked → Type 0
IsRouting head control phase None None = Unit {0}
IsRouting head control phase (Some asks) (Some asked) = IsAnswer head control phase asks asked
IsRouting head control phase _ _ = ⊥

-- the editions that the routings of a journal name, in order
abbrev pub named : Option Asked → List ℕ
named None = []
named (Some asked) = asked.edition ∷ []

abbrev pub editions_in : List Entry → List ℕ
editions_in journal = flat_map (λ e. named e.asked) journal
