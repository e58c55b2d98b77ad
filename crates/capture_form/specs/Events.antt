-- Events by phase and link, and what holds of their stamps.
use Rattle.std.specs.Prelude.{◌≡◌, ℕ, ◌+◌, ◌==◌, ◌&&◌, Bool, List, [], ◌∷◌, length, filter, map}
use Rattle.std.specs.List.{AllByRecursion, flat_map, range_with_len}
use Rattle.relay_base.specs.declared.words.Stamp.{Stamp}
use Rattle.plant_core.specs.declared.entry.ControlEvent.{ControlEvent}
use Rattle.node_head.specs.declared.head.Head.{Head}

abbrev pub Stamped : Type 0
Stamped = List (Stamp × ControlEvent)

-- whether an event stands in this phase and on this link
abbrev pub is_at : ℕ → ℕ → Stamp × ControlEvent → Bool
is_at phase link e = e.0.phase == phase && e.0.link == link

-- the lists of a phase, one for each link from 0: its events, in their order
abbrev pub phase_lists : ℕ → Stamped → ℕ → List Stamped
phase_lists links events phase = map (λ link. filter (is_at phase link) events) (range_with_len 0 (links + 1))

-- the events of a phase, one link after the other, and of all phases
abbrev pub phase_events : List Stamped → Stamped
phase_events lists = flat_map (λ events. events) lists

abbrev pub all_events : List (List Stamped) → Stamped
all_events phases = flat_map phase_events phases

-- the list of each link, from this one on, has events of this phase and link
abbrev pub AreOfLinks : ℕ → ℕ → List Stamped → Type 0
AreOfLinks phase link [] = Unit {0}
AreOfLinks phase link (events ∷ more) = AllByRecursion (λ e. (e.0.phase ≡ phase) × (e.0.link ≡ link)) events × AreOfLinks phase (link + 1) more

-- each phase, from this one on, has a list for each link from 0
abbrev pub AreOfPhases : ℕ → ℕ → List (List Stamped) → Type 0
AreOfPhases links phase [] = Unit {0}
AreOfPhases links phase (lists ∷ more) = (length lists ≡ links + 1) × AreOfLinks phase 0 lists × AreOfPhases links (phase + 1) more

-- each event of a capture stands under the phase and the link of its stamp
abbrev pub IsStamped : Head → List (List Stamped) → Type 0
IsStamped head phases = AreOfPhases head.links 1 phases
