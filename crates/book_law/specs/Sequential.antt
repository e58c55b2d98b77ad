-- Phases whose events come one after another.
use Rattle.std.specs.Prelude.{◌≡◌, ◌≢◌, ℕ, Bool, true, false, List, [], slice_index_or}
use Rattle.std.specs.List.{AllByRecursion, list_any}
use Rattle.relay_base.specs.declared.words.Event.TheVariants.{Message as Arrived}
use Rattle.plant_core.specs.declared.entry.ControlEvent.{ControlEvent}
use Rattle.plant_core.specs.declared.entry.ControlEvent.TheVariants.{Plain}
use Rattle.node_head.specs.declared.head.Head.{Head}
use Rattle.capture_form.specs.Events.{Stamped, phase_events}
use Rattle.capture_form.specs.Place.{place_of, place_of_octets}
use Rattle.right_book.specs.Placed.{in_control}

-- a message of management (Q.714, 5.3): of all messages, these are the control lane's
abbrev pub is_of_management : Head → ControlEvent → Bool
is_of_management head (Plain (Arrived opc sls bytes)) = in_control (place_of_octets head opc sls bytes)
is_of_management head _ = false

-- one link at most has events; and where a message of management is among them, the control lane takes each of them
pub record IsSequentialPhase (head : Head) (lists : List Stamped) : Type 0 where
  pub link : ℕ
  pub alone : (other : ℕ) → other ≢ link → slice_index_or lists other [] ≡ []
  pub managed :
      list_any (λ e. is_of_management head e.1) (phase_events lists) ≡ true
      → AllByRecursion (λ e. in_control (place_of head e.1) ≡ true) (phase_events lists)

abbrev pub IsSequential : Head → List (List Stamped) → Type 0
IsSequential head phases = AllByRecursion (IsSequentialPhase head) phases
