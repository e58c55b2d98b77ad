-- Whether a message of management is among events, and whether all are of the control lane.
use Rattle.std.specs.Prelude.{◌≡◌, Bool, true}
use Rattle.std.specs.List.{AllByRecursion, list_any}
use Rattle.node_head.specs.declared.head.Head.{Head}
use Rattle.capture_form.specs.Events.{Stamped}
use Rattle.capture_form.specs.Place.{place_of}
use Rattle.right_book.specs.Placed.{in_control}
use Rattle.book_law.specs.Sequential.{is_of_management}

abbrev pub has_management : Head → Stamped → Bool
has_management head events = list_any (λ e. is_of_management head e.1) events

abbrev pub AreOfControl : Head → Stamped → Type 0
AreOfControl head events = AllByRecursion (λ e. in_control (place_of head e.1) ≡ true) events
