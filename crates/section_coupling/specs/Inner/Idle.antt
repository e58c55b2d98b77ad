-- Where a part of a step does nothing.
use Rattle.std.specs.Prelude.{◌==◌, ◌&&◌, ◌||◌, not, nat_lt, Bool, true, false, List, length, is_some}
use Rattle.std.specs.List.{list_any}
use Rattle.section_model.specs.declared.cell.Cell.{Cell}
use Rattle.section_model.specs.declared.cell.Cell.TheVariants as cell
use Rattle.section_model.specs.declared.cell.Timer.{Timer}
use Rattle.section_model.specs.Ends.{Section, End, wire, owner, is_up}
use Rattle.section_model.specs.Step.{is_due_at}

-- one of these timers of an end fires at this tick
abbrev pub has_due : List Timer → End → Bool
has_due timers e = list_any (λ timer. is_due_at timer e) timers

-- a section of class 3 that is up
abbrev pub is_in_class_3 : End → Bool
is_in_class_3 (wire x) = is_up x.head.state && x.head.class == 3
is_in_class_3 (owner u) = false

-- units or expedited data wait on a section
abbrev pub has_waiting : Section → Bool
has_waiting x = nat_lt 0 (length x.windows.waits) || is_some x.windows.waiting

-- there is something to do on a section for a part of what follows each event: something waits to leave, or something that left is to be acknowledged
abbrev pub has_turn : Cell → Section → Bool
has_turn cell.Leave x = has_waiting x
has_turn cell.Acknowledge x = not (x.windows.passed == x.windows.told)
has_turn _ x = true

-- a part of it may do something on an end: on a section of class 3 that is up, where there is something to do
abbrev pub may_turn : Cell → End → Bool
may_turn c (wire x) = is_in_class_3 (wire x) && has_turn c x
may_turn c (owner u) = false
