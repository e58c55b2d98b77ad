-- The links of a phase.
use Rattle.std.specs.Prelude.{List, map}
use Rattle.node_head.specs.declared.head.Head.{Head}
use Rattle.plant_core.specs.declared.entry.ControlEvent.{ControlEvent}
use Rattle.capture_form.specs.Events.{Stamped}
use Rattle.capture_form.specs.Place.{place_of}
use Rattle.link_threads.specs.Links.{Link}

-- what comes on a link, placed by the head
abbrev pub arrivals_of : Head → Stamped → Link ControlEvent
arrivals_of head events = map (λ e. record { place = place_of head e.1; stamp = e.0; event = e.1 }) events

-- what comes on each link
abbrev pub links_of : Head → List Stamped → List (Link ControlEvent)
links_of head lists = map (arrivals_of head) lists
