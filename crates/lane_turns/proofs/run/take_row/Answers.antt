use denote.Param.Send.{sendable}
use Rattle.std.proofs.Common.{List, All, sym, ◌∙◌, subst}
use Rattle.std.proofs.lemmas.List.{map-id}
use Rattle.plant_core.specs.declared.entry.ControlEvent.{ControlEvent}
use Rattle.right_book.specs.Lanes.{LanesFrom}
use Rattle.link_threads.specs.Links.{Link, IsStamped}
use Rattle.link_threads.specs.Gates.{IsAtOpening}
use Rattle.lane_turns.specs.Turns.{plan_of, taken_of}
use Rattle.lane_turns.proofs.Sent.{turn_send}
use Rattle.lane_turns.proofs.RowLemmas.{phase_stamped}
use Rattle.lane_turns.proofs.run.take_row.Goals as goal

pub take_events-requires-send-L : goal.take_events-requires-send-L
take_events-requires-send-L g c κs within = search (sendable, turn_send)

pub take_events-requires-clause-stamped : goal.take_events-requires-clause-stamped
take_events-requires-clause-stamped g c κs within =
    subst (LanesFrom IsStamped 0) (sym (map-id c.in_ok-links.links.items ∙ c.in_ok-links.ensures)) (phase_stamped c.args.head.now c.args.phase c.requires.phase.number 0 c.requires.phase.stamped)

pub take_events-requires-clause-lanes : goal.take_events-requires-clause-lanes
take_events-requires-clause-lanes g c κs within =
    subst (λ (links : List (Link ControlEvent)). All (IsAtOpening plan_of taken_of (λ t. t.opening.name) links) c.args.turns.items) (sym (map-id c.in_ok-links.links.items ∙ c.in_ok-links.ensures)) c.requires.lanes
