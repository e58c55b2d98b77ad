use Rattle.std.proofs.Common.{◌≡◌, ◌+◌, ◌≤◌, length, vec_capacity}
use Rattle.link_threads.specs.Phases.{links_of}
use Rattle.link_threads.proofs.phase_link.phase_links.Given as goal

abbrev pub invariant-loop-events : goal.invariant-loop-events
invariant-loop-events l = record {
  links : l.links.items ≡ links_of l.head l.yielded;
  room : length l.links.items + length l.events-iterator.rest.items ≤ vec_capacity l.links;
}
