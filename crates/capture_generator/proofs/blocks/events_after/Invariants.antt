use Rattle.std.proofs.Common.{◌≡◌}
use Rattle.capture_generator.specs.Generator.{number_after, events_after}
use Rattle.capture_generator.proofs.blocks.events_after.Given as goal

-- the events and the number after the lines so far
abbrev pub invariant-loop-index : goal.invariant-loop-index
invariant-loop-index l = record {
  events : l.events ≡ events_after l.initial.x l.first l.index;
  number : l.x ≡ number_after l.initial.x l.index;
}
