use Rattle.std.proofs.Common.{◌+◌, length}
use Rattle.capture_form.specs.Events.{all_events, AreOfPhases}
use Rattle.right_book.specs.Right.{HasServed}
use Rattle.node_engine.specs.Running.{CanTake, book_of}
use Rattle.node_engine.proofs.run.run_phases.Given as goal

-- the lanes have the events of the phases so far, and can take those of the others
abbrev pub invariant-loop-phase : goal.invariant-loop-phase
invariant-loop-phase g l = record {
  able : CanTake l.head (all_events l.phase-iterator.rest.items) l.node;
  stamped : AreOfPhases l.head.links (length l.yielded + 1) l.phase-iterator.rest.items;
  served : HasServed l.head l.yielded (book_of l.node);
}
