use Rattle.std.proofs.Common.{◌≡◌}
use Rattle.std.specs.List.{AllByRecursion}
use Rattle.data_lane.specs.Legal.{IsDataJournal}
use Rattle.node_engine.specs.Running.{data_journals}
use Rattle.node_engine.proofs.run.data_journals.Given as goal

-- the journals so far
abbrev pub invariant-loop-lane : goal.invariant-loop-lane
invariant-loop-lane l = record {
  value : l.journals ≡ data_journals l.yielded;
  legal : AllByRecursion (λ lane. IsDataJournal lane.head lane.number lane.journal) l.yielded;
}
