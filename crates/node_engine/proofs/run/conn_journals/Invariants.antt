use Rattle.std.proofs.Common.{◌≡◌}
use Rattle.std.specs.List.{AllByRecursion}
use Rattle.section_model.specs.Journals.{IsConnJournal}
use Rattle.node_engine.specs.Running.{conn_journals}
use Rattle.node_engine.proofs.run.conn_journals.Given as goal

-- the journals so far
abbrev pub invariant-loop-lane : goal.invariant-loop-lane
invariant-loop-lane l = record {
  value : l.journals ≡ conn_journals l.yielded;
  legal : AllByRecursion (λ lane. IsConnJournal lane.head lane.number lane.journal) l.yielded;
}
