-- The law of the ranges of the control lane: it keeps to those of what it takes.
use Rattle.std.specs.Prelude.{List}
use Rattle.std.specs.List.{AllByRecursion}
use Rattle.plant_core.specs.Plant.{RoutingData}
use Rattle.plant_core.specs.declared.entry.ControlEntry.{ControlEntry}
use Rattle.plant_core.specs.declared.terms.Replicate.{Replicate}
use Rattle.scmg.specs.Control.{IsControlJournal, changes_in}
use Rattle.scmg.specs.declared.head.ControlHead.{ControlHead}
use Rattle.printable_law.specs.OctetLaw.{IsOctet}
use Rattle.printable_law.specs.Ranges.{IsPoint, ControlEventInRange, GroupInRange, RoutingInRange, OutputsInRange}

abbrev pub ReplicateInRange : Replicate → Type 0
ReplicateInRange r = IsOctet r.ssn × IsPoint r.point

-- the points that the lane sends messages to on its own
pub record ControlHeadInRange (head : ControlHead) : Type 0 where
  pub concerned : AllByRecursion IsPoint head.concerned
  pub replicates : AllByRecursion ReplicateInRange head.replicates

abbrev pub EventsInRange : List ControlEntry → Type 0
EventsInRange journal = AllByRecursion (λ (e : ControlEntry). ControlEventInRange e.event) journal

pub record ControlKeepsRanges : Type 0 where
  pub outputs :
      (head : ControlHead) (start : RoutingData) (journal : List ControlEntry) → ControlHeadInRange head → RoutingInRange start
      → IsControlJournal head start journal → EventsInRange journal → AllByRecursion (λ e. OutputsInRange e.outs) journal
  pub changes :
      (head : ControlHead) (start : RoutingData) (journal : List ControlEntry) → ControlHeadInRange head → RoutingInRange start
      → EventsInRange journal → AllByRecursion GroupInRange (changes_in head start journal)
