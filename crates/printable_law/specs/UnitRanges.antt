-- The laws of the ranges of a data lane: it keeps to those of what it takes.
use Rattle.std.specs.Prelude.{ℕ, List, IfSome}
use Rattle.std.specs.List.{AllByRecursion}
use Rattle.relay_base.specs.declared.words.Event.{Event}
use Rattle.plant_core.specs.declared.entry.Entry.{Entry}
use Rattle.plant_core.specs.declared.terms.LaneHead.{LaneHead}
use Rattle.data_lane.specs.Legal.{question_of, IsDataJournal}
use Rattle.printable_law.specs.Ranges.{EventInRange, QuestionInRange, EntryInRange, OutputsInRange, LaneHeadInRange}

abbrev pub DataAsksInRange : Type 0
DataAsksInRange = (event : Event) → EventInRange event → IfSome (question_of event) QuestionInRange

abbrev pub DataKeepsRanges : Type 0
DataKeepsRanges =
    (head : LaneHead) (number : ℕ) (journal : List Entry) → LaneHeadInRange head → IsDataJournal head number journal →
    AllByRecursion EntryInRange journal → AllByRecursion (λ e. OutputsInRange e.outs) journal
