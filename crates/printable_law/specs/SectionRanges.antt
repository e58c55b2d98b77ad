-- The laws of the ranges of a connection lane: it keeps to those of what it takes.
use Rattle.std.specs.Prelude.{ℕ, ◌<◌, List, IfSome}
use Rattle.std.specs.List.{AllByRecursion}
use Rattle.relay_base.specs.declared.limits.TheConstants.{MOST_LANES}
use Rattle.relay_base.specs.declared.words.Event.{Event}
use Rattle.plant_core.specs.declared.entry.Entry.{Entry}
use Rattle.plant_core.specs.declared.terms.LaneHead.{LaneHead}
use Rattle.section_model.specs.Journals.{IsConnJournal}
use Rattle.section_model.specs.Opening.{wish_of, question_of}
use Rattle.printable_law.specs.Ranges.{EventInRange, QuestionInRange, EntryInRange, OutputsInRange, LaneHeadInRange}

abbrev pub ConnAsksInRange : Type 0
ConnAsksInRange = (head : LaneHead) (event : Event) → LaneHeadInRange head → EventInRange event → IfSome (question_of (wish_of head.terms event)) QuestionInRange

abbrev pub ConnKeepsRanges : Type 0
ConnKeepsRanges =
    (head : LaneHead) (number : ℕ) (journal : List Entry) → LaneHeadInRange head → number < MOST_LANES → IsConnJournal head number journal →
    AllByRecursion EntryInRange journal → AllByRecursion (λ e. OutputsInRange e.outs) journal
