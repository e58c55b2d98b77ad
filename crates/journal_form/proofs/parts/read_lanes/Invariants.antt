use Rattle.journal_form.specs.Inner.Seen.{texts, seen_lanes}
use Rattle.journal_form.specs.Inner.Reading.{HasLanes}
use Rattle.journal_form.proofs.parts.read_lanes.Given as goal

abbrev pub invariant-loop-name : goal.invariant-loop-name
invariant-loop-name l = HasLanes l.names (texts l.lines) l.name-index (seen_lanes l.lanes.items) l.at
