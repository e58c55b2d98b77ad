use Rattle.std.proofs.Common.{◌-◌, length}
use Rattle.journal_form.specs.Inner.Seen.{texts, seen_parts}
use Rattle.journal_form.specs.Inner.Reading.{HasRead}
use Rattle.journal_form.proofs.parts.read_entries.Given as goal

abbrev pub invariant-loop-entries : goal.invariant-loop-entries
invariant-loop-entries l = HasRead l.from (texts l.lines) (seen_parts l.entries.items) l.at

abbrev pub decreases-loop-entries : goal.decreases-loop-entries
decreases-loop-entries l = length l.lines - l.at
