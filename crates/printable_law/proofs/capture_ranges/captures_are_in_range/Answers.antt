use Rattle.printable_law.proofs.Captures.{captures_are_in_range}
use Rattle.printable_law.proofs.capture_ranges.captures_are_in_range.Goals as goal

pub returns : goal.returns
returns c = captures_are_in_range
