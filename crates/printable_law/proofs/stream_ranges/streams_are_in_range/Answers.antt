use Rattle.printable_law.proofs.Streams.{streams_are_in_range}
use Rattle.printable_law.proofs.stream_ranges.streams_are_in_range.Goals as goal

pub returns : goal.returns
returns c = streams_are_in_range
