use Rattle.std.proofs.Common.{length}
use Rattle.gtt_table.proofs.search.+longest_match.Given as goal

abbrev pub decreases-longest_match : goal.decreases-longest_match
decreases-longest_match l = length l.rows.now
