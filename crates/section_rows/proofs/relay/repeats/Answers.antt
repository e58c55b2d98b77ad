use Rattle.std.proofs.Common.{refl}
use Rattle.section_rows.specs.Played.{played}
use Rattle.section_rows.proofs.Showing.{shows}
use Rattle.section_rows.proofs.relay.repeats.Goals as goal

-- The whole computation in one step: it is too long for `search`.
pub returns : goal.returns
unfolding played
returns c = shows _ _ _ refl
