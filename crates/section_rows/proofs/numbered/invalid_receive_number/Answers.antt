use Rattle.std.proofs.Common.{refl}
use Rattle.section_rows.specs.Played.{played}
use Rattle.section_rows.proofs.Showing.{shows}
use Rattle.section_rows.proofs.numbered.invalid_receive_number.Goals as goal

pub returns : goal.returns
unfolding played
returns c = shows _ _ _ refl
