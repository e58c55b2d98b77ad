use Rattle.std.proofs.Common.{refl}
use Rattle.section_rows.specs.Played.{played}
use Rattle.section_rows.proofs.Alone.{are_heard, outputs_along, shows_alone}
use Rattle.section_rows.proofs.numbered.numbers_after_127.Goals as goal

pub returns : goal.returns
unfolding played are_heard outputs_along
returns c = shows_alone _ _ _ _ _ _ refl refl refl refl
