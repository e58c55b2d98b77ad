use Rattle.gtt_editions.proofs.RuleKeeps.{sees}
use Rattle.gtt_editions.proofs.moves.enter.Goals as goal

pub enter_as-requires : goal.enter_as-requires
enter_as-requires g c = sees _ _
