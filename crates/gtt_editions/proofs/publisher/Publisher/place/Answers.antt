use Rattle.gtt_editions.proofs.RuleKeeps.{forks, merges}
use Rattle.gtt_editions.proofs.publisher.Publisher.place.Goals as goal

pub tell-requires : goal.tell-requires
tell-requires g c = forks _ _

pub learn-requires-clause-rule : goal.learn-requires-clause-rule
learn-requires-clause-rule g c = merges _ _ _ _
