use Rattle.gtt_editions.proofs.RuleKeeps.{starts}
use Rattle.gtt_editions.proofs.open.open_publisher.Goals as goal

pub new-requires-clause-rule : goal.new-requires-clause-rule
new-requires-clause-rule g c = starts c.unopened-first.result c.unopened-first.ensures.empty
