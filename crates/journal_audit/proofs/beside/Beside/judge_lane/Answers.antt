use Rattle.journal_audit.proofs.BesideLemmas.{before_few}
use Rattle.journal_audit.proofs.beside.Beside.judge_lane.Goals as goal

pub new-editions-requires-clause-few : goal.new-editions-requires-clause-few
new-editions-requires-clause-few g c = before_few c.args.self.now c.requires.beside
