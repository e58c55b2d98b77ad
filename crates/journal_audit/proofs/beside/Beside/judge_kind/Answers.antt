use Rattle.journal_audit.proofs.FormLemmas.{short_at}
use Rattle.journal_audit.proofs.beside.Beside.judge_kind.Goals as goal

pub judge_lane-requires-clause-short : goal.judge_lane-requires-clause-short
judge_lane-requires-clause-short g c = short_at c.args.forms.now c.loop-number.number c.index-forms-number.result c.loop-number-test.true c.index-forms-number.is c.requires.short
