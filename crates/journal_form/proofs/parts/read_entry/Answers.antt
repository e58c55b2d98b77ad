use Rattle.std.proofs.Common.{[], rules}
use Rattle.journal_form.proofs.PartLemmas.{entry_none, entry_some}
use Rattle.journal_form.proofs.parts.read_entry.Goals as goal

pub returns-in_default : goal.returns-in_default
returns-in_default c = entry_none c.args.lines.now c.args.at (record { ref_ptr = (0, 0); now = [] }) c.if-at-lines.false (search rules)

pub returns : goal.returns
returns c = entry_some c.args.lines.now c.args.at (record { ref_ptr = (0, 0); now = [] }) _ _ c.if-at-lines.false (search rules) c.in_ok-outs.ensures
