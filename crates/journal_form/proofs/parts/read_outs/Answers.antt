use Rattle.std.proofs.Common.{[], rules}
use Rattle.journal_form.proofs.PartLemmas.{outs_end, outs_go}
use Rattle.journal_form.proofs.parts.read_outs.Goals as goal

pub returns-then-not-branch : goal.returns-then-not-branch
returns-then-not-branch c = outs_end c.args.lines.now c.loop-index.index (record { ref_ptr = (0, 0); now = [] }) _ _ c.loop-index-test.true (search rules) c.loop-index.invariant

pub loop-index-preserved : goal.loop-index-preserved
loop-index-preserved c = outs_go c.args.lines.now c.loop-index.index (record { ref_ptr = (0, 0); now = [] }) c.loop-index.outs.items _ _ c.loop-index-test.true (search rules) (search rules) c.loop-index.invariant
