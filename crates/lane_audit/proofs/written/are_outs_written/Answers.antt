use Rattle.std.proofs.Common.{sym}
use Rattle.lane_audit.proofs.LineLemmas.{others}
use Rattle.lane_audit.proofs.written.are_outs_written.Goals as goal

pub returns-then-outs-lines : goal.returns-then-outs-lines
returns-then-outs-lines c = sym (others c.args.outs.now c.args.lines.now c.if-outs-lines.true)
