use Rattle.std.proofs.Common.{◌≡◌, drop}
use Rattle.lane_audit.proofs.LineLemmas.{alike}
use Rattle.lane_audit.proofs.written.are_outs_written.Given as goal

-- what is found of all is what is found of those that are left
abbrev pub invariant-loop-at : goal.invariant-loop-at
invariant-loop-at l = alike l.outs l.lines ≡ alike (drop l.at l.outs) (drop l.at l.lines)
