use Rattle.std.proofs.Common.{◌≡◌, drop}
use Rattle.journal_form.specs.Inner.Seen.{seen_lanes}
use Rattle.journal_finding.specs.Finding.{journals_in}
use Rattle.journal_audit.specs.Inner.Judging.{fault_in, kind_rules}
use Rattle.journal_audit.proofs.beside.Beside.judge_kind.Given as goal

-- the first fault of all lanes is that of those that are left
abbrev pub invariant-loop-number : goal.invariant-loop-number
invariant-loop-number g l =
    fault_in (journals_in (kind_rules g.L.PlainLane.named g.L.PlainLane.question g.L.PlainLane.outs l.self) 0 (seen_lanes l.forms))
    ≡ fault_in (journals_in (kind_rules g.L.PlainLane.named g.L.PlainLane.question g.L.PlainLane.outs l.self) l.number (seen_lanes (drop l.number l.forms)))
