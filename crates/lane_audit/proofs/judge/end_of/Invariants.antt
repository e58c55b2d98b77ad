use Rattle.std.proofs.Common.{◌≡◌, ◌+◌, drop}
use Rattle.journal_form.specs.Inner.Seen.{seen_parts, seen_lane}
use Rattle.journal_form.specs.Parts.{entries_size, lane_size}
use Rattle.lane_audit.proofs.judge.end_of.Given as goal

-- the parts that are left fill the lane
abbrev pub invariant-loop-part : goal.invariant-loop-part
invariant-loop-part l = l.end + entries_size (seen_parts (drop l.part-index l.form.entries.items)) ≡ l.form.number + lane_size (seen_lane l.form)
