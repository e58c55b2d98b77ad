use Rattle.std.proofs.Common.{◌≡◌, ◌+◌, ◌^◌, ◌<◌, length, drop}
use Rattle.journal_form.specs.Inner.Seen.{seen_parts, seen_lane}
use Rattle.journal_form.specs.Parts.{entries_size, lane_size}
use Rattle.journal_finding.specs.Entries.{journal_from}
use Rattle.lane_audit.specs.Follows.{Awaits, Names}
use Rattle.lane_audit.proofs.judge.judge_lane.Given as goal

-- what the parts so far write is the lane's journal, and what is found of all is what is found of the others behind it
abbrev pub invariant-loop-part : goal.invariant-loop-part
invariant-loop-part g l = record {
  rules : g.R.Replay.rules l.lane ≡ g.R.Replay.rules l.fn.lane;
  head : g.R.Replay.head l.lane ≡ g.R.Replay.head l.fn.lane;
  few : length (g.R.Replay.journal l.lane) + (1 + entries_size (seen_parts (drop l.part-index l.form.entries.items))) < 2 ^ 32;
  awaits : Awaits (g.R.Replay.rules l.fn.lane) (g.R.Replay.journal l.lane) l.events;
  names : Names (g.R.Replay.rules l.fn.lane) (g.R.Replay.journal l.lane) l.editions;
  found : journal_from (g.R.Replay.rules l.fn.lane) (l.form.number + lane_size (seen_lane l.form)) (g.R.Replay.journal l.fn.lane) (seen_parts l.form.entries.items)
      ≡ journal_from (g.R.Replay.rules l.fn.lane) (l.form.number + lane_size (seen_lane l.form)) (g.R.Replay.journal l.lane) (seen_parts (drop l.part-index l.form.entries.items));
}
