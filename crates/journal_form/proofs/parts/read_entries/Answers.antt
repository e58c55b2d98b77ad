use Rattle.std.proofs.Common.{rules}
use Rattle.journal_form.specs.Inner.Seen.{texts}
use Rattle.journal_form.proofs.PartLemmas.{HasRead-then}
use Rattle.journal_form.proofs.parts.read_entries.Goals as goal

pub loop-entries-preserved : goal.loop-entries-preserved
loop-entries-preserved c =
    HasRead-then c.args.from (texts c.args.lines.now) c.loop-entries.entries.items c.loop-entries.at c.push.new.self.items c.in-Some.entry c.len.result c.loop-entries.invariant (search rules) (search rules) (search rules)
