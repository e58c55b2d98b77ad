use Rattle.std.proofs.Common.{◌∙◌}
use Rattle.journal_form.specs.Inner.Seen.{texts}
use Rattle.journal_form.proofs.HeadingLemmas.{entry_with_more}
use Rattle.journal_form.proofs.heading.entry_with.Goals as goal

pub returns : goal.returns
returns c = c.asking.ensures ∙ entry_with_more (texts c.args.stamp.now) c.args.more.now _ c.if-more-lt3.false
