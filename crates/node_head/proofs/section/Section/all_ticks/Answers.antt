use Rattle.std.proofs.Common.{subst}
use Rattle.node_head.specs.Inner.Sections.{members_of}
use Rattle.node_head.specs.Refusals.{Reads}
use Rattle.node_head.proofs.TimerLemmas.{grouped-flat}
use Rattle.node_head.proofs.section.Section.all_ticks.Goals as goal

pub returns : goal.returns
returns c = subst (Reads c.grouped_ticks.result) (grouped-flat c.args.self.now.place (members_of c.args.self.now)) c.grouped_ticks.ensures
