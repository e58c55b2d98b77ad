use Rattle.std.proofs.Common.{◌+◌, ◌-◌, ◌++◌, take, replicate, ap₂, ◌∙◌, None}
use Rattle.relay_base.specs.declared.limits.TheConstants.{SLOTS}
use Rattle.conn_journal.proofs.index.Index.new.Goals as goal

pub returns : goal.returns
returns c = c.in_ok-resize.ensures.items ∙ ap₂ (λ xs n. take (SLOTS + 1) xs ++ replicate (SLOTS + 1 - n) None) c.new-owners.ensures.items c.new-owners.ensures.len
