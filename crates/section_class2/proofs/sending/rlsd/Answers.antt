use Rattle.section_model.proofs.InRanges.{rlsd-in_range}
use Rattle.section_class2.proofs.sending.rlsd.Goals as goal

pub sent_on-requires : goal.sent_on-requires
sent_on-requires c = rlsd-in_range _ _ _ _ _ (rw c.in_ok-copied.ensures c.requires)
