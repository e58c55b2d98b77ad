use Rattle.section_model.proofs.InRanges.{ed-in_range}
use Rattle.section_class3.proofs.sending.expedited.Goals as goal

pub sent_on-requires : goal.sent_on-requires
sent_on-requires c = ed-in_range _ _ (rw c.in_ok-copied_octets.ensures c.requires)
