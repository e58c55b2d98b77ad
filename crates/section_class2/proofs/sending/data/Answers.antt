use Rattle.section_model.proofs.InRanges.{dt1-in_range}
use Rattle.section_class2.proofs.sending.data.Goals as goal

pub sent_on-requires : goal.sent_on-requires
sent_on-requires c = dt1-in_range _ _ _ (rw c.in_ok-copied_octets.ensures c.requires)
