use Rattle.section_model.proofs.InRanges.{dt2-in_range}
use Rattle.section_class3.proofs.sending.numbered.Goals as goal

pub sent_on-requires : goal.sent_on-requires
sent_on-requires c = dt2-in_range _ _ _ (rw c.in_ok-copied_octets.ensures c.requires.body)
