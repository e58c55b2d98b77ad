use Rattle.section_model.proofs.InRanges.{it-in_range}
use Rattle.section_class3.proofs.sending.test.Goals as goal

pub sent_on-requires : goal.sent_on-requires
sent_on-requires c = it-in_range _ _ _ _ _
