use Rattle.section_model.proofs.InRanges.{ea-in_range}
use Rattle.section_class3.proofs.sending.expedited_acknowledgement.Goals as goal

pub sent_on-requires : goal.sent_on-requires
sent_on-requires c = ea-in_range _
