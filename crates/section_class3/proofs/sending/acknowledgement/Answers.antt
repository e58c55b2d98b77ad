use Rattle.section_model.proofs.InRanges.{ak-in_range}
use Rattle.section_class3.proofs.sending.acknowledgement.Goals as goal

pub sent_on-requires : goal.sent_on-requires
sent_on-requires c = ak-in_range _ _ _
