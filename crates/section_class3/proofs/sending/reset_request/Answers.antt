use Rattle.section_model.proofs.InRanges.{rsr-in_range}
use Rattle.section_class3.proofs.sending.reset_request.Goals as goal

pub sent_on-requires : goal.sent_on-requires
sent_on-requires c = rsr-in_range _ _ _
