use Rattle.section_model.proofs.InRanges.{rsc-in_range}
use Rattle.section_class3.proofs.sending.reset_confirmation.Goals as goal

pub sent_on-requires : goal.sent_on-requires
sent_on-requires c = rsc-in_range _ _
