use Rattle.section_model.proofs.InRanges.{rlc-in_range}
use Rattle.section_class2.proofs.sending.rlc.Goals as goal

pub sent_on-requires : goal.sent_on-requires
sent_on-requires c = rlc-in_range _ _
