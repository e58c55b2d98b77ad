use Rattle.section_model.proofs.InRanges.{error-in_range, rlc-in_range}
use Rattle.section_coupling.proofs.unheard.answer.Goals as goal

pub sent-requires : goal.sent-requires
sent-requires c = error-in_range _ _

pub sent-requires-in-Rlsd : goal.sent-requires-in-Rlsd
sent-requires-in-Rlsd c = rlc-in_range _ _
