use Rattle.section_model.proofs.InRanges.{cref-in_range}
use Rattle.section_class2.proofs.sending.refusal.Goals as goal

pub sent_on-requires : goal.sent_on-requires
sent_on-requires c =
    cref-in_range _ _ _ _ _ (rw c.in_ok-copied.ensures c.requires.called) (rw c.in_ok-copied-2.ensures c.requires.body)
