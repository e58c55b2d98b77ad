use Rattle.section_model.proofs.InRanges.{error-in_range}
use Rattle.section_coupling.proofs.hearing.reference_error.Goals as goal

pub write-requires : goal.write-requires
write-requires c = error-in_range _ _
