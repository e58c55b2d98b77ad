use Rattle.section_model.proofs.InRanges.{cref-in_range}
use Rattle.std.specs.Prelude.{None}
use Rattle.section_coupling.proofs.opening.cref_outs.Goals as goal

pub sent-requires : goal.sent-requires
sent-requires c = cref-in_range _ _ None None None tt tt
