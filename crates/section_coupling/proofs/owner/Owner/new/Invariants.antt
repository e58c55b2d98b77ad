use Rattle.std.specs.Prelude.{[]}
use Rattle.section_coupling.proofs.owner.Owner.new.Given as goal

abbrev pub ghost-after : goal.ghost-after
ghost-after a = record { got = []; passed = 0 }
