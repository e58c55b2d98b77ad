use Rattle.std.proofs.Common.{◌≡◌, ◌++◌, length}
use Rattle.section_model.specs.Views.{section_of}
use Rattle.section_model.specs.Lengths.{UnitsWithin}
use Rattle.section_class3.specs.Inner.Sending.{all_sent, units_output}
use Rattle.section_class3.proofs.turning.send_units.Given as goal

abbrev pub invariant-loop-ps : goal.invariant-loop-ps
invariant-loop-ps l = record {
  outs : l.outs ++ units_output (section_of l.wire) l.flow ≡ units_output (section_of l.wire) l.initial.flow;
  flow : all_sent l.flow ≡ all_sent l.initial.flow;
  waits : UnitsWithin l.flow.waits;
}

abbrev pub decreases-loop-ps : goal.decreases-loop-ps
decreases-loop-ps l = length l.flow.waits
