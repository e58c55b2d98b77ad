use Rattle.std.proofs.Common.{◌≡◌, ◌*◌}
use Rattle.capture_generator.specs.declared.events.TheConstants.{BLOCK}
use Rattle.capture_generator.specs.Generator.{number_after, whole_blocks}
use Rattle.capture_generator.proofs.blocks.whole_blocks.Given as goal

-- the phases and the number after the blocks so far
abbrev pub invariant-loop-block : goal.invariant-loop-block
invariant-loop-block l = record {
  phases : l.phases ≡ whole_blocks l.initial.x l.block;
  number : l.x ≡ number_after l.initial.x (BLOCK * l.block);
}
