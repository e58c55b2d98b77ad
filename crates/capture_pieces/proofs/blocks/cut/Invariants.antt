use Rattle.std.proofs.Common.{◌<◌, ◌^◌, length}
use Rattle.block_threads.proofs.EachLemmas.{GoesOn}
use Rattle.capture_pieces.specs.Inner.Blocks.{AreCut}
use Rattle.capture_pieces.proofs.blocks.cut.Given as goal

-- whatever blocks what is left is cut into, behind these they are those of all
abbrev pub invariant-loop-rest : goal.invariant-loop-rest
invariant-loop-rest l = record {
  so_far : GoesOn (AreCut (λ block. block.octets.now) l.octets) (AreCut (λ block. block.octets.now) l.rest) l.blocks.items;
  few : length l.rest < 2 ^ 32;
}

abbrev pub decreases-loop-rest : goal.decreases-loop-rest
decreases-loop-rest l = length l.rest
