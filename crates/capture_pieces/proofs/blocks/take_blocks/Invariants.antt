use Rattle.std.proofs.Common.{◌≡◌, ℕ, ◌+◌, List}
use Rattle.std.specs.List.{AllByRecursion}
use Rattle.capture_form.specs.Inner.Progress.{IsOfHead}
use Rattle.capture_pieces.specs.Inner.Blocks.{IsBlock, SayOctets, lines_in}
use Rattle.capture_pieces.proofs.BlockLemmas.{Left}
use Rattle.capture_pieces.proofs.blocks.take_blocks.Given as goal

-- what is left of the octets of all blocks
abbrev pub invariant-loop-block : goal.invariant-loop-block
invariant-loop-block l = record {
  left : (octets : List ℕ) → SayOctets l.head octets l.fn.blocks.items → Left l.head l.fn.progress octets l.progress l.block-iterator.rest.items;
  blocks : AllByRecursion (IsBlock l.head) l.block-iterator.rest.items;
  few : l.progress.number + lines_in l.block-iterator.rest.items ≡ l.fn.progress.number + lines_in l.fn.blocks.items;
  links : IsOfHead l.head l.progress;
}
