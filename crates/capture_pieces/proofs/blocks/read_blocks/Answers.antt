use Rattle.std.proofs.Common.{◌≡◌, subst, rules}
use Rattle.capture_pieces.specs.Inner.Blocks.{IsOfOctets}
use Rattle.capture_pieces.specs.declared.whole.WholeLines.{WholeLines}
use Rattle.capture_pieces.proofs.BlockLemmas.{say-each}
use Rattle.capture_pieces.proofs.blocks.read_blocks.Goals as goal

pub returns : goal.returns
returns g c =
    let head = c.args.head.now in
    let octets = c.args.octets.now in
    let blocks = c.in_ok-blocks.blocks.items in
    let said = c.in_ok-said.said.items in
    let lent : c.as_slice.result.now ≡ blocks = search rules in
    say-each (λ (b : WholeLines). b.octets.now) head octets blocks said c.in_ok-blocks.ensures (rw lent at c.in_ok-said.ensures)
    (λ b x gives. subst (λ (l : WholeLines). IsOfOctets head l.octets.now x) gives.shows gives.says.met)
