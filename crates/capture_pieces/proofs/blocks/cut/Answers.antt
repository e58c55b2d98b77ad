use Rattle.std.proofs.Common.{◌≡◌, ◌⊎◌, ℕ, ◌++◌, List, length, drop, sym, ap, ◌∙◌, take-append-drop, length-append, arith, rules}
use Rattle.std.proofs.lemmas.List.{nil_from_length}
use Rattle.block_threads.proofs.EachLemmas.{goes_on-next, goes_on-end}
use Rattle.capture_pieces.specs.Inner.Feeds.{EndsLine}
use Rattle.capture_pieces.specs.Inner.Blocks.{AreCut}
use Rattle.capture_pieces.specs.declared.whole.WholeLines.{WholeLines}
use Rattle.capture_pieces.proofs.BlockLemmas.{cut-lines, cut-none, cut-more}
use Rattle.capture_pieces.proofs.blocks.cut.Goals as goal

abbrev now : WholeLines → List ℕ
now block = block.octets.now

pub loop-rest-preserved : goal.loop-rest-preserved
loop-rest-preserved c =
    let old = c.loop-rest in
    let rest = old.rest.now in
    let lent = c.split_at.result.0.now in
    let behind = c.split_at.result.1.now in
    let end = c.line_end.result in
    let whole : rest ≡ lent ++ behind = sym (take-append-drop end rest) ∙ ap (λ l. l ++ drop end rest) (sym c.split_at.ensures.front) ∙ ap (λ l. lent ++ l) (sym c.split_at.ensures.back) in
    let ends : (length behind ≡ 0) ⊎ EndsLine lent = cut-lines rest lent behind end c.split_at.ensures.front c.split_at.ensures.back c.line_end.ensures.ends in
    record {
      so_far = goes_on-next (AreCut now c.args.octets.now) (AreCut now rest) (AreCut now behind) old.blocks.items c.push.new.self.items _ c.in_ok-push.ensures.items old.invariant.so_far (λ more m. cut-more now rest _ behind more whole ends m);
      few = omega (arith, old.invariant.few, ap length whole, length-append lent behind);
    }

pub returns : goal.returns
returns c =
    let rest = c.loop-rest.rest.now in
    let none : length rest ≡ 0 = search (rules, arith) in
    goes_on-end (AreCut now c.args.octets.now) (AreCut now rest) c.loop-rest.blocks.items c.loop-rest.invariant.so_far (cut-none now rest (nil_from_length rest none))
