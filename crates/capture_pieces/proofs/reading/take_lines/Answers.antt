use Rattle.std.proofs.Common.{◌≡◌, true, false, refl, sym, subst, arith, rules}
use Rattle.std.specs.List.{AllByRecursion}
use Rattle.capture_form.specs.Capture.{fault_in}
use Rattle.capture_pieces.specs.Inner.Blocks.{IsBlock}
use Rattle.capture_pieces.proofs.BlockLemmas.{lines-none}
use Rattle.capture_pieces.proofs.ReadingLemmas.{faulty-end, reads-first, reads-whole, still-less}
use Rattle.capture_pieces.proofs.reading.take_lines.Goals as goal

pub loop-alloc-init : goal.loop-alloc-init
loop-alloc-init g c =
    let blocks = c.new-blocks.result.items in
    record {
      read = λ first read. reads-first first (g.S.Source.left c.args.source.now) c.args.head.now c.args.feed.now c.args.progress blocks read c.new-blocks.ensures.items;
      waits = record {
        links = c.requires.links;
        blocks = subst (AllByRecursion (IsBlock c.args.head.now)) (sym c.new-blocks.ensures.items) tt;
        small = omega (arith, c.requires.small, lines-none blocks c.new-blocks.ensures.items);
      };
      kept = refl;
    }

pub loop-alloc-smaller : goal.loop-alloc-smaller
loop-alloc-smaller g c =
    let goes : c.loop-alloc.feed.ended ≡ false = search rules in
    let old = c.loop-alloc.feed in
    let new = c.read_piece.new.feed in
    still-less old.ended new.ended old.came new.came goes c.in_ok-progress.ensures.more new.few

pub returns-in_err-take_blocks-clause-err : goal.returns-in_err-take_blocks-clause-err
returns-in_err-take_blocks-clause-err g c = λ first read.
    let on = c.loop-alloc.invariant.read first read in
    let ended : c.loop-alloc.feed.ended ≡ true = search rules in
    let faulty = faulty-end first (g.S.Source.left c.loop-alloc.source) c.args.head.now c.loop-alloc.progress c.loop-alloc.feed on.pending (fault_in c.in_err-take_blocks.field-0.0) on.read ended
    (c.in_err-take_blocks.ensures.value on.pending on.says) in
    search (rules, faulty)

pub returns-clause-ok : goal.returns-clause-ok
returns-clause-ok g c = λ first read.
    let on = c.loop-alloc.invariant.read first read in
    let ended : c.loop-alloc.feed.ended ≡ true = search rules in
    reads-whole first (g.S.Source.left c.loop-alloc.source) c.args.head.now c.loop-alloc.progress c.in_ok-take_blocks.field-0 c.loop-alloc.feed on.pending on.read ended
    (c.in_ok-take_blocks.ensures.value on.pending on.says)

pub returns-in_err-progress-clause-err : goal.returns-in_err-progress-clause-err
returns-in_err-progress-clause-err g c = λ first read.
    let stops = c.in_err-progress.ensures.err first (c.loop-alloc.invariant.read first read) in
    search (rules, stops)
