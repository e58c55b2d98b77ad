use Rattle.std.proofs.Common.{◌≡◌, ◌⊎◌, ◌<◌, true, length, take, sym, ap, subst, arith, rules}
use Rattle.std.proofs.lemmas.List.{length-drop, length-take-le}
use Rattle.capture_form.specs.Capture.{fault_in}
use Rattle.capture_pieces.specs.Inner.Blocks.{SayOctets}
use Rattle.capture_pieces.proofs.BlockLemmas.{say-blocks, say-few}
use Rattle.capture_pieces.proofs.ReadingLemmas.{faulty-beside, reads-beside, stops-reading}
use Rattle.capture_pieces.proofs.reading.read_piece.Goals as goal

pub returns-in_err-whole-clause-err : goal.returns-in_err-whole-clause-err
returns-in_err-whole-clause-err g c = λ first read.
    let comes = c.in_err-whole.ensures.come first read.read.taken read.read.came in
    let stops = stops-reading first (g.S.Source.left c.whole_lines.new.source) c.whole_lines.new.self read.read.taken c.in_err-whole.field-0.0 comes in
    search (rules, stops)

pub returns-in_err-read-clause-err : goal.returns-in_err-read-clause-err
returns-in_err-read-clause-err g c = λ first read.
    let faulty = faulty-beside first (g.S.Source.left c.args.source.now) (g.S.Source.left c.whole_lines.new.source) c.args.head.now c.args.progress c.args.feed.now c.whole_lines.new.self read.pending
    (fault_in c.in_err-read.field-0.0) read.read c.requires.open (c.in_ok-whole.ensures.come first read.read.taken read.read.came) (c.in_err-read.ensures.value read.pending read.says) in
    search (rules, faulty)

pub returns-clause-ok : goal.returns-clause-ok
returns-clause-ok g c = λ first read.
    let head = c.args.head.now in
    let feed = c.whole_lines.new.self in
    let count = c.in_ok-whole.whole in
    let blocks = c.in_ok-read.read.1.items in
    record {
      pending = take count feed.text.items;
      says = subst (λ octets. SayOctets head octets blocks) c.front.ensures c.in_ok-read.ensures.says;
      read = reads-beside first (g.S.Source.left c.args.source.now) head c.args.progress c.in_ok-read.read.0 c.args.feed.now feed c.go_on.new.self read.pending count read.read c.requires.open
          (g.S.Source.left c.whole_lines.new.source) (c.in_ok-whole.ensures.come first read.read.taken read.read.came) c.in_ok-whole.ensures.whole (c.in_ok-read.ensures.value read.pending read.says)
          c.in_ok-go_on.ensures.text c.in_ok-go_on.ensures.came c.in_ok-go_on.ensures.ended;
    }

pub returns-clause-waits : goal.returns-clause-waits
returns-clause-waits g c =
    let head = c.args.head.now in
    let feed = c.whole_lines.new.self in
    let whole = c.in_ok-whole.ensures.whole in
    let count = c.in_ok-whole.whole in
    let front = take count feed.text.items in
    let blocks = c.in_ok-read.read.1.items in
    let says = subst (λ octets. SayOctets head octets blocks) c.front.ensures c.in_ok-read.ensures.says in
    record {
      links = c.in_ok-read.ensures.links;
      blocks = say-blocks head front blocks says;
      small = omega (
        arith,
        c.requires.waits.small,
        c.in_ok-whole.ensures.rises,
        c.in_ok-read.ensures.number,
        say-few head front blocks says,
        length-take-le count feed.text.items whole.within,
        length-drop count feed.text.items,
        ap length c.in_ok-go_on.ensures.text,
        c.in_ok-go_on.ensures.came,
        whole.within,
      );
    }

pub returns-clause-more : goal.returns-clause-more
returns-clause-more g c =
    let old = c.args.feed.now in
    let new = c.go_on.new.self in
    subst (λ t. (t ≡ true) ⊎ (old.came < new.came)) (sym c.in_ok-go_on.ensures.ended)
    (subst (λ n. (c.whole_lines.new.self.ended ≡ true) ⊎ (old.came < n)) (sym c.in_ok-go_on.ensures.came) c.in_ok-whole.ensures.more)
