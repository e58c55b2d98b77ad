use Rattle.std.proofs.Common.{◌≡◌, ◌+◌, length, take, length-take-le, arith, rules}
use Rattle.relay_base.specs.declared.limits.TheConstants.{MOST_BYTES}
use Rattle.capture_pieces.proofs.FeedLemmas.{too-many}
use Rattle.capture_pieces.proofs.feed.Feed.take_once.Goals as goal

pub returns-then-count-left-clause-come : goal.returns-then-count-left-clause-come
returns-then-count-left-clause-come g c = λ first taken has.
    let count = c.in_ok-count.count in
    let part = take count c.read.new.buf in
    let long : length part ≡ count = length-take-le count c.read.new.buf (search rules) in
    let all : c.args.self.now.came + length part ≡ MOST_BYTES + 1 = search (rules, arith, long) in
    too-many first _ _ c.args.self.now taken part has c.in_ok-count.ensures.bytes.0 all
