use Rattle.std.proofs.Common.{◌≡◌, false, ◌++◌, refl, rules}
use Rattle.capture_pieces.proofs.FeedLemmas.{passes-cleared, passes-more, passes-refused}
use Rattle.capture_pieces.proofs.feed.Feed.pass_over.Goals as goal

pub loop-self-preserved : goal.loop-self-preserved
loop-self-preserved g c =
    let before = c.loop-self.invariant in
    let goes : c.loop-self.self.ended ≡ false = search rules in
    record {
      come = λ first taken has.
          let over = before.come first taken has in
          let empty = passes-cleared first _ _ _ _ taken over c.clear.ensures.items refl refl in
          passes-more first _ _ _ c.loop-self.self _ taken over goes (c.in_ok-take_once.ensures.come first _ empty);
      kept = search rules;
      buf = search rules;
    }

pub returns-in_err-take_once-clause-come : goal.returns-in_err-take_once-clause-come
returns-in_err-take_once-clause-come g c = λ first taken has.
    let over = c.loop-self.invariant.come first taken has in
    let empty = passes-cleared first _ _ _ _ taken over c.clear.ensures.items refl refl in
    let all = taken ++ (c.args.self.now.text.items ++ over.rest) in
    let refused = passes-refused first (g.S.Source.left c.take_once.new.source) c.args.self.now c.take_once.new.self taken all c.in_err-take_once.field-0.0
    (c.in_err-take_once.ensures.come first all empty) in
    search (rules, refused)
