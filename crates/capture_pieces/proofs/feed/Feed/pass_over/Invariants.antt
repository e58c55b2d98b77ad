use Rattle.std.proofs.Common.{◌≡◌, ◌+◌, ◌-◌, ℕ, List, Option, length, cond}
use Rattle.relay_base.specs.declared.limits.TheConstants.{MOST_BYTES}
use Rattle.capture_pieces.specs.Inner.Feeds.{HasCome}
use Rattle.capture_pieces.specs.declared.feed.coming.TheConstants.{MOST_AT_ONCE}
use Rattle.capture_pieces.proofs.FeedLemmas.{PassesOver}
use Rattle.capture_pieces.proofs.feed.Feed.pass_over.Given as goal

-- what came stands behind what was there, and what was passed over behind that
abbrev pub invariant-loop-self : goal.invariant-loop-self
invariant-loop-self g l = record {
  come : (first : Option (List ℕ)) (taken : List ℕ) → HasCome first (g.S.Source.left l.initial.source) l.initial.self taken
      → PassesOver first (g.S.Source.left l.source) l.initial.self l.self taken;
  kept : g.S.Source.faults l.source ≡ g.S.Source.faults l.initial.source;
  buf : length l.buf ≡ MOST_AT_ONCE;
}

abbrev pub decreases-loop-self : goal.decreases-loop-self
decreases-loop-self g l = cond l.self.ended 0 (MOST_BYTES + 1 - l.self.came)
