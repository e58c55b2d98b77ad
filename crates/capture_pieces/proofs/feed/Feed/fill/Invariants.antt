use Rattle.std.proofs.Common.{◌≡◌, ◌+◌, ◌-◌, ◌≤◌, ℕ, List, Option, length, cond}
use Rattle.relay_base.specs.declared.limits.TheConstants.{MOST_BYTES}
use Rattle.capture_pieces.specs.Inner.Feeds.{HasCome, RiseAlike}
use Rattle.capture_pieces.specs.declared.feed.coming.TheConstants.{MOST_AT_ONCE}
use Rattle.capture_pieces.proofs.feed.Feed.fill.Given as goal

-- what came stands behind what was there
abbrev pub invariant-loop-self : goal.invariant-loop-self
invariant-loop-self g l = record {
  come : (first : Option (List ℕ)) (taken : List ℕ) → HasCome first (g.S.Source.left l.initial.source) l.initial.self taken
      → HasCome first (g.S.Source.left l.source) l.self taken;
  longer : length l.initial.self.text.items ≤ length l.self.text.items;
  rises : RiseAlike l.initial.self l.self;
  kept : g.S.Source.faults l.source ≡ g.S.Source.faults l.initial.source;
  buf : length l.buf ≡ MOST_AT_ONCE;
}

abbrev pub decreases-loop-self : goal.decreases-loop-self
decreases-loop-self g l = cond l.self.ended 0 (MOST_BYTES + 1 - l.self.came)
