use Rattle.std.proofs.Common.{◌≡◌, ◌-◌, ℕ, List, Option}
use Rattle.relay_base.specs.declared.limits.TheConstants.{MOST_BYTES}
use Rattle.capture_pieces.specs.Inner.Feeds.{HasCome, RiseAlike}
use Rattle.capture_pieces.proofs.feed.Feed.with_mark.Given as goal

-- what came stands behind what was there
abbrev pub invariant-loop-whole : goal.invariant-loop-whole
invariant-loop-whole g l = record {
  come : (first : Option (List ℕ)) (taken : List ℕ) → HasCome first (g.S.Source.left l.initial.source) l.initial.self taken
      → HasCome first (g.S.Source.left l.source) l.self taken;
  rises : RiseAlike l.initial.self l.self;
  kept : g.S.Source.faults l.source ≡ g.S.Source.faults l.initial.source;
}

abbrev pub decreases-loop-whole : goal.decreases-loop-whole
decreases-loop-whole g l = MOST_BYTES - l.self.came
