use Rattle.std.proofs.Common.{◌≡◌, ◌-◌, ◌≤◌, ℕ, List, Option}
use Rattle.relay_base.specs.declared.limits.TheConstants.{MOST_BYTES}
use Rattle.capture_pieces.specs.Inner.Feeds.{HasCome, RiseAlike}
use Rattle.capture_pieces.proofs.feed.Feed.whole_lines.Given as goal

-- what came stands behind what was there
abbrev pub invariant-loop-self : goal.invariant-loop-self
invariant-loop-self g l = record {
  come : (first : Option (List ℕ)) (taken : List ℕ) → HasCome first (g.S.Source.left l.initial.source) l.initial.self taken
      → HasCome first (g.S.Source.left l.source) l.self taken;
  more : l.initial.self.came ≤ l.self.came;
  rises : RiseAlike l.initial.self l.self;
  kept : g.S.Source.faults l.source ≡ g.S.Source.faults l.initial.source;
}

abbrev pub decreases-loop-self : goal.decreases-loop-self
decreases-loop-self g l = MOST_BYTES - l.self.came
