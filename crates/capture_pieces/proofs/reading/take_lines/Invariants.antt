use Rattle.std.proofs.Common.{◌≡◌, ℕ, List, Option}
use Rattle.capture_pieces.specs.Inner.Reading.{IsReadOn, IsReadTo, IsWaiting}
use Rattle.capture_pieces.proofs.ReadingLemmas.{still}
use Rattle.capture_pieces.proofs.reading.take_lines.Given as goal

-- how far lines are read, and which of them wait
abbrev pub invariant-loop-alloc : goal.invariant-loop-alloc
invariant-loop-alloc g l = record {
  read : (first : Option (List ℕ)) → IsReadTo first (g.S.Source.left l.initial.source) l.head l.initial.feed l.initial.progress
      → IsReadOn first (g.S.Source.left l.source) l.head l.feed l.progress l.blocks.items;
  waits : IsWaiting l.head l.feed l.progress l.blocks.items;
  kept : g.S.Source.faults l.source ≡ g.S.Source.faults l.initial.source;
}

abbrev pub decreases-loop-alloc : goal.decreases-loop-alloc
decreases-loop-alloc g l = still l.feed.ended l.feed.came
