use Rattle.std.proofs.Common.{◌≡◌, ◌<◌, ℕ, [], map, get_or}
use Rattle.link_threads.specs.Links.{Link}
use Rattle.link_threads.specs.Gates.{HaveFedBut}
use Rattle.link_threads.proofs.runs.empty_all.Given as goal

-- none waits for the lanes so far
abbrev pub invariant-loop-lane : goal.invariant-loop-lane
invariant-loop-lane g l = record {
  some : (left : Link g.row.L-Event.Denot) × HaveFedBut g.L.LaneState.plan l.number left l.doors (map (λ u. u.items) l.waiting) l.passes;
  fed : (left : Link g.row.L-Event.Denot) → HaveFedBut g.L.LaneState.plan l.number left l.doors (map (λ u. u.items) l.fn.waiting) l.fn.passes
      → HaveFedBut g.L.LaneState.plan l.number left l.doors (map (λ u. u.items) l.waiting) l.passes;
  none : (k : ℕ) → k < l.lane → get_or (map (λ u. u.items) l.waiting) k [] ≡ [];
}
