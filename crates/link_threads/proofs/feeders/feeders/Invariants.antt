use Rattle.std.proofs.Common.{◌≡◌, ◌+◌, ◌≤◌, length, map, drop, vec_capacity}
use Rattle.lane_gate.specs.declared.gate.TheConstants.{MOST_CALLERS}
use Rattle.link_threads.specs.Pairs.{PairsFrom}
use Rattle.link_threads.specs.Gates.{IsFeederOf}
use Rattle.link_threads.proofs.feeders.feeders.Given as goal

abbrev pub invariant-loop-passes : goal.invariant-loop-passes
invariant-loop-passes g l = record {
  count : length l.yielded + length l.passes-iterator.rest.items ≡ length l.fn.links.items;
  few : length l.feeders.items + length l.passes-iterator.rest.items ≤ MOST_CALLERS;
  room : length l.feeders.items + length l.passes-iterator.rest.items ≤ vec_capacity l.feeders;
  each : PairsFrom (IsFeederOf l.doors (map g.A.Arrivals.left l.fn.links.items)) 0 l.yielded l.feeders.items;
  left : drop (length l.yielded) l.fn.links.items ≡ l.left.rest.items;
}
