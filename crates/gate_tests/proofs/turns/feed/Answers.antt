use Rattle.std.proofs.Common.{◌≡◌, ℕ, ◌+◌, ◌*◌, Some, sym, subst, arith, slice_get}
use Rattle.gate_tests.specs.Trials.{events_of}
use Rattle.gate_tests.proofs.TrialLemmas.{event_at}
use Rattle.gate_tests.proofs.turns.feed.Goals as goal

pub deliver-requires-clause-next : goal.deliver-requires-clause-next
deliver-requires-clause-next g c = let stamp = c.stamp_of.result in let line : ℕ = c.loop-line.line in let event : ℕ = c.from.result * 1000 + line in let same = c.from.ensures in let link = c.stamp_of.ensures.1 in
    subst (λ (n : ℕ). slice_get (events_of stamp.link) n ≡ Some (stamp, event)) (sym c.loop-line.invariant.done)
    (event_at stamp line event c.stamp_of.ensures.0 c.stamp_of.ensures.2 (omega arith) c.loop-line-test.true)
