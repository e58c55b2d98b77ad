use Rattle.gate_tests.proofs.TrialLemmas.{last_two}
use Rattle.gate_tests.proofs.turns.says_who_has_the_turn.Goals as goal

pub join-early-requires-after_bounds : goal.join-early-requires-after_bounds
join-early-requires-after_bounds g c κs within =
    let two = last_two c.in_ok-gate.gate c.in_ok-gate.passes c.pop.new.self c.pop-2.new.self c.pop.result c.pop-2.result c.expect-second.result c.expect-first.result c.in_ok-gate.ensures.passes.0 c.in_ok-gate.ensures.unused c.pop.ensures.last c.pop-2.ensures.last c.expect-second.ensures c.expect-first.ensures in two
