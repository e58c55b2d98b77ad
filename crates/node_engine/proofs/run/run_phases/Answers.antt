use Rattle.std.proofs.Common.{◌≡◌, ◌+◌, List, ◌∷◌, length, subst, rules}
use Rattle.capture_form.specs.Events.{Stamped, all_events, AreOfPhases}
use Rattle.node_engine.specs.Running.{CanTake}
use Rattle.node_engine.proofs.RunLemmas.{can-more, phases-behind}
use Rattle.node_engine.proofs.run.run_phases.Goals as goal

pub loop-phase-preserved : goal.loop-phase-preserved
loop-phase-preserved g c =
    let head = c.args.head.now in let phase = c.in-Some.phase in let more = c.next.new.self.rest.items in let node = c.loop-phase.node in let done = c.loop-phase.yielded in
    let rest : c.loop-phase.phase-iterator.rest.items ≡ phase ∷ more = search rules in
    let able : CanTake head (all_events (phase ∷ more)) node = subst (λ (l : List (List Stamped)). CanTake head (all_events l) node) rest c.loop-phase.invariant.able in
    let stamped : AreOfPhases head.links (length done + 1) (phase ∷ more) = subst (AreOfPhases head.links (length done + 1)) rest c.loop-phase.invariant.stamped in
    record {
      able = can-more head phase more node c.run_phase_owned.new.node able c.in_ok-run_phase_owned.ensures.went;
      stamped = phases-behind head done phase more stamped;
      served = c.in_ok-run_phase_owned.ensures.served done stamped.1 c.loop-phase.invariant.served;
    }
