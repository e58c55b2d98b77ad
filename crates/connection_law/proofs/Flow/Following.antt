-- A connection that hears any events.
use Rattle.std.proofs.Common.{Bool, true, false, List, [], ◌∷◌}
use Rattle.relay_base.specs.declared.words.Event.{Event}
use Rattle.plant_core.specs.declared.terms.Ticks.{Ticks}
use Rattle.section_model.specs.Ends.{End, wire, owner, Connection}
use Rattle.section_model.specs.Step.{hears}
use Rattle.section_model.specs.Lane.{next, heard, follow}
use Rattle.connection_law.specs.InStep.{IsInStep, AreInStep}
use Rattle.connection_law.specs.FlowLaw.{EndKept, FlowKept, FlowLaw}
use Rattle.connection_law.proofs.Flow.Ends.{kept_back}
use Rattle.connection_law.proofs.Flow.Step.{step_keeps}
use Rattle.connection_law.proofs.Flow.Opening.{opening_keeps}

follows : (ticks : Ticks) (c : Connection) (events : List Event) → IsInStep c → IsInStep (follow ticks c (heard ticks c events))
unfolding heard follow
follows ticks c [] k = k
follows ticks c (event ∷ events) k = by_test (hears c event) (follows ticks (next ticks c event) events (step_keeps ticks c event k)) (follows ticks c events k)
  where
    by_test : (b : Bool) → IsInStep (follow ticks (next ticks c event) (heard ticks (next ticks c event) events)) → IsInStep (follow ticks c (heard ticks c events))
        → IsInStep (follow ticks c (elim b [ true ↦ event ∷ heard ticks (next ticks c event) events | false ↦ heard ticks c events ]))
    by_test true f g = f
    by_test false f g = g

end_kept : (this that : End) → AreInStep this that → EndKept this that
end_kept (wire x) that k = (λ three. (k.4 three).1, λ two. (k.5 two).0)
end_kept (owner u) that k = tt

pub flow_kept : (c : Connection) → IsInStep c → FlowKept c
flow_kept c k = (end_kept c.this c.that k, end_kept c.that c.this (kept_back c k))

pub flow_law : FlowLaw
flow_law terms event answer references c events fits e =
    flow_kept _ (follows terms.ticks c events (opening_keeps terms event answer references c fits e))
