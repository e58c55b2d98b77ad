use Rattle.std.proofs.Common.{length, sym, subst}
use Rattle.capture_form.specs.Events.{phase_events}
use Rattle.scmg.specs.Lane.{ControlState}
use Rattle.lane_turns.specs.Phases.{GoesOn, HasRoomFor}
use Rattle.node_engine.proofs.BarrierLemmas.{room-open, went-closed}
use Rattle.node_engine.proofs.phase.after_phase.Goals as goal

pub take_phase-requires-clause-room : goal.take_phase-requires-clause-room
take_phase-requires-clause-room g c = λ lifetimes within.
    let count = length (phase_events c.args.phase) in let lanes = c.in_ok-control.lanes in
    subst (λ (l : ControlState). HasRoomFor count l lanes) (sym c.in_ok-control.ensures.control) (room-open count c.args.node lanes c.requires.able.room c.in_ok-control.ensures.open)

pub returns-clause-went : goal.returns-clause-went
returns-clause-went g c =
    let head = c.args.head.now in let lists = c.args.phase in let node = c.args.node in let old = c.in_ok-control.lanes in let new = c.in_ok-control-2.lanes in let control = c.in_ok-control-2.control in
    let went : GoesOn head lists node.control old control new = subst (λ (l : ControlState). GoesOn head lists l old control new) c.in_ok-control.ensures.control c.in_ok-control-2.ensures in
    went-closed head lists node control old new c.closed_lanes.result c.requires.able.lanes c.in_ok-control.ensures.open went c.closed_lanes.ensures.closed c.in_ok-control.ensures.legal c.closed_lanes.ensures.legal
