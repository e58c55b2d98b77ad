use Rattle.std.proofs.Common.{ℕ, All, length, sym, subst}
use Rattle.capture_form.specs.Events.{phase_events}
use Rattle.conn_journal.specs.Lanes.{ConnLaneState}
use Rattle.lane_turns.specs.LaneStates.{Conn}
use Rattle.lane_seats.specs.Seats.{SeatState}
use Rattle.lane_turns.specs.Turns.{HasRoom}
use Rattle.lane_turns.proofs.RowLemmas.{rooms}
use Rattle.lane_turns.proofs.phase_lanes.PhaseLanes.into_row.Goals as goal

pub in_row-requires-clause-room : goal.in_row-requires-clause-room
in_row-requires-clause-room g c =
    let events : ℕ = length (phase_events c.args.phase.now) in
    subst (All (λ (s : SeatState ConnLaneState). HasRoom events (Conn s))) (sym c.into_parts-publisher.ensures.conns) (rooms events c.args.self.conns c.requires.room.conns)
