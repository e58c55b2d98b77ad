use Rattle.std.proofs.Common.{◌≡◌, ◌++◌, List, length, ap, arith, length-append}
use Rattle.lane_turns.specs.Turns.{TurnState}
use Rattle.lane_turns.specs.Rows.{turns_from, conn_turn}
use Rattle.lane_turns.proofs.RowLemmas.{turns_size}
use Rattle.lane_turns.proofs.phase_lanes.add_both.Goals as goal

pub add_turns-requires-2-clause-reserved : goal.add_turns-requires-2-clause-reserved
add_turns-requires-2-clause-reserved g c =
    let conns : List TurnState = turns_from (conn_turn c.args.head.now c.args.phase.now) 0 c.args.conns.items in
    let turns : c.add_turns.new.turns.items ≡ c.args.turns.now.items ++ conns = c.add_turns.ensures.turns in
    omega (
      arith,
      ap length turns,
      length-append c.args.turns.now.items conns,
      turns_size (conn_turn c.args.head.now c.args.phase.now) 0 c.args.conns.items,
      c.requires.reserved,
      c.add_turns.ensures.capacity,
    )
