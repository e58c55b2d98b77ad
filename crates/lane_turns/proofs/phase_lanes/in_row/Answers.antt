use Rattle.std.proofs.Common.{◌≡◌, ◌++◌, List, length, ap, arith, length-append}
use Rattle.lane_turns.specs.Turns.{TurnState}
use Rattle.lane_turns.specs.Rows.{turns_from, conn_turn, data_turn}
use Rattle.lane_turns.proofs.RowLemmas.{turns_size}
use Rattle.lane_turns.proofs.phase_lanes.in_row.Goals as goal

pub push_reserved-requires : goal.push_reserved-requires
push_reserved-requires g c =
    let conns : List TurnState = turns_from (conn_turn c.args.head.now c.args.phase.now) 0 c.args.conns.items in
    let units : List TurnState = turns_from (data_turn c.args.head.now c.args.phase.now) 0 c.args.units.items in
    let turns : c.add_both.new.turns.items ≡ (c.args.row.items ++ conns) ++ units = c.add_both.ensures.turns in
    omega (
      arith,
      c.add_both.new.turns.ok.0,
      ap length turns,
      length-append (c.args.row.items ++ conns) units,
      length-append c.args.row.items conns,
      turns_size (conn_turn c.args.head.now c.args.phase.now) 0 c.args.conns.items,
      turns_size (data_turn c.args.head.now c.args.phase.now) 0 c.args.units.items,
      ap length c.requires.empty,
      c.requires.reserved,
      c.add_both.ensures.capacity,
    )
