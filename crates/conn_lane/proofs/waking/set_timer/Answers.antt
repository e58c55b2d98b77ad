use Rattle.std.proofs.Common.{arith}
use Rattle.timer_wheel.specs.Timers.{timer_of}
use Rattle.conn_lane.proofs.Wheels.{others_length}
use Rattle.conn_lane.proofs.waking.set_timer.Goals as goal

pub arm-requires-clause-room : goal.arm-requires-clause-room
arm-requires-clause-room c = omega (arith, c.requires.room, others_length (timer_of c.args.number c.args.timer) c.args.wheel.now.armed)
