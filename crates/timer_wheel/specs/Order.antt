-- The order of timers: by connection, then by timer.
use Rattle.std.specs.Prelude.{◌==◌, ◌&&◌, ◌||◌, nat_lt, Bool}
use Rattle.timer_wheel.specs.declared.due.Due.{Due}

abbrev pub is_before : Due → Due → Bool
is_before a b = nat_lt a.conn b.conn || (a.conn == b.conn && nat_lt a.timer b.timer)
