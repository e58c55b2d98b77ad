-- The local reference of a slot that is taken for the first time: the slot times the number of lanes that there may be, and the lane's number.
use Rattle.std.specs.Prelude.{ℕ, ◌+◌, ◌*◌}
use Rattle.relay_base.specs.declared.limits.TheConstants.{MOST_LANES}

abbrev pub reference_of_slot : ℕ → ℕ → ℕ
reference_of_slot lane slot = slot * MOST_LANES + lane
