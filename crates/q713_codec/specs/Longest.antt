-- The longest message that isn't LUDT or LUDTS.
use Rattle.std.specs.Prelude.{ℕ, ◌==◌, ◌||◌, ◌&&◌, nat_lt, not, Bool, List, length, slice_index}
use Rattle.q713_codec.specs.declared.longest.TheConstants.{LONGEST}

-- the octets are more than that, and no LUDT or LUDTS
abbrev pub is_too_long : List ℕ → Bool
is_too_long bytes = nat_lt LONGEST (length bytes) && not (slice_index bytes 0 == 0x13 || slice_index bytes 0 == 0x14)
