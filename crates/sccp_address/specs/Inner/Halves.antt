-- The halves of octets, by their places.
use Rattle.std.specs.Prelude.{ℕ, ◌/◌, ◌%◌, ◌==◌, List, slice_index, if◌then◌else◌}

-- the half at a place
abbrev pub nibble_at : List ℕ → ℕ → ℕ
nibble_at octets place =
    if place % 2 == 0 then slice_index octets (place / 2) % 16 else slice_index octets (place / 2) / 16
