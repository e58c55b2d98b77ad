-- Which messages may want a connection.
use Rattle.std.specs.Prelude.{ℕ, ◌==◌, Bool, false, Option, Some, None}

-- the first octet of a message is the type of CR (Q.713, 2.3)
abbrev pub is_of_cr : Option ℕ → Bool
is_of_cr None = false
is_of_cr (Some kind) = kind == 1
