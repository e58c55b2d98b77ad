-- The address of a subsystem alone (Q.713, 3.4): it routes on its subsystem number, and names no point.
use Rattle.std.specs.Prelude.{ℕ, List, [], ◌∷◌}

abbrev pub subsystem_address : ℕ → List ℕ
subsystem_address ssn = 0x42 ∷ ssn ∷ []
