-- The local references that a node's journal gave (Q.714, 3.3.2).
use Rattle.std.specs.Prelude.{ℕ, nat_eq, ◌||◌, not, Bool, false, List, [], ◌∷◌, ◌++◌, flat_map, Option, Some, None}
use Rattle.std.specs.List.{list_any, list_all}
use Rattle.section_model.specs.Lane.{Opening, reference_of}
use Rattle.chain_step.specs.Run.{NodeState, RunState, openings_of}

abbrev pub listed : Option ℕ → List ℕ
listed None = []
listed (Some mine) = mine ∷ []

-- those of both ends of a connection, as it was opened
abbrev pub references_in : Opening → List ℕ
references_in o = listed (reference_of o.first.this) ++ listed (reference_of o.first.that)

abbrev pub references_of : NodeState → List ℕ
references_of node = flat_map references_in (openings_of node)

abbrev pub is_among : ℕ → List ℕ → Bool
is_among mine list = list_any (nat_eq mine) list

abbrev pub has_twice : List ℕ → Bool
has_twice [] = false
has_twice (mine ∷ more) = is_among mine more || has_twice more

-- the journal gave no reference twice
abbrev pub is_fresh : NodeState → Bool
is_fresh node = not (has_twice (references_of node))

abbrev pub all_fresh : RunState → Bool
all_fresh r = list_all is_fresh r.nodes
