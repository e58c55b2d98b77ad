-- Rows that can be added one after the other.
use Rattle.std.specs.Prelude.{◌&&◌, Bool, true, List, [], ◌∷◌, ◌++◌, is_none}
use Rattle.gtt_table.specs.Adding.{add_refusal}
use Rattle.gtt_table.specs.declared.row.Row.{Row}

-- no two rows have one selector and one prefix, and there are at most 4,096, with those found
abbrev pub are_addable : List Row → List Row → Bool
are_addable found [] = true
are_addable found (row ∷ more) = is_none (add_refusal found row) && are_addable (found ++ row ∷ []) more
