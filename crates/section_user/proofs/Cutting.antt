-- The units of a text, one by one.
use Rattle.std.proofs.Common.{◌≡◌, ℕ, ◌+◌, ◌-◌, ◌*◌, ◌/◌, ◌<◌, List, [], ◌∷◌, ◌++◌, map, arith, ap, ◌∙◌}
use Rattle.std.specs.List.{range_with_len}
use Rattle.std.proofs.lemmas.List.{map-append}
use Rattle.std.proofs.lemmas.List.FromFn.{map-range_with_len_more}
use Rattle.section_model.specs.declared.limits.TheConstants.{LONGEST_UNIT}
use Rattle.section_model.specs.UserEnd.{handed, unit_at}

-- one unit more
pub one_more : (body : List ℕ) (k : ℕ) → map handed (map (unit_at body) (range_with_len 0 (k + 1))) ≡ map handed (map (unit_at body) (range_with_len 0 k)) ++ handed (unit_at body k) ∷ []
one_more body k =
    ap (map handed) (map-range_with_len_more (unit_at body) 0 k k (omega arith)) ∙ map-append handed (map (unit_at body) (range_with_len 0 k)) (unit_at body k ∷ [])

-- a unit's place stands within the text
pub starts_within : (n k : ℕ) → k < (n + (LONGEST_UNIT - 1)) / LONGEST_UNIT → LONGEST_UNIT * k < n
starts_within n k e = omega (arith, e)
