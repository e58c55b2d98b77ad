-- The lists of different numbers in a head: its local users, the points that are concerned, and those that can't take an LUDT.
use Rattle.std.specs.Prelude.{ℕ, ℤ, ◌-◌, ◌==◌, nat_lt, codes, List, [], ◌∷◌, ◌++◌, length, if◌then◌else◌, Option, Some, None, Ok, Err, option_and_then}
use Rattle.std.specs.List.{list_any}
use Rattle.std.specs.declared.result.Result.{Result}
use Rattle.relay_base.specs.declared.limits.TheConstants.{POINT_CODES}
use Rattle.relay_base.specs.Giving.{◌>>=◌}
use Rattle.toml.specs.Data.{Data, Items, no_items, item, as_integer, as_array}
use Rattle.node_head.specs.declared.head.TheConstants.{GREATEST_USER, LEAST_USER}
use Rattle.node_head.specs.declared.numbers.TheConstants.{MOST_NUMBERS}
use Rattle.node_head.specs.declared.fault.HeadFault.{HeadFault}
use Rattle.node_head.specs.declared.fault.HeadKind.TheVariants as kind
use Rattle.node_head.specs.declared.section.Bounds.{Bounds}
use Rattle.node_head.specs.Keys.{number_in, required}
use Rattle.node_head.specs.Refusals.{fault, or_fault}

-- the integers that the items are, where each one is one, after those found
abbrev pub integers_after : List ℤ → Items → Option (List ℤ)
integers_after found no_items = Some found
integers_after found (item d ds) = option_and_then (λ z. integers_after (found ++ z ∷ []) ds) (as_integer d)

-- a number in the range that was not found before
abbrev pub new_number : Bounds → List ℕ → ℤ → Option ℕ
new_number b found z = option_and_then (λ n. if list_any (λ m. m == n) found then None else Some n) (number_in b.least b.most z)

-- the numbers in the range and all different, after those found
abbrev pub numbers_after : Bounds → List ℕ → List ℤ → Option (List ℕ)
numbers_after b found [] = Some found
numbers_after b found (z ∷ zs) = option_and_then (λ n. numbers_after b (found ++ n ∷ []) zs) (new_number b found z)

-- at most 16 different numbers in the range, none where the key is absent
unfoldable pub numbers_value : List ℕ → Bounds → Option Data → Result (List ℕ) HeadFault
numbers_value key b None = Ok []
numbers_value key b (Some d) = do
  items ← or_fault (as_array d) (fault kind.Kind key)
  numbers ← or_fault (integers_after [] items) (fault kind.Kind key)
  or_fault (if nat_lt MOST_NUMBERS (length numbers) then None else numbers_after b [] numbers) (fault kind.Range key)

-- the local users
abbrev pub users_value : Option Data → Result (List ℕ) HeadFault
users_value d = numbers_value (codes "users") (required LEAST_USER GREATEST_USER) d

-- points of which the own one is none
abbrev pub other_points : List ℕ → ℕ → List ℕ → Result (List ℕ) HeadFault
other_points key own points = if list_any (λ point. point == own) points then Err (fault kind.Range key) else Ok points

-- the points at a key
unfoldable pub points_value : List ℕ → ℕ → Option Data → Result (List ℕ) HeadFault
points_value key own d = numbers_value key (required 0 (POINT_CODES - 1)) d >>= other_points key own
