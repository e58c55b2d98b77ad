-- The format of a message type, and the values that a message has in it (Q.713, 2.3).
use Rattle.std.specs.Prelude.{ℕ, ◌+◌, ◌-◌, ◌*◌, ◌==◌, ◌||◌, ◌&&◌, nat_lt, nat_le, Bool, List, ◌++◌, length, replicate, Option, Some, None, if◌then◌else◌}
use Rattle.relay_base.specs.declared.limits.TheConstants.{LONGEST_DATA, LONGEST_PARAMETER}
use Rattle.q713_shape.specs.declared.rules.VarRule.{VarRule}

-- The type octet; for each octet of the fixed part the name of its parameter; the variable parameters; the names of the
-- optional part, if there is one; whether pointers have two octets.
pub record Format : Type 0 where
  pub kind : ℕ
  pub fixed : List ℕ
  pub vars : List VarRule
  pub options : Option (List ℕ)
  pub wide : Bool

-- The values of a message's parameters. There is room for three variable and five optional ones.
pub record Values : Type 0 where
  pub fixed : List ℕ
  pub vars : List (List ℕ)
  pub options : List (Option (List ℕ))

-- a list that is filled up to n members
abbrev pub filled : {A : Type 0} → ℕ → A → List A → List A
filled n a xs = xs ++ replicate (n - length xs) a

-- the octets of a pointer, and of the length of a variable parameter (Q.713, 2.3)
abbrev pub pointer_width : Bool → ℕ
pointer_width wide = if wide then 2 else 1

abbrev pub is_long : VarRule → Bool
is_long rule = nat_lt LONGEST_PARAMETER rule.most

abbrev pub length_width : VarRule → ℕ
length_width rule = if is_long rule then 2 else 1

-- a length that a variable parameter may have, and one that the optional parameter of this name may have (Q.713, 3.4, 3.5, 3.16 and 3.17)
abbrev pub is_length_of : VarRule → ℕ → Bool
is_length_of rule size = nat_le rule.least size && nat_le size rule.most

abbrev pub is_option_length : ℕ → ℕ → Bool
is_option_length name size =
    if name == 0x03 || name == 0x04 then nat_le size LONGEST_PARAMETER
    else if name == 0x0F then nat_le 1 size && nat_le size LONGEST_DATA
    else if name == 0x10 then size == 4
    else size == 1

-- the pointers of a format: one for each variable parameter, and one for the optional part where there is one
abbrev pub option_count : Option (List ℕ) → ℕ
option_count None = 0
option_count (Some names) = 1

abbrev pub pointer_count : Format → ℕ
pointer_count format = length format.vars + option_count format.options

-- the first place behind the pointers
abbrev pub place_behind_pointers : Format → ℕ
place_behind_pointers format = 1 + length format.fixed + pointer_width format.wide * pointer_count format
