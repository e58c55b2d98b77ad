-- What the rules of a message type say.
use Rattle.std.specs.Prelude.{ℕ, nat_le, Bool, true, List, length, Option, Some, None}
use Rattle.q713_shape.specs.declared.rules.OptionRule.{OptionRule}
use Rattle.q713_shape.specs.declared.rules.OptionRule.TheVariants.{Absent, Names}

-- the names of the optional part, where there is one
abbrev pub names_of : OptionRule → Option (List ℕ)
names_of Absent = None
names_of (Names names) = Some names.now

-- there are no more names than Parts has places
abbrev pub has_few_names : OptionRule → Bool
has_few_names Absent = true
has_few_names (Names names) = nat_le (length names.now) 5
