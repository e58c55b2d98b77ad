-- Writing a message (Q.713, 2.3): the type, the fixed part, the pointers, the variable parameters and the optional part, each
-- pointer the sum of the lengths that it skips.
use Rattle.std.specs.Prelude.{ℕ, ◌&&◌, nat_le, Bool, true, false, List, length, if◌then◌else◌, Option, Some, None, IsTrue}
use Rattle.q713_shape.specs.Writing.{octets_of, are_in_range}
use Rattle.q713_codec.specs.declared.message.Message.{Message as MessageOf}
use Rattle.q713_codec.specs.Names.{Message, Udt, Udts, Xudt, Xudts, Ludt, Ludts}
use Rattle.q713_codec.specs.Messages.{format_in, values_of_message}

unfoldable pub spelling_of : Message → List ℕ
spelling_of message = octets_of (format_in message) (values_of_message message)

-- A message may be written: its variable and its optional parameters have lengths that Q.713 allows, and each pointer fits its
-- octets.
unfoldable pub is_in_range : Message → Bool
is_in_range message = are_in_range (format_in message) (values_of_message message)

abbrev pub InRange : Message → Type 0
InRange message = IsTrue (is_in_range message)

-- a unit or a service message, whatever its octets lie in
abbrev pub is_unit : {O : Type 0} → MessageOf O → Bool
is_unit (Udt _ _ _ _) = true
is_unit (Udts _ _ _ _) = true
is_unit (Xudt _ _ _ _ _ _ _) = true
is_unit (Xudts _ _ _ _ _ _ _) = true
is_unit (Ludt _ _ _ _ _ _ _) = true
is_unit (Ludts _ _ _ _ _ _ _) = true
is_unit _ = false

abbrev pub is_within : Option ℕ → ℕ → Bool
is_within None count = true
is_within (Some most) count = nat_le count most

-- the octets of a message that may be written, and has no more of them than these where there is a bound
abbrev pub spelling_within : Option ℕ → Message → Option (List ℕ)
spelling_within most message =
    if is_in_range message && is_within most (length (spelling_of message)) then Some (spelling_of message) else None
