-- How many octets CR has as it goes on, and whether it can be written, by the lengths of its parameters (Q.713, 4.2).
use Rattle.std.specs.Prelude.{ℕ, ◌+◌, ◌==◌, ◌&&◌, nat_le, Bool, List, length, if◌then◌else◌, Option, Some, None}
use Rattle.relay_base.specs.declared.limits.TheConstants.{GREATEST_OCTET, LONGEST_PARAMETER}
use Rattle.q713_codec.specs.declared.longest.TheConstants.{LONGEST}
use Rattle.section_model.specs.Line.{credit_of}
use Rattle.section_model.specs.Opening.{Wanted}

-- an optional parameter, with its name and its length
abbrev pub option_size : Option (List ℕ) → ℕ
option_size None = 0
option_size (Some octets) = 2 + length octets

-- one of one octet
abbrev pub octet_size : Option ℕ → ℕ
octet_size None = 0
octet_size (Some octet) = 3

-- the optional parameters of CR
abbrev pub options_size : Wanted → Option ℕ → ℕ
options_size w hop =
    octet_size (credit_of w.class w.credit) + option_size w.calling + option_size w.body + octet_size hop + octet_size w.importance

-- the optional part, which ends with 00 where it has a parameter
abbrev pub part_size : ℕ → ℕ
part_size options = if options == 0 then 0 else options + 1

-- CR has a called address of so many octets, and optional parameters of so many
abbrev pub are_fitting : ℕ → ℕ → Bool
are_fitting called options =
    nat_le called LONGEST_PARAMETER
    && nat_le (if options == 0 then 0 else 2 + called) GREATEST_OCTET
    && nat_le (8 + called + part_size options) LONGEST
