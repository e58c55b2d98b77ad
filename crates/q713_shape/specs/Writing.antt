-- The octets of a message (Q.713, 2.3): the type, the fixed part, the pointers, the variable parameters, and the optional part last.
use Rattle.std.specs.Prelude.{ℕ, ◌+◌, ◌*◌, ◌/◌, ◌%◌, ◌==◌, ◌&&◌, nat_le, Bool, true, List, [], ◌∷◌, ◌++◌, length, map, if◌then◌else◌, Option, Some, None}
use Rattle.std.specs.List.{concat, list_all}
use Rattle.relay_base.specs.declared.limits.TheConstants.{GREATEST_OCTET}
use Rattle.q713_shape.specs.declared.rules.VarRule.{VarRule}
use Rattle.q713_shape.specs.Format.{Format, Values, option_count, pointer_width, is_long, is_length_of, is_option_length}

-- a number in one octet or in two, the least significant first
abbrev pub number_octets : Bool → ℕ → List ℕ
number_octets wide n = if wide then n % 256 ∷ n / 256 % 256 ∷ [] else n % 256 ∷ []

-- a variable parameter, with its length
abbrev pub variable : VarRule → List ℕ → List ℕ
variable rule value = number_octets (is_long rule) (length value) ++ value

abbrev pub variables : List VarRule → List (List ℕ) → List (List ℕ)
variables [] values = []
variables (rule ∷ rules) [] = []
variables (rule ∷ rules) (value ∷ values) = variable rule value ∷ variables rules values

-- an optional parameter, with its name and length
abbrev pub given : ℕ → Option (List ℕ) → List ℕ
given name None = []
given name (Some value) = name ∷ (length value % 256) ∷ value

abbrev pub all_given : List ℕ → List (Option (List ℕ)) → List ℕ
all_given [] values = []
all_given (name ∷ names) [] = []
all_given (name ∷ names) (value ∷ values) = given name value ++ all_given names values

-- the optional part: it ends with 00 where it has a parameter
abbrev pub ended : List ℕ → List ℕ
ended [] = []
ended (octet ∷ octets) = (octet ∷ octets) ++ 0 ∷ []

abbrev pub optional_part : Option (List ℕ) → List (Option (List ℕ)) → List ℕ
optional_part None values = []
optional_part (Some names) values = ended (all_given names values)

-- What the pointers of variable parameters count: the last octet of the pointer itself, the pointers behind it, and the
-- parameters before its own.
abbrev pub skips : ℕ → ℕ → ℕ → List (List ℕ) → List ℕ
skips width behind before [] = []
skips width behind before (part ∷ parts) =
    (1 + width * (length parts + behind) + before) ∷ skips width behind (before + length part) parts

-- what the pointer of the optional part counts: 0 where no optional parameter is there
abbrev pub optional_skip_of : ℕ → ℕ → ℕ
optional_skip_of before len = if len == 0 then 0 else 1 + before

abbrev pub option_skip : Option (List ℕ) → ℕ → List ℕ → List ℕ
option_skip None before part = []
option_skip (Some names) before part = optional_skip_of before (length part) ∷ []

abbrev pub pointers : Format → Values → List ℕ
pointers format values =
    let parts = variables format.vars values.vars in
    skips (pointer_width format.wide) (option_count format.options) 0 parts
    ++ option_skip format.options (length (concat parts)) (optional_part format.options values.options)

-- the octets of these values in this format
unfoldable pub octets_of : Format → Values → List ℕ
octets_of format values =
    format.kind ∷ values.fixed ++ concat (map (number_octets format.wide) (pointers format values))
    ++ concat (variables format.vars values.vars) ++ optional_part format.options values.options

-- each variable parameter, and each optional one, has a length that it may have
abbrev pub have_lengths : List VarRule → List (List ℕ) → Bool
have_lengths [] values = true
have_lengths (rule ∷ rules) [] = true
have_lengths (rule ∷ rules) (value ∷ values) = is_length_of rule (length value) && have_lengths rules values

abbrev pub is_option : ℕ → Option (List ℕ) → Bool
is_option name None = true
is_option name (Some value) = is_option_length name (length value)

abbrev pub have_option_lengths : List ℕ → List (Option (List ℕ)) → Bool
have_option_lengths [] values = true
have_option_lengths (name ∷ names) [] = true
have_option_lengths (name ∷ names) (value ∷ values) = is_option name value && have_option_lengths names values

abbrev pub are_options : Option (List ℕ) → List (Option (List ℕ)) → Bool
are_options None values = true
are_options (Some names) values = have_option_lengths names values

-- a pointer fits its octets
abbrev pub fits_pointer : Bool → ℕ → Bool
fits_pointer wide n = nat_le n (if wide then 65_535 else GREATEST_OCTET)

-- the values may be written in this format
unfoldable pub are_in_range : Format → Values → Bool
are_in_range format values =
    have_lengths format.vars values.vars && are_options format.options values.options
    && list_all (fits_pointer format.wide) (pointers format values)
