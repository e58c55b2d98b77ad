-- The message of a type with these values, and the values of a message (Q.713, 4.2 to 4.21).
use Rattle.std.specs.Prelude.{ℕ, ◌+◌, ◌*◌, ◌/◌, ◌%◌, List, [], ◌∷◌, ◌++◌, slice_index, slice_index_or, Option, Some, None}
use Rattle.std.specs.Option.{option_map}
use Rattle.q713_shape.specs.Format.{Format, Values, filled}
use Rattle.q713_codec.specs.Names.{Message, Cr, Cc, Cref, Rlsd, Rlc, Dt1, Dt2, Ak, Udt, Udts, Ed, Ea, Rsr, Rsc, Error, It, Xudt, Xudts, Ludt, Ludts}
use Rattle.q713_codec.specs.Formats.{cr_format, cc_format, cref_format, rlsd_format, rlc_format, dt1_format, dt2_format, ak_format, udt_format, udts_format, ed_format, ea_format, rsr_format, rsc_format, err_format, it_format, xudt_format, xudts_format, ludt_format, ludts_format}

-- the octet, the two octets and the reference at a place of the fixed part; a reference has its least significant octet first
abbrev pub octet_at : ℕ → List ℕ → ℕ
octet_at place fixed = slice_index fixed place

abbrev pub two_at : ℕ → List ℕ → List ℕ
two_at place fixed = slice_index fixed place ∷ slice_index fixed (place + 1) ∷ []

abbrev pub reference_at : ℕ → List ℕ → ℕ
reference_at place fixed = slice_index fixed place + 256 * slice_index fixed (place + 1) + 65_536 * slice_index fixed (place + 2)

-- the class in its octet (Q.713, 3.6)
abbrev pub protocol_class : ℕ → ℕ
protocol_class octet = octet % 16

-- the variable parameter and the optional one at a place of their list
abbrev pub variable_in : ℕ → Values → List ℕ
variable_in place values = slice_index_or values.vars place []

abbrev pub optional_in : ℕ → Values → Option (List ℕ)
optional_in place values = slice_index_or values.options place None

-- an optional parameter of one octet, and of four
abbrev pub one_octet : Option (List ℕ) → Option ℕ
one_octet (Some (octet ∷ [])) = Some octet
one_octet _ = None

abbrev pub four_octets : Option (List ℕ) → Option (List ℕ)
four_octets (Some (a ∷ b ∷ c ∷ d ∷ [])) = Some (a ∷ b ∷ c ∷ d ∷ [])
four_octets _ = None

abbrev pub cr_of : Values → Message
cr_of values = Cr (reference_at 0 values.fixed) (octet_at 3 values.fixed) (variable_in 0 values) (one_octet (optional_in 0 values)) (optional_in 1 values) (optional_in 2 values) (one_octet (optional_in 3 values)) (one_octet (optional_in 4 values))

abbrev pub cc_of : Values → Message
cc_of values = Cc (reference_at 0 values.fixed) (reference_at 3 values.fixed) (octet_at 6 values.fixed) (one_octet (optional_in 0 values)) (optional_in 1 values) (optional_in 2 values) (one_octet (optional_in 3 values))

abbrev pub cref_of : Values → Message
cref_of values = Cref (reference_at 0 values.fixed) (octet_at 3 values.fixed) (optional_in 0 values) (optional_in 1 values) (one_octet (optional_in 2 values))

abbrev pub rlsd_of : Values → Message
rlsd_of values = Rlsd (reference_at 0 values.fixed) (reference_at 3 values.fixed) (octet_at 6 values.fixed) (optional_in 0 values) (one_octet (optional_in 1 values))

abbrev pub rlc_of : Values → Message
rlc_of values = Rlc (reference_at 0 values.fixed) (reference_at 3 values.fixed)

abbrev pub dt1_of : Values → Message
dt1_of values = Dt1 (reference_at 0 values.fixed) (octet_at 3 values.fixed) (variable_in 0 values)

abbrev pub dt2_of : Values → Message
dt2_of values = Dt2 (reference_at 0 values.fixed) (two_at 3 values.fixed) (variable_in 0 values)

abbrev pub ak_of : Values → Message
ak_of values = Ak (reference_at 0 values.fixed) (octet_at 3 values.fixed) (octet_at 4 values.fixed)

abbrev pub udt_of : Values → Message
udt_of values = Udt (octet_at 0 values.fixed) (variable_in 0 values) (variable_in 1 values) (variable_in 2 values)

abbrev pub udts_of : Values → Message
udts_of values = Udts (octet_at 0 values.fixed) (variable_in 0 values) (variable_in 1 values) (variable_in 2 values)

abbrev pub ed_of : Values → Message
ed_of values = Ed (reference_at 0 values.fixed) (variable_in 0 values)

abbrev pub ea_of : Values → Message
ea_of values = Ea (reference_at 0 values.fixed)

abbrev pub rsr_of : Values → Message
rsr_of values = Rsr (reference_at 0 values.fixed) (reference_at 3 values.fixed) (octet_at 6 values.fixed)

abbrev pub rsc_of : Values → Message
rsc_of values = Rsc (reference_at 0 values.fixed) (reference_at 3 values.fixed)

abbrev pub err_of : Values → Message
err_of values = Error (reference_at 0 values.fixed) (octet_at 3 values.fixed)

abbrev pub it_of : Values → Message
it_of values = It (reference_at 0 values.fixed) (reference_at 3 values.fixed) (octet_at 6 values.fixed) (two_at 7 values.fixed) (octet_at 9 values.fixed)

abbrev pub xudt_of : Values → Message
xudt_of values = Xudt (octet_at 0 values.fixed) (octet_at 1 values.fixed) (variable_in 0 values) (variable_in 1 values) (variable_in 2 values) (four_octets (optional_in 0 values)) (one_octet (optional_in 1 values))

abbrev pub xudts_of : Values → Message
xudts_of values = Xudts (octet_at 0 values.fixed) (octet_at 1 values.fixed) (variable_in 0 values) (variable_in 1 values) (variable_in 2 values) (four_octets (optional_in 0 values)) (one_octet (optional_in 1 values))

abbrev pub ludt_of : Values → Message
ludt_of values = Ludt (octet_at 0 values.fixed) (octet_at 1 values.fixed) (variable_in 0 values) (variable_in 1 values) (variable_in 2 values) (four_octets (optional_in 0 values)) (one_octet (optional_in 1 values))

abbrev pub ludts_of : Values → Message
ludts_of values = Ludts (octet_at 0 values.fixed) (octet_at 1 values.fixed) (variable_in 0 values) (variable_in 1 values) (variable_in 2 values) (four_octets (optional_in 0 values)) (one_octet (optional_in 1 values))

-- a reference in three octets, the least significant first (Q.713, 3.2, 3.3 and 3.17)
abbrev pub octets3 : ℕ → List ℕ
octets3 n = n % 256 ∷ n / 256 % 256 ∷ n / 65_536 % 256 ∷ []

abbrev pub in_one : Option ℕ → Option (List ℕ)
in_one = option_map (λ octet. octet ∷ [])

abbrev values_in : List ℕ → List (List ℕ) → List (Option (List ℕ)) → Values
values_in fixed vars options = record { fixed = fixed; vars = filled 3 [] vars; options = filled 5 None options }

-- the format of a message, and the values that it has in it
abbrev pub format_in : Message → Format
format_in (Cr _ _ _ _ _ _ _ _) = cr_format
format_in (Cc _ _ _ _ _ _ _) = cc_format
format_in (Cref _ _ _ _ _) = cref_format
format_in (Rlsd _ _ _ _ _) = rlsd_format
format_in (Rlc _ _) = rlc_format
format_in (Dt1 _ _ _) = dt1_format
format_in (Dt2 _ _ _) = dt2_format
format_in (Ak _ _ _) = ak_format
format_in (Udt _ _ _ _) = udt_format
format_in (Udts _ _ _ _) = udts_format
format_in (Ed _ _) = ed_format
format_in (Ea _) = ea_format
format_in (Rsr _ _ _) = rsr_format
format_in (Rsc _ _) = rsc_format
format_in (Error _ _) = err_format
format_in (It _ _ _ _ _) = it_format
format_in (Xudt _ _ _ _ _ _ _) = xudt_format
format_in (Xudts _ _ _ _ _ _ _) = xudts_format
format_in (Ludt _ _ _ _ _ _ _) = ludt_format
format_in (Ludts _ _ _ _ _ _ _) = ludts_format

abbrev pub values_of_message : Message → Values
values_of_message (Cr slr class called credit calling body hop importance) = values_in (octets3 slr ++ class ∷ []) (called ∷ []) (in_one credit ∷ calling ∷ body ∷ in_one hop ∷ in_one importance ∷ [])
values_of_message (Cc dlr slr class credit called body importance) = values_in (octets3 dlr ++ octets3 slr ++ class ∷ []) [] (in_one credit ∷ called ∷ body ∷ in_one importance ∷ [])
values_of_message (Cref dlr cause called body importance) = values_in (octets3 dlr ++ cause ∷ []) [] (called ∷ body ∷ in_one importance ∷ [])
values_of_message (Rlsd dlr slr cause body importance) = values_in (octets3 dlr ++ octets3 slr ++ cause ∷ []) [] (body ∷ in_one importance ∷ [])
values_of_message (Rlc dlr slr) = values_in (octets3 dlr ++ octets3 slr) [] []
values_of_message (Dt1 dlr segmenting body) = values_in (octets3 dlr ++ segmenting ∷ []) (body ∷ []) []
values_of_message (Dt2 dlr sequencing body) = values_in (octets3 dlr ++ sequencing) (body ∷ []) []
values_of_message (Ak dlr receive credit) = values_in (octets3 dlr ++ receive ∷ credit ∷ []) [] []
values_of_message (Udt class called calling body) = values_in (class ∷ []) (called ∷ calling ∷ body ∷ []) []
values_of_message (Udts cause called calling body) = values_in (cause ∷ []) (called ∷ calling ∷ body ∷ []) []
values_of_message (Ed dlr body) = values_in (octets3 dlr) (body ∷ []) []
values_of_message (Ea dlr) = values_in (octets3 dlr) [] []
values_of_message (Rsr dlr slr cause) = values_in (octets3 dlr ++ octets3 slr ++ cause ∷ []) [] []
values_of_message (Rsc dlr slr) = values_in (octets3 dlr ++ octets3 slr) [] []
values_of_message (Error dlr cause) = values_in (octets3 dlr ++ cause ∷ []) [] []
values_of_message (It dlr slr class sequencing credit) = values_in (octets3 dlr ++ octets3 slr ++ class ∷ [] ++ sequencing ++ credit ∷ []) [] []
values_of_message (Xudt class hop called calling body segmentation importance) = values_in (class ∷ hop ∷ []) (called ∷ calling ∷ body ∷ []) (segmentation ∷ in_one importance ∷ [])
values_of_message (Xudts cause hop called calling body segmentation importance) = values_in (cause ∷ hop ∷ []) (called ∷ calling ∷ body ∷ []) (segmentation ∷ in_one importance ∷ [])
values_of_message (Ludt class hop called calling body segmentation importance) = values_in (class ∷ hop ∷ []) (called ∷ calling ∷ body ∷ []) (segmentation ∷ in_one importance ∷ [])
values_of_message (Ludts cause hop called calling body segmentation importance) = values_in (cause ∷ hop ∷ []) (called ∷ calling ∷ body ∷ []) (segmentation ∷ in_one importance ∷ [])
